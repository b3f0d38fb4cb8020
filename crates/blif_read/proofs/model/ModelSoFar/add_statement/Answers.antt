use Rattle.std.proofs.Common.{◌≡◌, List, refl, sym, ap, ◌∙◌, subst, arith, Option, None, Some}
use Rattle.std.proofs.lemmas.List.{length-map}
use Rattle.netlist_spec.specs.Netlist.{Name}
use Rattle.netlist_spec.specs.Said.{said_of}
use Rattle.blif_read.specs.declared.file.Model.{Model}
use Rattle.blif_read.specs.declared.file.Statement.{Statement}
use Rattle.blif_read.specs.Kinds.{kind_in}
use Rattle.blif_read.specs.LineTests.{line_of}
use Rattle.blif_read.specs.Spelled.{SpellsSome, statement_said}
use Rattle.blif_read.proofs.BuildingLemmas.{IsSameBeside, statement_more, no_statement_more, opens_same, few_statement}
use Rattle.blif_read.proofs.model.ModelSoFar.add_statement.Goals as goal

pub returns-in_ok-put-clause-adds : goal.returns-in_ok-put-clause-adds
returns-in_ok-put-clause-adds c =
    let m = c.args.self.now.model in
    let new = c.put.new.self.model in
    let l = line_of c.args.line.now in
    let all = c.read_statement.new.names in
    let model = c.in_ok-put.ensures.model in
    let names : new.names ≡ all = ap (λ (x : Model). x.names) model in
    let same : IsSameBeside m new = record {
      name = ap (λ (x : Model). x.name) model;
      line = ap (λ (x : Model). x.line) model;
      inputs = ap (λ (x : Model). x.inputs) model;
      outputs = ap (λ (x : Model). x.outputs) model;
      clocks = ap (λ (x : Model). x.clocks) model;
    } in
    let says : SpellsSome all (Some c.in-Some.what) (statement_said (said_of l)) = subst (λ (o : Option Statement). SpellsSome all o (statement_said (said_of l))) c.in-Some.is c.in_ok-what.ensures.statement in
    statement_more m new c.args.self.now.cover c.put.new.self.cover l.number (said_of l) c.in-Some.what c.requires.no_cover same (names ∙ c.in_ok-what.ensures.names)
    (subst (λ (ns : List Name). SpellsSome ns (Some c.in-Some.what) (statement_said (said_of l))) (sym names) says)
    c.in_ok-put.ensures.puts

pub returns-in_ok-put-clause-cover : goal.returns-in_ok-put-clause-cover
returns-in_ok-put-clause-cover c =
    let l = line_of c.args.line.now in
    let all = c.read_statement.new.names in
    let says : SpellsSome all (Some c.in-Some.what) (statement_said (said_of l)) = subst (λ (o : Option Statement). SpellsSome all o (statement_said (said_of l))) c.in-Some.is c.in_ok-what.ensures.statement in
    c.in_ok-put.ensures.cover ∙ opens_same all c.in-Some.what (kind_in c.args.line.now.kind) l (sym c.requires.fits.is_line.kind) c.requires.no_row says

pub returns-in_ok-put-clause-few : goal.returns-in_ok-put-clause-few
returns-in_ok-put-clause-few c =
    let l = line_of c.args.line.now in
    let names : c.put.new.self.model.names ≡ c.read_statement.new.names = ap (λ (x : Model). x.names) c.in_ok-put.ensures.model in
    let few = few_statement c.args.self.now.model.names c.put.new.self.model.names l (said_of l) c.requires.fits.says (names ∙ c.in_ok-what.ensures.names) in
    omega (arith, few, length-map c.args.line.now.words.now (λ w. w.now))

pub returns-in_default-clause-adds : goal.returns-in_default-clause-adds
returns-in_default-clause-adds c =
    let m = c.args.self.now.model in
    let l = line_of c.args.line.now in
    let all = c.read_statement.new.names in
    let new : Model = record m { names = all } in
    let same : IsSameBeside m new = record { name = refl; line = refl; inputs = refl; outputs = refl; clocks = refl } in
    let says : SpellsSome all None (statement_said (said_of l)) = subst (λ (o : Option Statement). SpellsSome all o (statement_said (said_of l))) c.in_default.is c.in_ok-what.ensures.statement in
    no_statement_more m new c.args.self.now.cover c.args.self.now.cover (kind_in c.args.line.now.kind) l c.requires.no_cover c.requires.no_cover (sym c.requires.fits.is_line.kind)
    c.requires.no_ports c.requires.no_row same refl c.in_ok-what.ensures.names says
