use Rattle.std.proofs.Common.{◌≡◌, ◌∙◌, sym, ap, subst, map, Some, slice_get}
use Rattle.std.proofs.lemmas.Option.{slice_get-get_or}
use Rattle.netlist_spec.specs.Netlist.{Located, Statement}
use Rattle.blif_read.specs.declared.file.Located.{Located as ReadLocated}
use Rattle.blif_read.specs.View.{located_of, statement_of}
use Rattle.source_nets.specs.Ports.{source_file, source_library}
use Rattle.source_nets.proofs.SurveyLemmas.{row_at}
use Rattle.lowering.specs.Lowers.{Lowers}
use Rattle.lowering.proofs.CellLemmas.{then_ok}
use Rattle.lowering.proofs.cells.lower_cell.Goals as goal

pub lower_stated-requires-clause-meaning : goal.lower_stated-requires-clause-meaning
lower_stated-requires-clause-meaning c =
    let here : slice_get c.args.m.now.statements.items c.args.i ≡ Some c.index.result.now
    = slice_get-get_or c.args.m.now.statements.items c.args.i c.index.result.now c.requires.place ∙ ap (λ (x : ReadLocated). Some x) (sym c.index.ensures) in
    c.requires.meaning (located_of c.args.m.now.names c.index.result.now) (row_at (located_of c.args.m.now.names) c.args.m.now.statements.items c.args.i c.index.result.now here)

pub lower_stated-requires-clause-combines : goal.lower_stated-requires-clause-combines
lower_stated-requires-clause-combines c =
    let here : slice_get c.args.m.now.statements.items c.args.i ≡ Some c.index.result.now
    = slice_get-get_or c.args.m.now.statements.items c.args.i c.index.result.now c.requires.place ∙ ap (λ (x : ReadLocated). Some x) (sym c.index.ensures) in
    c.requires.combines (located_of c.args.m.now.names c.index.result.now) (row_at (located_of c.args.m.now.names) c.args.m.now.statements.items c.args.i c.index.result.now here)

pub lower_stated-requires-clause-can : goal.lower_stated-requires-clause-can
lower_stated-requires-clause-can c =
    let here : slice_get c.args.m.now.statements.items c.args.i ≡ Some c.index.result.now
    = slice_get-get_or c.args.m.now.statements.items c.args.i c.index.result.now c.requires.place ∙ ap (λ (x : ReadLocated). Some x) (sym c.index.ensures) in
    c.requires.can (located_of c.args.m.now.names c.index.result.now) (row_at (located_of c.args.m.now.names) c.args.m.now.statements.items c.args.i c.index.result.now here)

pub returns : goal.returns
returns c =
    let all = c.args.m.now.names in
    let here : slice_get c.args.m.now.statements.items c.args.i ≡ Some c.index.result.now
    = slice_get-get_or c.args.m.now.statements.items c.args.i c.index.result.now c.requires.place ∙ ap (λ (x : ReadLocated). Some x) (sym c.index.ensures) in
    let there : slice_get (map (located_of all) c.args.m.now.statements.items) c.args.i ≡ Some (located_of all c.index.result.now) = row_at (located_of all) c.args.m.now.statements.items c.args.i c.index.result.now here in
    let L : Statement → Type 0 = λ t. Lowers (source_file c.args.source.now) (source_library c.args.source.now) all t c.args.net.now c.args.table.now c.lower_stated.new.net c.lower_stated.new.table in
    record {
      lowered =
          then_ok c.lower_stated.result (λ (lowers : L (statement_of all c.index.result.now.what)).
          λ (s : Located) (e : slice_get (map (located_of all) c.args.m.now.statements.items) c.args.i ≡ Some s).
          let same : Some (located_of all c.index.result.now) ≡ Some s = sym there ∙ e in
          let one : located_of all c.index.result.now ≡ s = cc same in
          subst (λ (t : Located). L t.what) one lowers)
          c.lower_stated.ensures;
    }
