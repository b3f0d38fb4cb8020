use Rattle.std.proofs.Common.{◌≡◌, List, take, [], ◌++◌, ◌+◌, ◌-◌, ◌<◌, ◌≤◌, ◌∙◌, length, ap, subst, arith}
use Rattle.std.specs.List.{flat_map}
use Rattle.std.proofs.lemmas.List.{take_all}
use Rattle.netlist_spec.specs.Netlist.{Statement}
use Rattle.netlist_spec.specs.Reads.{statement_nets}
use Rattle.netlist_spec.specs.Written.{Named, IsNamed, latch_statements, gate_statements, line_count, statements_from}
use Rattle.blif_read.specs.View.{statement_of}
use Rattle.blif_read.specs.Spelled.{SpellsEach, with_names}
use Rattle.blif_write.specs.Numbers.{statement_at}
use Rattle.blif_write.proofs.FileLemmas.{count-same, few-lines, next-statement}
use Rattle.named_netlist.proofs.NamedFiles.{statements-long}
use Rattle.blif_write.proofs.file.statements.Goals as goal

pub line_count-lines-requires : goal.line_count-lines-requires
line_count-lines-requires c =
    let named = subst IsNamed c.g.view_is c.g.invariant.named in
    let view = c.g.view_is in
    let first : c.g.inside.data_inputs ≡ c.args.g.now.data_inputs = ap (λ (h : Named). h.data_inputs) view in
    let count : c.g.inside.net.leaves + length c.g.inside.net.gates ≡ c.args.g.now.net.leaves + length c.args.g.now.net.gates = ap (λ (h : Named). h.net.leaves + length h.net.gates) view in
    let low : c.args.g.now.data_inputs ≤ c.loop-n.n = omega arith in
    let high : c.loop-n.n < c.args.g.now.net.leaves + length c.args.g.now.net.gates = omega arith in
    let labels = named.labels in
    let what = c.in_ok-what.what in
    let same : line_count (statement_of [] what) ≡ line_count (statement_at c.args.g.now c.loop-n.n) = count-same [] (c.statement.new.names ++ []) what ∙ ap line_count (c.in_ok-what.ensures.spells.same []) in
    let few = few-lines c.args.g.now c.loop-n.n in
    omega (arith, same, few)

pub overflow_add-line : goal.overflow_add-line
overflow_add-line c =
    let named = subst IsNamed c.g.view_is c.g.invariant.named in
    let view = c.g.view_is in
    let first : c.g.inside.data_inputs ≡ c.args.g.now.data_inputs = ap (λ (h : Named). h.data_inputs) view in
    let count : c.g.inside.net.leaves + length c.g.inside.net.gates ≡ c.args.g.now.net.leaves + length c.args.g.now.net.gates = ap (λ (h : Named). h.net.leaves + length h.net.gates) view in
    let low : c.args.g.now.data_inputs ≤ c.loop-n.n = omega arith in
    let high : c.loop-n.n < c.args.g.now.net.leaves + length c.args.g.now.net.gates = omega arith in
    let labels = named.labels in
    let what = c.in_ok-what.what in
    let same : line_count (statement_of [] what) ≡ line_count (statement_at c.args.g.now c.loop-n.n) = count-same [] (c.statement.new.names ++ []) what ∙ ap line_count (c.in_ok-what.ensures.spells.same []) in
    let few = few-lines c.args.g.now c.loop-n.n in
    let lines = c.line_count-lines.ensures in
    omega (arith, same, few, lines, labels, c.loop-n.invariant.low)

pub loop-n-preserved : goal.loop-n-preserved
loop-n-preserved c =
    let named = subst IsNamed c.g.view_is c.g.invariant.named in
    let view = c.g.view_is in
    let first : c.g.inside.data_inputs ≡ c.args.g.now.data_inputs = ap (λ (h : Named). h.data_inputs) view in
    let count : c.g.inside.net.leaves + length c.g.inside.net.gates ≡ c.args.g.now.net.leaves + length c.args.g.now.net.gates = ap (λ (h : Named). h.net.leaves + length h.net.gates) view in
    let low : c.args.g.now.data_inputs ≤ c.loop-n.n = omega arith in
    let high : c.loop-n.n < c.args.g.now.net.leaves + length c.args.g.now.net.gates = omega arith in
    let labels = named.labels in
    let what = c.in_ok-what.what in
    let same : line_count (statement_of [] what) ≡ line_count (statement_at c.args.g.now c.loop-n.n) = count-same [] (c.statement.new.names ++ []) what ∙ ap line_count (c.in_ok-what.ensures.spells.same []) in
    let few = few-lines c.args.g.now c.loop-n.n in
    let lines = c.line_count-lines.ensures ∙ same in
    let next = next-statement c.args.g.now named c.loop-n.n c.args.names.now c.loop-n.names c.statement.new.names c.args.first c.loop-n.line c.line_count-lines.result c.loop-n.statements.items what low high c.loop-n.invariant.names c.loop-n.invariant.spells c.loop-n.invariant.line c.in_ok-what.ensures.names c.in_ok-what.ensures.spells lines in
    record {
      names = next.names;
      spells = rw c.in_ok-push.ensures.items next.spells;
      line = next.counted;
      low = omega (arith, same, few, c.line_count-lines.ensures, c.loop-n.invariant.low);
      few = omega (arith, next.few, c.loop-n.invariant.few);
    }

pub returns-clause-names : goal.returns-clause-names
returns-clause-names c =
    let named = subst IsNamed c.g.view_is c.g.invariant.named in
    let view = c.g.view_is in
    let first : c.g.inside.data_inputs ≡ c.args.g.now.data_inputs = ap (λ (h : Named). h.data_inputs) view in
    let count : c.g.inside.net.leaves + length c.g.inside.net.gates ≡ c.args.g.now.net.leaves + length c.args.g.now.net.gates = ap (λ (h : Named). h.net.leaves + length h.net.gates) view in
    let all = latch_statements c.args.g.now ++ gate_statements c.args.g.now in
    let long = statements-long c.args.g.now named in
    let whole : take (c.loop-n.n - c.args.g.now.data_inputs) all ≡ all = take_all (c.loop-n.n - c.args.g.now.data_inputs) all (omega (arith, long, named.leaves)) in
    c.loop-n.invariant.names ∙ ap (λ (l : List Statement). with_names c.args.names.now (flat_map statement_nets l)) whole

pub returns-clause-spells : goal.returns-clause-spells
returns-clause-spells c =
    let named = subst IsNamed c.g.view_is c.g.invariant.named in
    let view = c.g.view_is in
    let first : c.g.inside.data_inputs ≡ c.args.g.now.data_inputs = ap (λ (h : Named). h.data_inputs) view in
    let count : c.g.inside.net.leaves + length c.g.inside.net.gates ≡ c.args.g.now.net.leaves + length c.args.g.now.net.gates = ap (λ (h : Named). h.net.leaves + length h.net.gates) view in
    let all = latch_statements c.args.g.now ++ gate_statements c.args.g.now in
    let long = statements-long c.args.g.now named in
    let whole : take (c.loop-n.n - c.args.g.now.data_inputs) all ≡ all = take_all (c.loop-n.n - c.args.g.now.data_inputs) all (omega (arith, long, named.leaves)) in
    subst (λ (l : List Statement). SpellsEach c.loop-n.names c.loop-n.statements.items (statements_from c.args.first l)) whole c.loop-n.invariant.spells
