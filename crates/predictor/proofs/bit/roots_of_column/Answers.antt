use Rattle.std.proofs.Common.{sym, ◌∙◌, ap, ℕ, Bool, cond, List, [], ◌∷◌, ◌++◌, map, take, get_or, Some, arith}
use Rattle.std.proofs.lemmas.List.{append-nil, get_or-map, length-map, map_push}
use Rattle.std.proofs.lemmas.Option.{slice_get-get_or}
use Rattle.guard_spec.specs.Codes.{bits_of}
use Rattle.gate_net.specs.Gate.{net_number}
use Rattle.predictor.proofs.Checks.{chosen_roots, chosen_more, row_bit, test_set, test_clear}
use Rattle.predictor.proofs.bit.roots_of_column.Goals as goal
use Rattle.predictor.proofs.bit.roots_of_column.Goals.{then-row-j-eq1+in_ok-push, else-row-j-eq1}

pub loop-i-preserved : goal.loop-i-preserved
loop-i-preserved c =
    let roots = c.args.roots.now in
    let rows = c.args.code.now.rows in
    let columns = c.args.code.now.columns in
    let i = c.loop-i.i in
    let j = c.args.j in
    let n = get_or roots i (record { 0 = 0 }) in
    let long = length-map roots net_number in
    let h = c.loop-i-test.true in
    let root = slice_get-get_or (map net_number roots) i 0 (omega arith) ∙ ap (λ (k : ℕ). Some k) (get_or-map net_number roots i (record { 0 = 0 }) 0 h) in
    let more = chosen_more rows j (map net_number roots) i n.0 (bits_of columns c.row.result) c.row.ensures.bits root in
    let bit = row_bit columns c.row.result j c.requires.column in
    let before = chosen_roots rows j (take i (map net_number roots)) in
    elim c.if-row-j-eq1.branch [
      | then-row-j-eq1+in_ok-push w ↦
          ap (λ v. map net_number v.items) w.chosen-is
          ∙ (ap (map net_number) w.in_ok-push.ensures.items
          ∙ (map_push net_number c.loop-i.chosen.items n
          ∙ (ap (λ (ns : List ℕ). ns ++ n.0 ∷ []) c.loop-i.invariant
          ∙ (ap (λ (b : Bool). before ++ cond b (n.0 ∷ []) []) (sym (bit ∙ test_set c.row.result j w.if-row-j-eq1.true))
          ∙ sym more))))
      | else-row-j-eq1 w ↦
          ap (λ v. map net_number v.items) w.chosen-is
          ∙ (c.loop-i.invariant
          ∙ (sym (append-nil before)
          ∙ (ap (λ (b : Bool). before ++ cond b (n.0 ∷ []) []) (sym (bit ∙ test_clear c.row.result j w.if-row-j-eq1.false))
          ∙ sym more)))
    ]
