use Rattle.std.proofs.Common.{sym, ◌∙◌, ap, subst, ℕ, List, length, map, arith}
use Rattle.std.proofs.lemmas.List.{length-map}
use Rattle.std.proofs.lemmas.List.FromFn.{length-range_with_len}
use Rattle.cone_split.specs.Copies.{AreClosed}
use Rattle.gate_net.specs.Gate.{net_number}
use Rattle.cone_split.proofs.AllCopied.{all_closed, on_ok, copied_all}
use Rattle.cone_split.proofs.copy.copy_all.Goals as goal

pub append_cells-requires-clause-cells : goal.append_cells-requires-clause-cells
append_cells-requires-clause-cells c =
    subst (λ (cells : List ℕ). AreClosed c.args.src.now cells) (sym (c.deref.ensures.value ∙ c.in_ok-cells.ensures.cells)) (all_closed c.args.src.now c.in_ok-cells.ensures.well_formed)

pub append_cells-requires-clause-room : goal.append_cells-requires-clause-room
append_cells-requires-clause-room c =
    let e = ap length (c.deref.ensures.value ∙ c.in_ok-cells.ensures.cells) in
    let l = length-range_with_len c.args.src.now.leaves (length c.args.src.now.gates) in
    let r = c.requires.room in
    omega arith

pub returns-clause-copy : goal.returns-clause-copy
returns-clause-copy c =
    on_ok c.append_cells.result _ _ c.append_cells.ensures.copied
    (copied_all c.args.src.now (map net_number c.args.leaf.now) c.deref.result.now c.args.dst.now c.append_cells.new.dst c.in_ok-cells.ensures.well_formed (length-map c.args.leaf.now net_number ∙ c.requires.leaves) (c.deref.ensures.value ∙ c.in_ok-cells.ensures.cells))
