use Rattle.std.proofs.Common.{◌≡◌, ◌∙◌, sym, ap, subst, ℕ, ◌-◌, List, length, map, arith}
use Rattle.std.specs.List.{AllByRecursion, AllZip}
use Rattle.std.proofs.lemmas.List.{length-map}
use Rattle.gate_net.specs.Gate.{net_number}
use Rattle.gate_net.specs.GateNet.{net_count}
use Rattle.cone_split.specs.Copies.{Rises, HasImage, IsImage, AreCopied}
use Rattle.cone_split.proofs.Cells.{rises_from}
use Rattle.cone_split.proofs.Copied.{zip_length}
use Rattle.cone_split.proofs.Whole.{room_for_cells, roots_have_images, images_below, sum_copies, last_copies, not_zero, is_zero, cells_count, root_count, sum_count}
use Rattle.cone_split.proofs.copy.copy_xor.Goals as goal
use Rattle.cone_split.proofs.copy.copy_xor.Goals.{else-roots-eq1-via-then-roots-eq1+else-not-is_empty, else-roots-eq1-via-else-roots-eq1}

pub append_cells-requires-clause-room : goal.append_cells-requires-clause-room
append_cells-requires-clause-room c =
    let room = room_for_cells c.args.src.now (map net_number c.args.roots.now) c.in_ok-cells.cells.items c.args.dst.now c.in_ok-cells.ensures.cells c.requires.room in
    let e = ap length c.deref.ensures.value in
    omega arith

pub overflow_sub-result : goal.overflow_sub-result
overflow_sub-result c =
    let some = not_zero _ c.is_empty.result c.is_empty.ensures c.if-not-is_empty.true in
    let copied = c.in_ok-append_cells.ensures.copied in
    let far = cells_count c.args.src.now _ _ _ _ c.args.dst.now c.append_cells.new.dst copied.0 copied.1 copied.2 in
    let long = c.deref.ensures.len in
    let n = c.len.ensures.count in
    omega arith

pub returns-then-not-is_empty-clause-copy : goal.returns-then-not-is_empty-clause-copy
returns-then-not-is_empty-clause-copy c =
    let some = not_zero _ c.is_empty.result c.is_empty.ensures c.if-not-is_empty.true in
    let src = c.args.src.now in
    let leaf = map net_number c.args.leaf.now in
    let cells = c.in_ok-cells.cells.items in
    let copied = c.in_ok-append_cells.ensures.copied in
    let far = cells_count src _ _ _ _ c.args.dst.now c.append_cells.new.dst copied.0 copied.1 copied.2 in
    let value = ap length c.deref.ensures.value in
    let long = c.deref.ensures.len in
    let n = c.len.ensures.count in
    let same_leaf = length-map c.args.leaf.now net_number in
    let same_roots = length-map c.args.roots.now net_number in
    let leaves = c.requires.leaves in
    let one = c.if-roots-eq1.true in
    last_copies src (map net_number c.args.roots.now) leaf cells c.args.dst.now c.append_cells.new.dst copied.0 (c.len.result - 1) c.in_ok-cells.ensures.well_formed c.in_ok-cells.ensures.cells (omega arith)
    (subst (λ (ns : List ℕ). AreCopied src leaf ns (net_count c.args.dst.now) ns copied.0) c.deref.ensures.value copied.2)
    (omega arith) (omega arith) copied.1 (omega arith)

pub images-requires-clause-nets : goal.images-requires-clause-nets
images-requires-clause-nets c =
    let Cells : List ℕ → Type 0 = λ cells. AllByRecursion (HasImage (length c.args.leaf.now) cells) (map net_number c.args.roots.now) in
    subst Cells (sym c.deref-2.ensures.value) (roots_have_images c.args.src.now (map net_number c.args.roots.now) c.in_ok-cells.cells.items (length c.args.leaf.now) c.in_ok-cells.ensures.cells c.requires.leaves)

pub images-requires-clause-rise : goal.images-requires-clause-rise
images-requires-clause-rise c = subst (λ (cells : List ℕ). Rises 0 cells) (sym c.deref-2.ensures.value) (rises_from 0 c.args.src.now.leaves c.in_ok-cells.cells.items (omega arith) c.in_ok-cells.ensures.cells.all.rise)

pub images-requires-clause-room : goal.images-requires-clause-room
images-requires-clause-room c =
    let room = room_for_cells c.args.src.now (map net_number c.args.roots.now) c.in_ok-cells.cells.items c.args.dst.now c.in_ok-cells.ensures.cells c.requires.room in
    let e = ap length c.deref-2.ensures.value in
    let n = c.len-first.ensures.count in
    omega arith

-- what stands for the roots, over the lists as they are in the vectors
found_images : (leaf roots cells ns nets ms : List ℕ) (first start : ℕ) → ns ≡ cells → ms ≡ nets → first ≡ start → AllZip (IsImage leaf ns first) roots ms → AllZip (IsImage leaf cells start) roots nets
found_images leaf roots cells ns nets ms first start e f g images =
    subst (λ (xs : List ℕ). AllZip (IsImage leaf xs start) roots nets) e
    (subst (λ (n : ℕ). AllZip (IsImage leaf ns n) roots nets) g
    (subst (λ (ys : List ℕ). AllZip (IsImage leaf ns first) roots ys) f images))

pub append_sum-requires-clause-nets : goal.append_sum-requires-clause-nets
append_sum-requires-clause-nets c =
    let copied = c.in_ok-append_cells.ensures.copied in
    let far = cells_count c.args.src.now _ _ _ _ c.args.dst.now c.append_cells.new.dst copied.0 copied.1 copied.2 in
    let value = ap length c.deref.ensures.value in
    images_below (map net_number c.args.leaf.now) c.in_ok-cells.cells.items (net_count c.args.dst.now) (net_count c.append_cells.new.dst) (map net_number c.args.roots.now) (map net_number c.deref-3.result.now) c.requires.leaf (omega arith)
    (found_images _ _ c.in_ok-cells.cells.items c.deref-2.result.now (map net_number c.deref-3.result.now) _ c.len-first.result (net_count c.args.dst.now) c.deref-2.ensures.value (ap (map net_number) (sym c.deref-3.ensures.value)) c.len-first.ensures.count c.in_ok-nets.ensures)

pub append_sum-requires-clause-room : goal.append_sum-requires-clause-room
append_sum-requires-clause-room c =
    let copied = c.in_ok-append_cells.ensures.copied in
    let far = cells_count c.args.src.now _ _ _ _ c.args.dst.now c.append_cells.new.dst copied.0 copied.1 copied.2 in
    let value = ap length c.deref.ensures.value in
    let room = room_for_cells c.args.src.now (map net_number c.args.roots.now) c.in_ok-cells.cells.items c.args.dst.now c.in_ok-cells.ensures.cells c.requires.room in
    let images = zip_length _ (map net_number c.args.roots.now) (map net_number c.in_ok-nets.nets.items) c.in_ok-nets.ensures in
    let same = length-map c.in_ok-nets.nets.items net_number in
    let nets = ap length c.deref-3.ensures.value in
    omega arith

pub returns-clause-copy : goal.returns-clause-copy
returns-clause-copy c =
    let src = c.args.src.now in
    let leaf = map net_number c.args.leaf.now in
    let cells = c.in_ok-cells.cells.items in
    let copied = c.in_ok-append_cells.ensures.copied in
    let same_leaf = length-map c.args.leaf.now net_number in
    let leaves = c.requires.leaves in
    sum_copies src (map net_number c.args.roots.now) leaf cells (map net_number c.deref-3.result.now) c.args.dst.now copied.0 c.in_ok-cells.ensures.well_formed c.in_ok-cells.ensures.cells (omega arith)
    (subst (λ (ns : List ℕ). AreCopied src leaf ns (net_count c.args.dst.now) ns copied.0) c.deref.ensures.value copied.2)
    (found_images _ _ cells c.deref-2.result.now (map net_number c.deref-3.result.now) _ c.len-first.result (net_count c.args.dst.now) c.deref-2.ensures.value (ap (map net_number) (sym c.deref-3.ensures.value)) c.len-first.ensures.count c.in_ok-nets.ensures)
    c.append_cells.new.dst c.append_sum.new.dst c.append_sum.result copied.1 c.append_sum.ensures.gates c.append_sum.ensures.last

pub returns-then-not-is_empty-clause-count : goal.returns-then-not-is_empty-clause-count
returns-then-not-is_empty-clause-count c =
    let some = not_zero _ c.is_empty.result c.is_empty.ensures c.if-not-is_empty.true in
    let copied = c.in_ok-append_cells.ensures.copied in
    let far = cells_count c.args.src.now _ _ _ _ c.args.dst.now c.append_cells.new.dst copied.0 copied.1 copied.2 in
    let value = ap length c.deref.ensures.value in
    let long = c.deref.ensures.len in
    let same_roots = length-map c.args.roots.now net_number in
    let one = c.if-roots-eq1.true in
    root_count c.args.src.now (map net_number c.args.roots.now) c.in_ok-cells.cells.items c.args.dst.now c.append_cells.new.dst c.in_ok-cells.ensures.well_formed c.in_ok-cells.ensures.cells (omega arith) (omega arith) (omega arith)

pub returns-clause-count : goal.returns-clause-count
returns-clause-count c =
    let copied = c.in_ok-append_cells.ensures.copied in
    let far = cells_count c.args.src.now _ _ _ _ c.args.dst.now c.append_cells.new.dst copied.0 copied.1 copied.2 in
    let value = ap length c.deref.ensures.value in
    let long = c.deref.ensures.len in
    let same_roots = length-map c.args.roots.now net_number in
    let images = zip_length _ (map net_number c.args.roots.now) (map net_number c.in_ok-nets.nets.items) c.in_ok-nets.ensures in
    let nets = ap length (ap (map net_number) c.deref-3.ensures.value) in
    let none : length (map net_number c.args.roots.now) ≡ 1 → length c.in_ok-cells.cells.items ≡ 0 =
    elim c.else-roots-eq1.branch [
      | else-roots-eq1-via-then-roots-eq1+else-not-is_empty w ↦ λ one. (let z = is_zero _ w.is_empty.result w.is_empty.ensures w.if-not-is_empty.false in omega arith)
      | else-roots-eq1-via-else-roots-eq1 w ↦ λ one. absurd (w.if-roots-eq1.false (sym same_roots ∙ one))
    ] in
    sum_count c.args.src.now (map net_number c.args.roots.now) c.in_ok-cells.cells.items (map net_number c.deref-3.result.now) c.args.dst.now c.append_cells.new.dst c.append_sum.new.dst c.append_sum.result c.in_ok-cells.ensures.cells none (omega arith) (omega arith) c.append_sum.ensures.gates
