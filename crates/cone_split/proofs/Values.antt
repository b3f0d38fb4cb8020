-- The bits of a copied cone.
use Rattle.std.proofs.Common.{◌≡◌, sym, ◌∙◌, ap, ap₂, refl, ℕ, zero, suc, ◌+◌, ◌-◌, ◌*◌, ◌<◌, inl, inr, Bool, false, List, [], ◌∷◌, ◌++◌, length, map, get_or, Contains, arith, Some, slice_get}
use Rattle.std.specs.List.{AllZip}
use Rattle.std.proofs.lemmas.Option.{slice_get_within, get_or_from_slice_get}
use Rattle.std.proofs.lemmas.List.{get_or-map}
use Rattle.std.proofs.lemmas.List.FromFn.{get_or-map-range_with_len}
use Rattle.netlist_spec.specs.Covers.{differ, has_bit}
use Rattle.netlist_spec.specs.SourceRun.{Bits}
use Rattle.netlist_spec.specs.Gates.{GateForm, constant, one, two, GateList, IsGateList, AnswersWithin, IsEvaluation, bit_number, gate_answer, gate_reads}
use Rattle.gate_net.specs.GateNet.{net_count}
use Rattle.cone_split.specs.Copies.{Rises, IsImage, IsSameOver, AreCopied}
use Rattle.cone_split.proofs.Cells.{contains_head, contains_tail, contains_at, rises_above, rises_order}
use Rattle.cone_split.proofs.Copied.{net_reads_below, zip_right}
use Rattle.cone_split.proofs.Ranges.{answer_at, get_left, longer, behind_answers}

-- gates over nets with the same bits have the same answer
same_answer : (R : ℕ → ℕ → Type 0) (g h : GateForm) (u v : ℕ → Bool) → IsSameOver R g h → ((a c : ℕ) → Contains (gate_reads g) a → R a c → v c ≡ u a) → gate_answer h v ≡ gate_answer g u
same_answer R (constant b) h u v same bits = ap (λ (x : GateForm). gate_answer x v) same
same_answer R (one inv a) h u v (c, r, same) bits = ap (λ (x : GateForm). gate_answer x v) same ∙ ap (differ inv) (bits a c (contains_head a []) r)
same_answer R (two op a b) h u v (c, d, r, s, same) bits =
    ap (λ (x : GateForm). gate_answer x v) same
    ∙ ap₂ (λ x y. has_bit op (2 * bit_number x + bit_number y)) (bits a c (contains_head a (b ∷ [])) r) (bits b d (contains_tail a b (b ∷ []) (contains_head b [])) s)

module _ (src : GateList) (leaf cells : List ℕ) (old : GateList) (hs tail : List GateForm) (well : IsGateList src) (rise : Rises src.leaves cells) (long : length leaf ≡ src.leaves) (copied : AreCopied src leaf cells (net_count old) cells hs) (v u : ℕ → Bool)
    (answers : AnswersWithin (longer old (hs ++ tail)) (net_count old) (net_count (longer old (hs ++ tail))) v) (evaluation : IsEvaluation src (map v leaf) u) where
  leaf_bits : (n m : ℕ) → slice_get leaf n ≡ Some m → v m ≡ u n
  leaf_bits n m e =
      let h = slice_get_within leaf n m e in
      ap v (sym (get_or_from_slice_get leaf n m 0 e))
      ∙ (sym (get_or-map v leaf n 0 false h)
      ∙ (ap (λ (bits : Bits). get_or bits n false) (sym evaluation.inputs)
      ∙ get_or-map-range_with_len u 0 src.leaves n n false (omega arith) (omega arith)))

  cell_bits : (bound i n : ℕ) → i < bound → slice_get cells i ≡ Some n → v (net_count old + i) ≡ u n
  cell_bits zero i n h e = absurd (omega arith)
  cell_bits (suc bound) i n h e = here (λ j m less at. cell_bits bound j m (omega arith) at)
    where
      here : ((j m : ℕ) → j < i → slice_get cells j ≡ Some m → v (net_count old + j) ≡ u m) → v (net_count old + i) ≡ u n
      here before =
          let (k, at_k, (g, is_gate, same)) = zip_right _ cells hs i n copied e in
          let low = rises_above src.leaves cells n rise (contains_at cells i n e) in
          let number : src.leaves + (n - src.leaves) ≡ n = omega arith in
          let within = slice_get_within src.gates (n - src.leaves) g is_gate in
          behind_answers old (hs ++ tail) v i k answers (get_left hs tail i k at_k)
          ∙ (same_answer (IsImage leaf cells (net_count old)) g k u v same (λ a c reads image. elim image [
            | inl f ↦ leaf_bits a c f
            | inr f ↦
                let less = rises_order src.leaves cells f.1.0 i a n rise f.1.1 e (net_reads_below src n a well (record { place = n - src.leaves; number = sym number; gate = g; is_gate = is_gate; reads = reads })) in
                ap v f.1.2 ∙ before f.1.0 a less f.1.1
          ])
          ∙ (sym (answer_at src.gates src.leaves src.leaves (src.leaves + length src.gates) u (n - src.leaves) g evaluation.gates is_gate (omega arith) (omega arith)) ∙ ap u number))

  pub image_bits : (n m : ℕ) → IsImage leaf cells (net_count old) n m → v m ≡ u n
  image_bits n m (inl e) = leaf_bits n m e
  image_bits n m (inr (low, (i, at, e))) = ap v e ∙ cell_bits (suc i) i n (omega arith) at

  pub all_image_bits : (roots nets : List ℕ) → AllZip (IsImage leaf cells (net_count old)) roots nets → map v nets ≡ map u roots
  all_image_bits [] [] all = refl
  all_image_bits [] (m ∷ nets) all = absurd all
  all_image_bits (n ∷ roots) [] all = absurd all
  all_image_bits (n ∷ roots) (m ∷ nets) all = ap₂ (λ (b : Bool) (bs : Bits). b ∷ bs) (image_bits n m all.0) (all_image_bits roots nets all.1)
