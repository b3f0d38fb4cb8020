-- What is copied out of a joined list is a range of a guard that corrects.
use Rattle.std.proofs.Common.{◌≡◌, refl, sym, ◌∙◌, ap, subst, ℕ, ◌<◌, ◌≤◌, inl, inr, Bool, true, false, List, [], ◌∷◌, ◌++◌, length, map, get_or, slice_get, Some, arith}
use Rattle.std.specs.List.{range_with_len}
use Rattle.std.proofs.lemmas.List.{length-map}
use Rattle.std.proofs.lemmas.List.FromFn.{get_or-map-range_with_len, length-range_with_len}
use Rattle.netlist_spec.specs.Covers.{parity}
use Rattle.netlist_spec.specs.SourceRun.{Bits}
use Rattle.netlist_spec.specs.Gates.{GateForm, GateList, Machine, IsMachine, IsEvaluation}
use Rattle.guard_spec.specs.Codes.{Code, Mode, correct, checks_of}
use Rattle.guard_spec.specs.Words.{Layout, IsPartition}
use Rattle.netlist_spec.specs.GateRanges.{Region}
use Rattle.netlist_spec.specs.CellBits.{Bit}
use Rattle.guard_spec.specs.Count.{StateWordsAre, IsNear}
use Rattle.gate_net.specs.GateNet.{net_count}
use Rattle.gate_net.proofs.Ranges.{front}
use Rattle.gate_net.proofs.OneEvaluation.{some_evaluation}
use Rattle.cone_split.proofs.Ranges.{all_lead_longer}
use Rattle.guard_laws.specs.Places.{latches_of_words}
use Rattle.guard_laws.specs.Copies.{range_of}
use Rattle.correction_laws.specs.Joined.{Corrector, IsJoined}
use Rattle.correction_laws.specs.FromJoined.{IsJoinedCopy, IsJoinedCheck}
use Rattle.guard_laws.specs.Within.{IsRangeWithin}
use Rattle.correction_laws.proofs.Lists.{range_same, range_below}
use Rattle.correction_laws.proofs.Steps.{reads_shorter}
use Rattle.correction_laws.proofs.Values.{right_at, all_right}

one_bit : (b : Bool) → parity (b ∷ []) ≡ b
one_bit true = refl
one_bit false = refl

-- A range stays one when gates are appended behind it.
pub range_stays : (net : GateList) (more : List GateForm) (inputs latches : ℕ) (source : Machine) (code : Code) (mode : Mode) (radius : ℕ) (l : Layout) (r : Region) → r.end ≤ net_count net → IsRangeWithin net inputs latches source code mode radius l r
    → IsRangeWithin (record net { gates = net.gates ++ more }) inputs latches source code mode radius l r
range_stays net more inputs latches source code mode radius l r high is = record {
  reads = λ n k lies reads. is.reads n k lies (reads_shorter net more n k (let b = lies.1 in omega arith) reads);
  reads_data = λ e n k lies reads. is.reads_data e n k lies (reads_shorter net more n k (let b = lies.1 in omega arith) reads);
  leads = all_lead_longer net more r is.leads;
  value = λ last v u s e answers long near evaluation. is.value last v u s e (front net more r.first r.end v answers) long near evaluation;
}

module _ (source : Machine) (code : Code) (l : Layout) (t k : ℕ) (joined : GateList) (correctors : List Corrector) (nets : List ℕ) (first : ℕ) (is_source : IsMachine source) (partition : IsPartition (length source.latches) k l.state)
    (is : IsJoined source code l t joined correctors nets first) where
  -- the joined list at the leaves of the guard
  module _ (v : ℕ → Bool) (s : Bits) (long : length s ≡ length source.latches) (near : StateWordsAre code (IsNear code correct t s) l.state (map v (range_with_len source.inputs (latches_of_words code l.state))) 0) where
    pub inside : (u : ℕ → Bool) × IsEvaluation joined (map v (range_with_len 0 joined.leaves)) u
    inside = some_evaluation joined is.is_list (map v (range_with_len 0 joined.leaves)) (length-map (range_with_len 0 joined.leaves) v ∙ length-range_with_len 0 joined.leaves)

    pub same_leaf : (n : ℕ) → n < joined.leaves → inside.0 n ≡ v n
    same_leaf n h =
        sym (get_or-map-range_with_len inside.0 0 joined.leaves n n false h (omega arith))
        ∙ (ap (λ (bs : Bits). get_or bs n false) inside.1.inputs ∙ get_or-map-range_with_len v 0 joined.leaves n n false h (omega arith))

    pub same_inputs : map inside.0 (range_with_len 0 source.inputs) ≡ map v (range_with_len 0 source.inputs)
    same_inputs = let e = is.leaves in range_same inside.0 v 0 source.inputs (λ n low high. same_leaf n (omega arith))

    pub near_inside : StateWordsAre code (IsNear code correct t s) l.state (map inside.0 (range_with_len source.inputs (latches_of_words code l.state))) 0
    near_inside = let e = is.leaves in subst (λ (bs : Bits). StateWordsAre code (IsNear code correct t s) l.state bs 0) (sym (range_same inside.0 v source.inputs (latches_of_words code l.state) (λ n low high. same_leaf n (omega arith)))) near

  module _ (bit : Bit) (old new : GateList) (last : ℕ) (same : new.leaves ≡ joined.leaves) where
    pub copy_range : IsJoinedCopy source code l joined correctors nets first bit old new last → IsRangeWithin new source.inputs (latches_of_words code l.state) source code correct t l (range_of bit old new)
    copy_range c = record {
      reads = λ n m lies net. elim (c.copy.reads (range_of bit old new) (record { first = refl; end = refl }) n m lies net) [ inl d ↦ inl (let h = range_below 0 joined.leaves m d in omega arith) | inr d ↦ inr d ];
      reads_data = λ e. absurd (cc e);
      leads = c.copy.leads (range_of bit old new) (record { first = refl; end = refl });
      value = λ p v w s e answers long near evaluation.
          let one : p ≡ last = let a = c.copy.is_last in omega arith in
          let u = (inside v s long near).0 in
          let eu = (inside v s long near).1 in
          ap (λ (n : ℕ). Some (v n)) one
          ∙ (ap (λ (b : Bool). Some b) (c.copy.value v u answers eu ∙ (one_bit (u c.net)
          ∙ right_at source code l t k joined correctors nets first is_source partition is u w (map v (range_with_len 0 source.inputs)) s eu.gates (same_inputs v s long near) long (near_inside v s long near) evaluation c.root c.served c.net c.is_net c.over))
          ∙ sym (c.right w));
    }

    pub check_range : IsJoinedCheck source code l joined correctors nets first bit old new last → IsRangeWithin new source.inputs (latches_of_words code l.state) source code correct t l (range_of bit old new)
    check_range c = record {
      reads = λ n m lies net. elim (c.copy.reads (range_of bit old new) (record { first = refl; end = refl }) n m lies net) [ inl d ↦ inl (let h = range_below 0 joined.leaves m d in omega arith) | inr d ↦ inr d ];
      reads_data = λ e. absurd (cc e);
      leads = c.copy.leads (range_of bit old new) (record { first = refl; end = refl });
      value = λ p v w s e answers long near evaluation.
          let one : p ≡ last = let a = c.copy.is_last in omega arith in
          let u = (inside v s long near).0 in
          let eu = (inside v s long near).1 in
          ap (λ (n : ℕ). Some (v n)) one
          ∙ (c.check v u answers eu
          ∙ (ap (λ (bs : Bits). slice_get (checks_of code bs) c.j)
          (all_right source code l t k joined correctors nets first is_source partition is u w (map v (range_with_len 0 source.inputs)) s eu.gates (same_inputs v s long near) long (near_inside v s long near) evaluation c.roots c.over_nets c.are_nets c.served c.over)
          ∙ sym (c.right w)));
    }
