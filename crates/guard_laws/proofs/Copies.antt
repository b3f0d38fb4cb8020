-- Copies and check bits are ranges of a guard, also where more gates stand behind.
use Rattle.std.proofs.Common.{◌≡◌, refl, sym, ◌∙◌, ap, ℕ, Bool, true, false, List, [], ◌∷◌, ◌++◌, Some, arith}
use Rattle.netlist_spec.specs.Covers.{parity}
use Rattle.netlist_spec.specs.Gates.{GateForm, GateList, Machine}
use Rattle.guard_spec.specs.Codes.{Code}
use Rattle.guard_spec.specs.Words.{Layout}
use Rattle.netlist_spec.specs.CellBits.{Bit}
use Rattle.gate_net.specs.GateNet.{net_count}
use Rattle.gate_net.proofs.Ranges.{front}
use Rattle.cone_split.proofs.Ranges.{alone_longer, all_lead_longer}
use Rattle.guard_laws.specs.Rows.{IsRangeOf}
use Rattle.guard_laws.specs.Copies.{range_of, IsBitCopy, IsBitCheck}

one_bit : (b : Bool) → parity (b ∷ []) ≡ b
one_bit true = refl
one_bit false = refl

module _ (source : Machine) (code : Code) (l : Layout) (leaf : List ℕ) (bit : Bit) (old new : GateList) (last : ℕ) (more : List GateForm) where
  abbrev whole : GateList
  whole = record new { gates = new.gates ++ more }

  pub copy_range : IsBitCopy source code l leaf bit old new last → IsRangeOf whole leaf source code l (range_of bit old new)
  copy_range is = record {
    reads = alone_longer new more leaf (range_of bit old new) (omega arith) (is.copy.reads (range_of bit old new) (record { first = refl; end = refl }));
    leads = all_lead_longer new more (range_of bit old new) (is.copy.leads (range_of bit old new) (record { first = refl; end = refl }));
    value = λ k v u e answers evaluation.
        let same : k ≡ last = let a = is.copy.is_last in omega arith in
        ap (λ (n : ℕ). Some (v n)) same
        ∙ ap (λ (b : Bool). Some b) (is.copy.value v u (front new more (net_count old) (net_count new) v answers) evaluation ∙ one_bit (u is.root))
        ∙ sym (is.right u);
  }

  pub check_range : IsBitCheck source code l leaf bit old new last → IsRangeOf whole leaf source code l (range_of bit old new)
  check_range is = record {
    reads = alone_longer new more leaf (range_of bit old new) (omega arith) (is.copy.reads (range_of bit old new) (record { first = refl; end = refl }));
    leads = all_lead_longer new more (range_of bit old new) (is.copy.leads (range_of bit old new) (record { first = refl; end = refl }));
    value = λ k v u e answers evaluation.
        let same : k ≡ last = let a = is.copy.is_last in omega arith in
        ap (λ (n : ℕ). Some (v n)) same
        ∙ is.check v u (front new more (net_count old) (net_count new) v answers) evaluation
        ∙ sym (is.right u);
  }
