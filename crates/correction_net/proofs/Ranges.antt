-- A range that is right for a machine that stands for a source is right for the source, where the shown words are near.
use Rattle.std.proofs.Common.{◌≡◌, sym, ◌∙◌, ap, subst, ℕ, ◌+◌, ◌<◌, ◌⊎◌, inl, inr, Bool, List, [], ◌∷◌, length, map, slice_get, arith, Contains}
use Rattle.std.specs.List.{AllByRecursion, AllZip, range_with_len}
use Rattle.netlist_spec.specs.CellBits.{Bit, latch_bit, output_bit}
use Rattle.netlist_spec.specs.GateRanges.{Region}
use Rattle.netlist_spec.specs.Gates.{GateList, IsMachine, Machine}
use Rattle.netlist_spec.specs.SourceRun.{Bits}
use Rattle.guard_spec.specs.Codes.{Code, correct}
use Rattle.guard_spec.specs.Count.{right_outputs}
use Rattle.guard_spec.specs.Words.{IsPartition, Layout, codewords}
use Rattle.gate_net.specs.GateNet.{net_count}
use Rattle.guard_laws.specs.Places.{latches_of_words}
use Rattle.guard_laws.specs.Rows.{IsRangeOf, right_bit}
use Rattle.guard_laws.specs.Within.{IsRangeWithin}
use Rattle.guard_laws.proofs.Lists.{all_of}
use Rattle.guard_made.proofs.Costs.{stores_below}
use Rattle.correction_laws.specs.Joined.{IsServed}
use Rattle.correction_laws.proofs.Lists.{range_below}
use Rattle.correction_laws.proofs.Ranges.{inside, near_inside, same_inputs}
use Rattle.correction_laws.proofs.Values.{all_right}
use Rattle.correction_net.specs.StandIn.{StandsIn}

-- the same bits of D nets and outputs make the same right bits
right_same : (source stand : Machine) (code : Code) (l : Layout) (v u : ℕ → Bool) → map v (map (λ r. r.d) stand.latches) ≡ map u (map (λ r. r.d) source.latches) → map v stand.outputs ≡ map u source.outputs
    → (bit : Bit) → right_bit stand code l v bit ≡ right_bit source code l u bit
right_same source stand code l v u stores outputs (latch_bit i) = ap (λ (bits : Bits). slice_get (codewords code l.state bits) i) stores
right_same source stand code l v u stores outputs (output_bit i) = ap (λ (bits : Bits). slice_get (right_outputs code l bits) i) outputs

module _ (source stand : Machine) (code : Code) (l : Layout) (t k : ℕ) (is_source : IsMachine source) (partition : IsPartition (length source.latches) k l.state) (stands : StandsIn source code l t stand) where
  stores_served : AllByRecursion (IsServed source stands.ready.correctors) (map (λ r. r.d) source.latches)
  stores_served = all_of (IsServed source stands.ready.correctors) (map (λ r. r.d) source.latches) (λ x c. stands.ready.served x (inl c))

  outputs_served : AllByRecursion (IsServed source stands.ready.correctors) source.outputs
  outputs_served = all_of (IsServed source stands.ready.correctors) source.outputs (λ x c. stands.ready.served x (inr c))

  pub range_within : (net : GateList) (r : Region) → net.leaves ≡ stand.net.leaves → IsRangeOf net (range_with_len 0 stand.net.leaves) stand code l r
      → IsRangeWithin net source.inputs (latches_of_words code l.state) source code correct t l r
  range_within net r same is = record {
    reads = λ n m lies read. elim (is.reads n m lies read) [ inl d ↦ inl (let h = range_below 0 stand.net.leaves m d in omega arith) | inr d ↦ inr d ];
    reads_data = λ e. absurd (cc e);
    leads = is.leads;
    value = λ last v u s e answers long near evaluation.
        let joined = stands.ready.joined_list in
        let correctors = stands.ready.correctors in
        let (w, ew) = inside source code l t k stand.net correctors stands.nets stands.first is_source partition joined v s long near in
        let at_inputs = same_inputs source code l t k stand.net correctors stands.nets stands.first is_source partition joined v s long near in
        let at_words = near_inside source code l t k stand.net correctors stands.nets stands.first is_source partition joined v s long near in
        let stores : map w (map (λ r. r.d) stand.latches) ≡ map u (map (λ r. r.d) source.latches)
        = all_right source code l t k stand.net correctors stands.nets stands.first is_source partition joined w u (map v (range_with_len 0 source.inputs)) s ew.gates at_inputs long at_words evaluation
        (map (λ r. r.d) source.latches) (map (λ r. r.d) stand.latches) (stores_below (net_count source.net) source.latches is_source.stores) stores_served stands.stores in
        let outputs : map w stand.outputs ≡ map u source.outputs
        = all_right source code l t k stand.net correctors stands.nets stands.first is_source partition joined w u (map v (range_with_len 0 source.inputs)) s ew.gates at_inputs long at_words evaluation
        source.outputs stand.outputs is_source.outputs outputs_served stands.outputs in
        is.value last v w e answers ew ∙ right_same source stand code l w u stores outputs r.bit;
  }
