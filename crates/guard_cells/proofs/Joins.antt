-- Rows of cells: their ranges stay where gates are appended behind them, and two rows join.
use Rattle.std.proofs.Common.{◌≡◌, refl, sym, ◌∙◌, ap, subst, ℕ, suc, ◌<◌, ◌≤◌, Bool, List, [], ◌∷◌, ◌++◌, arith}
use Rattle.std.specs.List.{AllByRecursion}
use Rattle.netlist_spec.specs.Gates.{GateForm, GateList, Machine, AnswersWithin}
use Rattle.netlist_spec.specs.GateRanges.{Region}
use Rattle.guard_spec.specs.Codes.{Code}
use Rattle.guard_spec.specs.Words.{Layout}
use Rattle.gate_net.specs.GateNet.{net_count}
use Rattle.cone_split.specs.Ranges.{AllLead, KeepsGates, ReadsAlone}
use Rattle.guard_laws.specs.Rows.{IsRailRange, IsRangeOf}
use Rattle.guard_cells.specs.Cells.{AreCells, Cell, end_from, ranges_from}

pub ranges_join : (first : ℕ) (cs ds : List Cell) → ranges_from first (cs ++ ds) ≡ ranges_from first cs ++ ranges_from (end_from first cs) ds
ranges_join first [] ds = refl
ranges_join first (c ∷ cs) ds =
    let r : Region = record { bit = c.0; first = first; end = suc c.1 } in ap (λ (rs : List Region). r ∷ rs) (ranges_join (suc c.1) cs ds)

pub end_join : (first : ℕ) (cs ds : List Cell) → end_from first (cs ++ ds) ≡ end_from (end_from first cs) ds
end_join first [] ds = refl
end_join first (c ∷ cs) ds = end_join (suc c.1) cs ds

-- ---- ranges of one kind, each of which stays where gates are appended behind it

abbrev pub Stays : (GateList → Region → Type 0) → Type 0
Stays IsOne = (net : GateList) (more : List GateForm) (r : Region) → r.end ≤ net_count net → IsOne net r → IsOne (record net { gates = net.gates ++ more }) r

module _ (IsOne : GateList → Region → Type 0) (stays : Stays IsOne) where
  abbrev AreRanges : GateList → List Region → Type 0
  AreRanges net rs = AllByRecursion (λ r. (r.first < r.end) × IsOne net r) rs

  -- a row goes up
  goes_up : (first : ℕ) (cs : List Cell) (net : GateList) → AreRanges net (ranges_from first cs) → first ≤ end_from first cs
  goes_up first [] net all = omega arith
  goes_up first (c ∷ cs) net all = let rest = goes_up (suc c.1) cs net all.1 in let here = all.0.0 in omega arith

  all_stay : (first : ℕ) (cs : List Cell) (net : GateList) (more : List GateForm) → end_from first cs ≤ net_count net → AreRanges net (ranges_from first cs) → AreRanges (record net { gates = net.gates ++ more }) (ranges_from first cs)
  all_stay first [] net more within all = tt
  all_stay first (c ∷ cs) net more within all =
      let rest = goes_up (suc c.1) cs net all.1 in
      ((all.0.0, stays net more (record { bit = c.0; first = first; end = suc c.1 }) (omega arith) all.0.1), all_stay (suc c.1) cs net more within all.1)

  all_join : (first : ℕ) (cs ds : List Cell) (net : GateList) → AreRanges net (ranges_from first cs) → AreRanges net (ranges_from (end_from first cs) ds) → AreRanges net (ranges_from first (cs ++ ds))
  all_join first [] ds net a b = b
  all_join first (c ∷ cs) ds net a b = (a.0, all_join (suc c.1) cs ds net a.1 b)

  pub row_stays : (first : ℕ) (cs : List Cell) (net : GateList) (more : List GateForm) → AreCells IsOne first cs net → AreRanges (record net { gates = net.gates ++ more }) (ranges_from first cs)
  row_stays first cs net more row = all_stay first cs net more (let e = row.end in omega arith) row.ranges

  pub rows_join : (first : ℕ) (cs ds : List Cell) (mid net : GateList) → AreCells IsOne first cs mid → KeepsGates mid net → AreCells IsOne (net_count mid) ds net → AreCells IsOne first (cs ++ ds) net
  rows_join first cs ds mid net front kept back = record {
    ranges = all_join first cs ds net
        (subst (λ (n : GateList). AreRanges n (ranges_from first cs)) (sym kept.1) (row_stays first cs mid kept.0 front))
        (subst (λ (k : ℕ). AreRanges net (ranges_from k ds)) (sym front.end) back.ranges);
    end = end_join first cs ds ∙ (ap (λ (k : ℕ). end_from k ds) front.end ∙ back.end);
  }

-- ---- copies, check bits and rails

abbrev ReadsStay : Type 0
ReadsStay = (net : GateList) (more : List GateForm) (leaf : List ℕ) (r : Region) → r.end ≤ net_count net → ReadsAlone net leaf r → ReadsAlone (record net { gates = net.gates ++ more }) leaf r

abbrev LeadsStay : Type 0
LeadsStay = (net : GateList) (more : List GateForm) (r : Region) → AllLead net r → AllLead (record net { gates = net.gates ++ more }) r

abbrev FrontAnswers : Type 0
FrontAnswers = (net : GateList) (more : List GateForm) (first end : ℕ) (v : ℕ → Bool) → AnswersWithin (record net { gates = net.gates ++ more }) first end v → AnswersWithin net first end v

module _ (reads : ReadsStay) (leads : LeadsStay) (front : FrontAnswers) where
  pub range_stays : (leaf : List ℕ) (m : Machine) (code : Code) (l : Layout) → Stays (λ net r. IsRangeOf net leaf m code l r)
  range_stays leaf m code l net more r within is = record {
    reads = reads net more leaf r within is.reads;
    leads = leads net more r is.leads;
    value = λ last v u e answers evaluation. is.value last v u e (front net more r.first r.end v answers) evaluation;
  }

  pub rail_stays : (watched : List ℕ) (Bad : (ℕ → Bool) → Type 0) → Stays (λ net r. IsRailRange net watched Bad r)
  rail_stays watched Bad net more r within is = record {
    reads = reads net more watched r within is.reads;
    leads = leads net more r is.leads;
    value = λ last v e answers. is.value last v e (front net more r.first r.end v answers);
  }
