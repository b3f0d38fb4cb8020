-- The check bits of output words, one word behind the other.
use Rattle.std.proofs.Common.{◌≡◌, refl, sym, ◌∙◌, ap, subst, ℕ, ◌+◌, ◌*◌, ◌<◌, ◌≤◌, List, [], ◌∷◌, ◌++◌, length, map, slice_get, arith, append_assoc, append-nil, length-append}
use Rattle.std.specs.List.{AllByRecursion, range_with_len, zip}
use Rattle.std.proofs.lemmas.List.FromFn.{length-map-range_with_len}
use Rattle.std.proofs.lemmas.List.Sums.{sum_by_push}
use Rattle.netlist_spec.specs.CellBits.{output_bit}
use Rattle.netlist_spec.specs.Gates.{GateList, Machine}
use Rattle.guard_spec.specs.Codes.{Code, checks_of}
use Rattle.guard_spec.specs.Words.{Layout, Words}
use Rattle.gate_net.specs.GateNet.{net_count}
use Rattle.cone_split.specs.Ranges.{KeepsGates}
use Rattle.guard_laws.specs.Places.{HavePlaces}
use Rattle.guard_cells.specs.Cells.{Cell, GivesCosts, checks_cost, nets_at}
use Rattle.guard_made.specs.Made.{output_cells}
use Rattle.guard_net.specs.Built.{AreRight, GainsCheck, GainsChecks}
use Rattle.guard_net.proofs.Lists.{keeps_itself, keeps_trans}
use Rattle.guard_net.proofs.RightCells.{RowsJoin, ChecksAreRight, cells_join, checked_outputs}

-- a word, from the check bits of its roots
pub check_gained : (m : Machine) (code : Code) → ((l : Layout) → HavePlaces m code l) → (word leaf roots : List ℕ) → roots ≡ nets_at m.outputs word → AllByRecursion (λ i. i < length m.outputs) word
    → (old new : GateList) (before after checks : List ℕ) → KeepsGates old new → length checks ≡ code.columns → after ≡ before ++ checks → ChecksAreRight m code leaf roots old new checks
    → ((cost : ℕ → ℕ) → GivesCosts m cost → net_count new ≤ net_count old + checks_cost cost code roots)
    → GainsCheck m code word leaf old new before after
check_gained m code have word leaf roots are_roots within old new before after checks keep wide are checked few = record {
  kept = keep;
  nets = checks;
  count = wide;
  cells = are;
  right = λ l front back e.
      let a : ℕ = length m.outputs + length front * code.columns in
      subst (λ (n : ℕ). AreRight m code l leaf (net_count old) (zip (map (λ i. output_bit i) (range_with_len a n)) checks) new) (sym wide)
      (checked l (map (λ i. output_bit i) (range_with_len a code.columns)) (length-map-range_with_len (λ i. output_bit i) a code.columns)
      (λ j bit at u. checked_outputs m code l (have l) front back word e within j bit at u ∙ ap (λ (rs : List ℕ). slice_get (checks_of code (map u rs)) j) (sym are_roots)));
  few = λ cost gives. subst (λ (rs : List ℕ). net_count new ≤ net_count old + checks_cost cost code rs) are_roots (few cost gives);
}

-- no words yet
pub no_checks : (m : Machine) (code : Code) (leaf : List ℕ) (net : GateList) (cells : List ℕ) → GainsChecks m code [] leaf net net cells cells
no_checks m code leaf net cells = record {
  kept = keeps_itself net;
  nets = [];
  count = (let e : 0 ≡ 0 * code.columns = omega arith in e);
  cells = sym (append-nil cells);
  right = λ l back e. record { ranges = tt; end = refl };
  few = λ cost gives. omega arith;
}

-- one word more
pub checks_gained : RowsJoin → (m : Machine) (code : Code) (words all : Words) (word leaf : List ℕ) (old mid new : GateList) (before between after : List ℕ) → all ≡ words ++ word ∷ []
    → GainsChecks m code words leaf old mid before between → GainsCheck m code word leaf mid new between after → GainsChecks m code all leaf old new before after
checks_gained join m code words all word leaf old mid new before between after is front one =
    subst (λ (ws : Words). GainsChecks m code ws leaf old new before after) (sym is) (record {
      kept = keeps_trans old mid new front.kept one.kept;
      nets = front.nets ++ one.nets;
      count = (
          let a : length (front.nets ++ one.nets) ≡ length front.nets + length one.nets = length-append front.nets one.nets in
          let b : length (words ++ word ∷ []) ≡ length words + 1 = length-append words (word ∷ []) in
          let c : length (words ++ word ∷ []) * code.columns ≡ length words * code.columns + code.columns = ap (λ (n : ℕ). n * code.columns) b ∙ times (length words) code.columns in
          let d = front.count in
          let e = one.count in
          omega (arith, a, c, d, e)
          );
      cells = one.cells ∙ (ap (λ (ns : List ℕ). ns ++ one.nets) front.cells ∙ append_assoc before front.nets one.nets);
      right = λ l back e.
          let split : l.output ≡ words ++ word ∷ back = e ∙ append_assoc words (word ∷ []) back in
          let a : ℕ = length m.outputs in
          let b : ℕ = length m.outputs + length words * code.columns in
          subst (λ (cs : List Cell). AreRight m code l leaf (net_count old) cs new) (sym (cells_join (λ i. output_bit i) a b front.nets one.nets (ap (λ (n : ℕ). a + n) (sym front.count))))
          (join leaf m code l (net_count old) (output_cells a front.nets) (output_cells b one.nets) mid new (front.right l (word ∷ back) split) one.kept (one.right l words back split));
      few = λ cost gives.
          let a = front.few cost gives in
          let b = one.few cost gives in
          let c = sum_by_push (λ (w : List ℕ). checks_cost cost code (nets_at m.outputs w)) words word in
          omega (arith, a, b, c);
    })
  where
    times : (n k : ℕ) → (n + 1) * k ≡ n * k + k
    times n k = grind arith
