-- The places of state words, one word behind the other.
use Rattle.std.proofs.Common.{◌≡◌, refl, sym, ◌∙◌, ap, ap₂, subst, ℕ, ◌+◌, ◌<◌, ◌≤◌, List, [], ◌∷◌, ◌++◌, Bool, Some, length, map, get_or, slice_get, arith, append_assoc, append-nil, length-append}
use Rattle.std.specs.Prelude.{sum}
use Rattle.std.specs.List.{AllByRecursion, AllZip, range_with_len, zip}
use Rattle.std.proofs.lemmas.List.{length-map}
use Rattle.std.proofs.lemmas.List.FromFn.{length-map-range_with_len}
use Rattle.std.proofs.lemmas.List.Sums.{sum_by_push}
use Rattle.netlist_spec.specs.CellBits.{latch_bit}
use Rattle.netlist_spec.specs.Gates.{GateList, Machine}
use Rattle.guard_spec.specs.Codes.{Code, checks_of}
use Rattle.guard_spec.specs.Plain.{word_cost}
use Rattle.guard_spec.specs.Words.{Layout, Words}
use Rattle.gate_net.specs.GateNet.{net_count}
use Rattle.cone_split.specs.Ranges.{KeepsGates}
use Rattle.guard_laws.specs.Places.{HavePlaces, latches_of_words}
use Rattle.guard_laws.specs.Rows.{right_bit}
use Rattle.guard_cells.specs.Cells.{Cell, GivesCosts, bit_costs, checks_cost, nets_at}
use Rattle.guard_net.specs.Built.{AreRight, GainsWord, GainsWords, latch_cells_from, stores_of}
use Rattle.guard_net.proofs.Lists.{keeps_itself, keeps_trans}
use Rattle.guard_net.proofs.RightCells.{RowsJoin, CopiesAreRight, ChecksAreRight, cells_join, copied_places, checked_places}

abbrev AreCopies : Machine → Code → Layout → ℕ → ℕ → List ℕ → Type 0
AreCopies m code l a n rs = AllZip (λ bit root. (u : ℕ → Bool) → right_bit m code l u bit ≡ Some (u root)) (map (λ i. latch_bit i) (range_with_len a n)) rs

-- a word, from the copies of its roots and their check bits
module _ (join : RowsJoin) (m : Machine) (code : Code) (have : (l : Layout) → HavePlaces m code l) (word leaf roots : List ℕ) (are_roots : roots ≡ nets_at (stores_of m) word) (within : AllByRecursion (λ i. i < length (stores_of m)) word) where
  pub word_gained : (old mid new : GateList) (before between after nets checks : List ℕ)
      → KeepsGates old mid → length nets ≡ length roots → between ≡ before ++ nets → CopiesAreRight m leaf roots old mid nets
      → ((cost : ℕ → ℕ) → GivesCosts m cost → net_count mid ≤ net_count old + sum (bit_costs cost roots))
      → KeepsGates mid new → length checks ≡ code.columns → after ≡ between ++ checks → ChecksAreRight m code leaf roots mid new checks
      → ((cost : ℕ → ℕ) → GivesCosts m cost → net_count new ≤ net_count mid + checks_cost cost code roots)
      → GainsWord m code word leaf old new before after
  word_gained old mid new before between after nets checks keep long are copies few keep_more wide are_more checked few_more =
      let count : length nets ≡ length word = long ∙ (ap length are_roots ∙ length-map word (λ i. get_or (stores_of m) i 0)) in
      record {
        kept = keeps_trans old mid new keep keep_more;
        nets = nets ++ checks;
        count = length-append nets checks ∙ ap₂ (λ (a b : ℕ). a + b) count wide;
        cells = are_more ∙ (ap (λ (ns : List ℕ). ns ++ checks) are ∙ append_assoc before nets checks);
        right = λ l front back e.
            let a : ℕ = latches_of_words code front in
            let first : AreRight m code l leaf (net_count old) (latch_cells_from a nets) mid
            = subst (λ (n : ℕ). AreRight m code l leaf (net_count old) (zip (map (λ i. latch_bit i) (range_with_len a n)) nets) mid) (sym count)
            (copies code l (map (λ i. latch_bit i) (range_with_len a (length word))) (subst (λ (rs : List ℕ). AreCopies m code l a (length word) rs) (sym are_roots) (copied_places m code l (have l) front back word e within))) in
            let second : AreRight m code l leaf (net_count mid) (latch_cells_from (a + length word) checks) new
            = subst (λ (n : ℕ). AreRight m code l leaf (net_count mid) (zip (map (λ i. latch_bit i) (range_with_len (a + length word) n)) checks) new) (sym wide)
            (checked l (map (λ i. latch_bit i) (range_with_len (a + length word) code.columns)) (length-map-range_with_len (λ i. latch_bit i) (a + length word) code.columns)
            (λ j bit at u. checked_places m code l (have l) front back word e within j bit at u ∙ ap (λ (rs : List ℕ). slice_get (checks_of code (map u rs)) j) (sym are_roots))) in
            subst (λ (cs : List Cell). AreRight m code l leaf (net_count old) cs new) (sym (cells_join (λ i. latch_bit i) a (a + length word) nets checks (ap (λ (n : ℕ). a + n) (sym count))))
            (join leaf m code l (net_count old) (latch_cells_from a nets) (latch_cells_from (a + length word) checks) mid new first keep_more second);
        few = λ cost gives.
            let b = few cost gives in
            let c = few_more cost gives in
            let all : word_cost code (bit_costs cost (nets_at (stores_of m) word)) ≡ sum (bit_costs cost roots) + checks_cost cost code roots = ap (λ (rs : List ℕ). word_cost code (bit_costs cost rs)) (sym are_roots) in
            omega (arith, all, b, c);
      }

-- no words yet
pub no_words : (m : Machine) (code : Code) (leaf : List ℕ) (net : GateList) (cells : List ℕ) → GainsWords m code [] leaf net net cells cells
no_words m code leaf net cells = record {
  kept = keeps_itself net;
  nets = [];
  count = refl;
  cells = sym (append-nil cells);
  right = λ l back e. record { ranges = tt; end = refl };
  few = λ cost gives. omega arith;
}

-- one word more
pub words_gained : RowsJoin → (m : Machine) (code : Code) (words all : Words) (word leaf : List ℕ) (old mid new : GateList) (before between after : List ℕ) → all ≡ words ++ word ∷ []
    → GainsWords m code words leaf old mid before between → GainsWord m code word leaf mid new between after → GainsWords m code all leaf old new before after
words_gained join m code words all word leaf old mid new before between after is front one =
    subst (λ (ws : Words). GainsWords m code ws leaf old new before after) (sym is) (record {
      kept = keeps_trans old mid new front.kept one.kept;
      nets = front.nets ++ one.nets;
      count = length-append front.nets one.nets ∙ (ap₂ (λ (a b : ℕ). a + b) front.count one.count ∙ sym (sum_by_push (λ (w : List ℕ). length w + code.columns) words word));
      cells = one.cells ∙ (ap (λ (ns : List ℕ). ns ++ one.nets) front.cells ∙ append_assoc before front.nets one.nets);
      right = λ l back e.
          let split : l.state ≡ words ++ word ∷ back = e ∙ append_assoc words (word ∷ []) back in
          let at : latches_of_words code words ≡ 0 + length front.nets = let c = front.count in omega (arith, c) in
          subst (λ (cs : List Cell). AreRight m code l leaf (net_count old) cs new) (sym (cells_join (λ i. latch_bit i) 0 (latches_of_words code words) front.nets one.nets at))
          (join leaf m code l (net_count old) (latch_cells_from 0 front.nets) (latch_cells_from (latches_of_words code words) one.nets) mid new (front.right l (word ∷ back) split) one.kept (one.right l words back split));
      few = λ cost gives.
          let a = front.few cost gives in
          let b = one.few cost gives in
          let c = sum_by_push (λ (w : List ℕ). word_cost code (bit_costs cost (nets_at (stores_of m) w))) words word in
          omega (arith, a, b, c);
    })
