-- The latches and outputs of a machine that stands for a source, pushed one by one.
use Rattle.std.proofs.Common.{◌≡◌, refl, sym, ◌∙◌, ap, ap₂, subst, ℕ, zero, suc, ◌+◌, ◌-◌, ◌<◌, ◌≤◌, ◌⊎◌, inl, inr, Bool, List, [], ◌∷◌, ◌++◌, get_or, length, map, slice_get, Some, take, arith}
use Rattle.std.specs.List.{AllByRecursion, AllZip, range_with_len}
use Rattle.std.proofs.lemmas.Option.{same_Some, slice_get-get_or, slice_get_within}
use Rattle.std.proofs.lemmas.List.{get_or-map, length-map, map_push, take_more}
use Rattle.netlist_spec.specs.Gates.{GateList, IsMachine, LatchRow as Row, Machine}
use Rattle.guard_spec.specs.Codes.{Code}
use Rattle.guard_spec.specs.Words.{IsPartition, Layout}
use Rattle.gate_net.specs.declared.gate.NetId.{NetId}
use Rattle.gate_net.specs.declared.machine.LatchRow.{LatchRow}
use Rattle.gate_net.specs.Gate.{net_number}
use Rattle.gate_net.specs.GateNet.{net_count}
use Rattle.gate_net.specs.Machine.{latch_row, machine_of}
use Rattle.cone_split.proofs.Cells.{contains_at}
use Rattle.cone_split.proofs.Ranges.{get_cases}
use Rattle.guard_laws.specs.Places.{latches_of_words}
use Rattle.guard_laws.proofs.Lists.{as_long, inside}
use Rattle.guard_names.proofs.Counts.{numbers_long, summed}
use Rattle.guard_made.proofs.Costs.{stores_below}
use Rattle.guard_net.proofs.ShownOutputs.{all_zip_push}
use Rattle.correction_laws.specs.FromJoined.{IsOver}
use Rattle.correction_laws.specs.Joined.{Corrector, IsJoined}
use Rattle.correction_laws.proofs.Lists.{range_below}
use Rattle.correction_laws.proofs.Values.{holder, of_row}
use Rattle.joined_net.specs.Ready.{IsReadyToCopy}
use Rattle.correction_net.specs.StandIn.{StandsIn}

-- the first elements, and one more
pub next : {A B : Type 0} (f : A → B) (xs : List B) (items : List A) (i : ℕ) (d : A) → xs ≡ map f items → i < length items → take (i + 1) xs ≡ take i xs ++ f (get_or items i d) ∷ []
next f xs items i d are h =
    let long : length xs ≡ length items = ap length are ∙ length-map items f in
    take_more xs i (f d) (omega (arith, long, h))
    ∙ ap (λ x. take i xs ++ x ∷ []) (ap (λ ys. get_or ys i (f d)) are ∙ get_or-map f items i d (f d) h)

-- a net that is pushed stands for the next one
pub net_pushed : (Over : ℕ → ℕ → Type 0) (xs : List ℕ) (items nets more : List NetId) (i : ℕ) (d n : NetId) → xs ≡ map net_number items → i < length items → more ≡ nets ++ n ∷ []
    → AllZip Over (take i xs) (map net_number nets) → Over (get_or items i d).0 n.0 → AllZip Over (take (i + 1) xs) (map net_number more)
net_pushed Over xs items nets more i d n are h is so_far one =
    subst (λ (ys : List ℕ). AllZip Over ys (map net_number more)) (sym (next net_number xs items i d are h))
    (subst (λ (ms : List ℕ). AllZip Over (take i xs ++ (get_or items i d).0 ∷ []) ms) (sym (ap (map net_number) is ∙ map_push net_number nets n))
    (all_zip_push Over (take i xs) (map net_number nets) (get_or items i d).0 n.0 so_far one))

-- ---- latches

-- a D net of a machine is a net
pub store_below : (n : ℕ) (rows : List Row) (items : List LatchRow) (i : ℕ) (d : LatchRow) → AllByRecursion (λ r. r.d < n) rows → rows ≡ map latch_row items → i < length items → (get_or items i d).d.0 < n
store_below n rows items i d all are h = at items i (subst (λ (rs : List Row). AllByRecursion (λ r. r.d < n) rs) are all) h
  where
    at : (xs : List LatchRow) (j : ℕ) → AllByRecursion (λ r. r.d < n) (map latch_row xs) → j < length xs → (get_or xs j d).d.0 < n
    at [] j a g = absurd (omega arith)
    at (x ∷ xs) zero a g = a.0
    at (x ∷ xs) (suc j) a g = at xs j a.1 (omega arith)

-- The first latches have nets that stand for those of the source's, and the same inits.
pub record AreOver (Over : ℕ → ℕ → Type 0) (first : List Row) (rows : List LatchRow) : Type 0 where
  pub stores : AllZip Over (map (λ r. r.d) first) (map (λ r. r.d) (map latch_row rows))
  pub inits : map (λ r. r.init) (map latch_row rows) ≡ map (λ r. r.init) first

pub no_rows : (Over : ℕ → ℕ → Type 0) (rows : List LatchRow) → rows ≡ [] → AreOver Over [] rows
no_rows Over rows e = subst (λ (rs : List LatchRow). AreOver Over [] rs) (sym e) (record { stores = tt; inits = refl })

pub row_pushed : (Over : ℕ → ℕ → Type 0) (all : List Row) (items rows more : List LatchRow) (i : ℕ) (d : LatchRow) (n : NetId) (init : Bool) → all ≡ map latch_row items → i < length items → more ≡ rows ++ record { d = n; init = init } ∷ []
    → init ≡ (get_or items i d).init → AreOver Over (take i all) rows → Over (get_or items i d).d.0 n.0 → AreOver Over (take (i + 1) all) more
row_pushed Over all items rows more i d n init are h is same so_far one =
    let here : LatchRow = get_or items i d in
    let row : LatchRow = record { d = n; init = init } in
    let longer : take (i + 1) all ≡ take i all ++ latch_row here ∷ [] = next latch_row all items i d are h in
    let pushed : map latch_row more ≡ map latch_row rows ++ latch_row row ∷ [] = ap (map latch_row) is ∙ map_push latch_row rows row in
    subst (λ (rs : List Row). AreOver Over rs more) (sym longer) (record {
      stores = subst (λ (ms : List ℕ). AllZip Over (map (λ r. r.d) (take i all ++ latch_row here ∷ [])) ms) (sym (ap (map (λ (r : Row). r.d)) pushed ∙ map_push (λ (r : Row). r.d) (map latch_row rows) (latch_row row)))
          (subst (λ (xs : List ℕ). AllZip Over xs (map (λ r. r.d) (map latch_row rows) ++ n.0 ∷ [])) (sym (map_push (λ (r : Row). r.d) (take i all) (latch_row here)))
          (all_zip_push Over (map (λ r. r.d) (take i all)) (map (λ r. r.d) (map latch_row rows)) here.d.0 n.0 so_far.stores one));
      inits = ap (map (λ (r : Row). r.init)) pushed ∙ (map_push (λ (r : Row). r.init) (map latch_row rows) (latch_row row)
          ∙ (ap₂ (λ (bs : List Bool) (b : Bool). bs ++ b ∷ []) so_far.inits same ∙ sym (map_push (λ (r : Row). r.init) (take i all) (latch_row here))));
    })

-- ---- the machine

module _ (source : Machine) (code : Code) (l : Layout) (t k : ℕ) (joined : GateList) (correctors : List Corrector) (nets : List ℕ) (first : ℕ) (is_source : IsMachine source) (partition : IsPartition (length source.latches) k l.state)
    (is : IsJoined source code l t joined correctors nets first) where
  corrected_below : (j m : ℕ) → slice_get nets j ≡ Some m → m < net_count joined
  corrected_below j m e =
      let few = inside nets j m e in
      let many = is.corrected.count in
      let (c, has, (p, at)) = holder source code l t k joined correctors nets first is_source partition is j (omega (arith, few, many)) in
      let (low, high, (q, good)) = of_row source code l t k joined correctors nets first is_source partition is c has in
      let a = slice_get_within c.word p j at in
      let b = good.count in
      let there = slice_get-get_or c.nets p 0 (omega (arith, a, b)) in
      let same : m ≡ get_or c.nets p 0 = same_Some m (get_or c.nets p 0) (sym e ∙ is.corrected.each c p j (get_or c.nets p 0) has at there) in
      let total = is.cells.count in
      by_place m (get_or c.nets p 0) c.first c.end same high total (good.known (get_or c.nets p 0) (contains_at c.nets p (get_or c.nets p 0) there))
    where
      by_place : (m n a b : ℕ) → m ≡ n → b ≤ first → net_count joined ≡ first + length source.net.gates → (n < joined.leaves) ⊎ ((a ≤ n) × (n < b)) → m < net_count joined
      by_place m n a b same high total (inl h) = omega (arith, same, high, total, h)
      by_place m n a b same high total (inr h) = let g = h.1 in omega (arith, same, high, total, g)

  pub over_below : (x m : ℕ) → x < net_count source.net → IsOver source nets first x m → m < net_count joined
  over_below x m low (inl e) = by_part (get_cases (range_with_len 0 source.inputs) nets x m e)
    where
      by_part : (slice_get (range_with_len 0 source.inputs) x ≡ Some m) ⊎ ((j : ℕ) × (x ≡ length (range_with_len 0 source.inputs) + j) × (slice_get nets j ≡ Some m)) → m < net_count joined
      by_part (inl at) = let h = range_below 0 source.inputs m (contains_at (range_with_len 0 source.inputs) x m at) in let all = is.leaves in omega (arith, h, all)
      by_part (inr (j, same, at)) = corrected_below j m at
  over_below x m low (inr (high, e)) = let total = is.cells.count in omega (arith, low, high, e, total)

  pub all_below : (xs ms : List ℕ) → AllByRecursion (λ x. x < net_count source.net) xs → AllZip (IsOver source nets first) xs ms → AllByRecursion (λ m. m < net_count joined) ms
  all_below [] [] low each = tt
  all_below [] (m ∷ ms) low each = absurd each
  all_below (x ∷ xs) [] low each = absurd each
  all_below (x ∷ xs) (m ∷ ms) low each = (over_below x m low.0 each.0, all_below xs ms low.1 each.1)

rows_low : (n : ℕ) (rows : List Row) → AllByRecursion (λ m. m < n) (map (λ r. r.d) rows) → AllByRecursion (λ r. r.d < n) rows
rows_low n [] low = tt
rows_low n (r ∷ rows) low = (low.0, rows_low n rows low.1)

-- The latches of the source are no more than the leaves of its guard.
pub latches_fit : (source : Machine) (code : Code) (l : Layout) (t k : ℕ) (joined : GateList) (nets : List ℕ) (first : ℕ) (Over : ℕ → ℕ → Type 0) (rows : List LatchRow) → IsPartition (length source.latches) k l.state → IsReadyToCopy source code l t joined nets first
    → AllZip Over (map (λ r. r.d) source.latches) (map (λ r. r.d) (map latch_row rows)) → length rows ≤ joined.leaves
latches_fit source code l t k joined nets first Over rows partition ready stores =
    let a = summed code l.state in
    let b = numbers_long (length source.latches) k l.state partition in
    let c = ready.joined_list.leaves in
    let d = as_long Over (map (λ r. r.d) source.latches) (map (λ r. r.d) (map latch_row rows)) stores in
    let e = length-map source.latches (λ (r : Row). r.d) in
    let f = length-map (map latch_row rows) (λ (r : Row). r.d) in
    let g = length-map rows latch_row in
    omega (arith, a, b, c, d, e, f, g)

pub stands_in : (source : Machine) (code : Code) (l : Layout) (t k : ℕ) (joined : GateList) (nets : List ℕ) (first inputs : ℕ) (rows : List LatchRow) (outs : List NetId) → IsMachine source → IsPartition (length source.latches) k l.state
    → IsReadyToCopy source code l t joined nets first → inputs + length rows ≡ joined.leaves
    → AllZip (IsOver source nets first) (map (λ r. r.d) source.latches) (map (λ r. r.d) (map latch_row rows)) → map (λ r. r.init) (map latch_row rows) ≡ map (λ r. r.init) source.latches
    → AllZip (IsOver source nets first) source.outputs (map net_number outs) → StandsIn source code l t (machine_of joined inputs rows outs)
stands_in source code l t k joined nets first inputs rows outs is partition ready leaves stores inits outputs =
    let all = ready.joined_list in
    let g = length-map rows latch_row in
    record {
      is_machine = record {
        gates = all.is_list;
        leaves = (let e : joined.leaves ≡ inputs + length (map latch_row rows) = omega (arith, leaves, g) in e);
        stores = rows_low (net_count joined) (map latch_row rows) (all_below source code l t k joined ready.correctors nets first is partition all (map (λ r. r.d) source.latches) (map (λ r. r.d) (map latch_row rows)) (stores_below (net_count source.net) source.latches is.stores) stores);
        outputs = all_below source code l t k joined ready.correctors nets first is partition all source.outputs (map net_number outs) is.outputs outputs;
      };
      nets = nets;
      first = first;
      ready = ready;
      stores = stores;
      inits = inits;
      outputs = outputs;
    }
