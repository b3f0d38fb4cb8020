-- What appended gates read.
use Rattle.std.proofs.Common.{◌≡◌, Bool, sym, refl, ◌∙◌, ap, subst, ℕ, zero, suc, ◌+◌, ◌<◌, ◌≤◌, ◌⊎◌, inl, inr, List, [], ◌∷◌, ◌++◌, length, map, take, get_or, Contains, arith, Option, Some, None, slice_get, Result, Ok, Err, OnOk, OnErr, IfSome}
use Rattle.std.proofs.lemmas.Option.{slice_get_within}
use Rattle.std.proofs.lemmas.List.Elements.{Contains-get_or}
use Rattle.std.proofs.lemmas.List.{get_or-map, length-map}
use Rattle.std.specs.List.{AllByRecursion}
use Rattle.netlist_spec.specs.Gates.{GateForm, GateList, ReadsNet, gate_reads}
use Rattle.gate_net.specs.declared.gate.NetId.{NetId}
use Rattle.gate_net.specs.Gate.{net_number}
use Rattle.gate_net.specs.GateNet.{net_count}
use Rattle.reduction.specs.Appended.{Extends, IsAppended, ReadsInputsAlone, nets_joined}
use Rattle.reduction.proofs.Appended.{IsJoined, count_grows, extends_same, extends_push}

-- Nets that are inputs or appended.
abbrev pub AreAllowed : List ℕ → ℕ → List ℕ → Type 0
AreAllowed ins first nets = (k : ℕ) → Contains nets k → Contains ins k ⊎ (first ≤ k)

contains_cases : (y x : ℕ) (xs : List ℕ) → Contains (y ∷ xs) x → (y ≡ x) ⊎ Contains xs x
contains_cases y x xs (zero, h, e) = inl e
contains_cases y x xs (suc k, h, e) = inr (k, omega arith, e)

pub allowed_none : (ins : List ℕ) (first : ℕ) → AreAllowed ins first []
allowed_none ins first k c = absurd (let h = c.1 in omega arith)

pub allowed_self : (ins : List ℕ) (first : ℕ) → AreAllowed ins first ins
allowed_self ins first k c = inl c

pub allowed_also : (ins nets : List ℕ) (first n : ℕ) → Contains ins n ⊎ (first ≤ n) → AreAllowed ins first nets → AreAllowed ins first (n ∷ nets)
allowed_also ins nets first n here rest k c =
    elim (contains_cases n k nets c) [
      | inl e ↦ (let P : ℕ → Type 0 = λ q. Contains ins q ⊎ (first ≤ q) in subst P e here)
      | inr d ↦ rest k d
    ]

pub allowed_appended : (ins : List ℕ) (old now : GateList) (nets : List ℕ) → AllByRecursion (IsAppended old now) nets → AreAllowed ins (net_count old) nets
allowed_appended ins old now [] all = allowed_none ins (net_count old)
allowed_appended ins old now (n ∷ nets) all = allowed_also ins nets (net_count old) n (inr all.0.0) (allowed_appended ins old now nets all.1)

pub allowed_joined : (ins : List ℕ) (old now : GateList) (so_far : Option NetId) (n : NetId) → IfSome so_far (λ m. IsAppended old now m.0) → Contains ins n.0 ⊎ (net_count old ≤ n.0) → AreAllowed ins (net_count old) (nets_joined so_far n)
allowed_joined ins old now None n some here = allowed_also ins [] (net_count old) n.0 here (allowed_none ins (net_count old))
allowed_joined ins old now (Some m) n some here = allowed_also ins (n.0 ∷ []) (net_count old) m.0 (inr some.0) (allowed_also ins [] (net_count old) n.0 here (allowed_none ins (net_count old)))

-- an input by its place
pub input_at : (ins : List NetId) (i : ℕ) (d : NetId) → i < length ins → Contains (map net_number ins) (get_or ins i d).0
input_at ins i d h =
    let P : ℕ → Type 0 = λ n. Contains (map net_number ins) n in
    subst P (get_or-map net_number ins i d 0 h) (Contains-get_or (map net_number ins) i 0 (let e = length-map ins net_number in omega arith))

-- Gates of a list that another one extends.

get_front : {X : Type 0} (n : ℕ) (xs : List X) (i : ℕ) (x : X) → i < n → slice_get xs i ≡ Some x → slice_get (take n xs) i ≡ Some x
get_front zero xs i x h e = absurd (omega arith)
get_front (suc n) [] i x h e = cc e
get_front (suc n) (y ∷ xs) zero x h e = e
get_front (suc n) (y ∷ xs) (suc i) x h e = get_front n xs i x (omega arith) e

reads_before : (mid new : GateList) (n k : ℕ) → Extends mid new → n < net_count mid → ReadsNet new n k → ReadsNet mid n k
reads_before mid new n k e h r =
    let l = e.leaves in
    let f = r.number in
    record {
      place = r.place;
      number = r.number ∙ ap (λ (a : ℕ). a + r.place) e.leaves;
      gate = r.gate;
      is_gate = (let P : List GateForm → Type 0 = λ gs. slice_get gs r.place ≡ Some r.gate in subst P e.gates (get_front (length mid.gates) new.gates r.place r.gate (omega arith) r.is_gate));
      reads = r.reads;
    }

pub reads_same : (net : GateList) (ins : List ℕ) → ReadsInputsAlone net net ins
reads_same net ins n k h r = absurd (let a = slice_get_within net.gates r.place r.gate r.is_gate in let f = r.number in omega arith)

-- more gates, over nets that are inputs or appended
pub reads_further : (old mid new : GateList) (ins nets : List ℕ) → Extends old mid → Extends mid new → AreAllowed ins (net_count old) nets → ReadsInputsAlone old mid ins → ReadsInputsAlone mid new nets → ReadsInputsAlone old new ins
reads_further old mid new ins nets a b allowed first second n k h r = elim (split n (net_count mid)) [
  | inl low ↦ first n k h (reads_before mid new n k b low r)
  | inr high ↦ elim (second n k high r) [ inl c ↦ allowed k c | inr late ↦ inr (let g = count_grows old mid a in omega arith) ]
]
  where
    split : (x y : ℕ) → (x < y) ⊎ (y ≤ x)
    split x y = grind arith

-- the same gates over other nets
pub reads_over : (old new : GateList) (ins nets : List ℕ) → AreAllowed ins (net_count old) nets → ReadsInputsAlone old new nets → ReadsInputsAlone old new ins
reads_over old new ins nets allowed h n k late r = elim (h n k late r) [ inl c ↦ allowed k c | inr d ↦ inr d ]

reads_pushed : (old : GateList) (g : GateForm) → ReadsInputsAlone old (record old { gates = old.gates ++ g ∷ [] }) (gate_reads g)
reads_pushed old g n k h r =
    let f = r.number in
    let P : GateForm → Type 0 = λ x. Contains (gate_reads x) k in
    inl (subst P (sym (last_one old.gates r.place r.gate (omega arith) r.is_gate)) r.reads)
  where
    last_one : (gs : List GateForm) (i : ℕ) (x : GateForm) → length gs ≤ i → slice_get (gs ++ g ∷ []) i ≡ Some x → g ≡ x
    last_one [] zero x h e = cc e
    last_one [] (suc i) x h e = cc e
    last_one (y ∷ gs) zero x h e = absurd (omega arith)
    last_one (y ∷ gs) (suc i) x h e = last_one gs i x (omega arith) e

-- what a call that pushes one gate appends
pub reads_of_push : {E : Type 0} (old new : GateList) (g : GateForm) (ins : List ℕ) (r : Result NetId E)
    → OnOk r (new ≡ record old { gates = old.gates ++ g ∷ [] }) → OnErr r (new ≡ old)
    → AreAllowed ins (net_count old) (gate_reads g)
    → ReadsInputsAlone old new ins
reads_of_push old new g ins (Ok n) ok err allowed =
    let P : GateList → Type 0 = λ net. ReadsInputsAlone old net ins in
    subst P (sym ok) (reads_over old (record old { gates = old.gates ++ g ∷ [] }) ins (gate_reads g) allowed (reads_pushed old g))
reads_of_push old new g ins (Err e) ok err allowed =
    let P : GateList → Type 0 = λ net. ReadsInputsAlone old net ins in
    subst P (sym err) (reads_same old ins)

-- a list under another name
pub reads_as : (old now new : GateList) (ins : List ℕ) → now ≡ new → ReadsInputsAlone old new ins → ReadsInputsAlone old now ins
reads_as old now new ins e h = let P : GateList → Type 0 = λ net. ReadsInputsAlone old net ins in subst P (sym e) h

pub extends_of_push : {E : Type 0} (old new : GateList) (g : GateForm) (r : Result NetId E) → OnOk r (new ≡ record old { gates = old.gates ++ g ∷ [] }) → OnErr r (new ≡ old) → Extends old new
extends_of_push old new g (Ok n) ok err = let P : GateList → Type 0 = λ net. Extends old net in subst P (sym ok) (extends_push old g)
extends_of_push old new g (Err e) ok err = let P : GateList → Type 0 = λ net. Extends old net in subst P (sym err) (extends_same old)

-- one more input joined to those in front of it
pub reads_joined : (old now new : GateList) (ins : List NetId) (i : ℕ) (d : NetId) (empty : Bool) (so_far : Option NetId) (bit : (ℕ → Bool) → Bool) → i < length ins
    → IsJoined old now empty so_far bit → ReadsInputsAlone old now (map net_number ins)
    → Extends now new → ReadsInputsAlone now new (nets_joined so_far (get_or ins i d))
    → ReadsInputsAlone old new (map net_number ins)
reads_joined old now new ins i d empty so_far bit there h before e more =
    let n : NetId = get_or ins i d in
    reads_further old now new (map net_number ins) (nets_joined so_far n) h.extends e
    (allowed_joined (map net_number ins) old now so_far n h.appended (inl (input_at ins i d there)))
    before more

-- a constant behind the nets that are joined, if there are none
pub reads_closed : (old now new : GateList) (ins : List ℕ) → Extends old now → ReadsInputsAlone old now ins → Extends now new → ReadsInputsAlone now new [] → ReadsInputsAlone old new ins
reads_closed old now new ins a before e more = reads_further old now new ins [] a e (allowed_none ins (net_count old)) before more

pub contains_first : (n : ℕ) (nets : List ℕ) → Contains (n ∷ nets) n
contains_first n nets = (0, omega arith, refl)

pub contains_later : (m n : ℕ) (nets : List ℕ) → Contains nets n → Contains (m ∷ nets) n
contains_later m n nets c = (suc c.0, let h = c.1 in omega arith, c.2)
