-- The ports of what is placed.
use Rattle.std.proofs.Common.{◌≡◌, ◌≢◌, refl, sym, ◌∙◌, ap, ap₂, subst, ℕ, zero, suc, ◌+◌, ◌-◌, ◌^◌, ◌<◌, ◌≤◌, drop, take, nat_lt, List, [], ◌∷◌, ◌++◌, length, map, filter, Bool, true, false, ◌||◌, ◌&&◌, not, cond, get_or, Option, Some, None, slice_get, All, arith, decimal}
use Rattle.std.specs.List.{AllByRecursion, AllZip, range_with_len}
use Rattle.netlist_spec.specs.Netlist.{Name, same_name, stands_in}
use Rattle.netlist_spec.specs.Reads.{first_appearances}
use Rattle.netlist_spec.specs.Placed.{port_names, numbered_ports}
use Rattle.netlist_spec.proofs.OneValue.{passes_both, passes_one, fails_first}
use Rattle.netlist_spec.proofs.Occurrences.{turn, first_stands}
use Rattle.imp_text.proofs.NamesLemmas.{same_name_self, same_name-comm, same_name-true, stands_in-append, stands_in-at}
use Rattle.imp_text.specs.declared.names.NameId.{NameId}
use Rattle.blif_read.specs.declared.file.Port.{Port as ReadPort}
use Rattle.blif_read.specs.declared.file.Model.{Model as ReadModel}
use Rattle.blif_read.specs.Ids.{IsIdOf, HasIds}
use Rattle.blif_read.specs.View.{name_at, port_of, model_of}
use Rattle.std.proofs.lemmas.Fmt.{decimal_injective}
use Rattle.std.proofs.lemmas.Bool.Decides.{nat_tests}
use Rattle.netlist_spec.specs.Placed.{a_model}
use Rattle.line_order.proofs.MarkLemmas.{each_of}
use Rattle.source_nets.specs.declared.ports.PortKind.{PortKind}
use Rattle.source_nets.specs.declared.ports.PortKind.TheVariants.{Input, Output}
use Rattle.source_nets.specs.Ports.{ports_of}

-- ---- a letter and a number

-- what differs from each of some names doesn't stand among them
pub not_among : (f : ℕ → Name) (n : Name) (low count : ℕ) → ((i : ℕ) → low ≤ i → i < low + count → f i ≢ n) → stands_in n (map f (range_with_len low count)) ≡ false
not_among f n low zero h = refl
not_among f n low (suc count) h =
    ap₂ (λ (b c : Bool). b || c) (other (same_name n (f low)) refl) (not_among f n (low + 1) count (λ i a b. h i (omega arith) (omega arith)))
  where
    other : (b : Bool) → same_name n (f low) ≡ b → same_name n (f low) ≡ false
    other true e = absurd (h low (omega arith) (omega arith) (sym (same_name-true n (f low) e)))
    other false e = e

pub is_among : (f : ℕ → Name) (n : Name) (low count i : ℕ) → low ≤ i → i < low + count → f i ≡ n → stands_in n (map f (range_with_len low count)) ≡ true
is_among f n low zero i a b e = absurd (omega arith)
is_among f n low (suc count) i a b e = go (same_name n (f low)) refl (λ (other : low ≢ i). is_among f n (low + 1) count i (omega arith) (omega arith) e)
  where
    go : (b : Bool) → same_name n (f low) ≡ b → ((low ≢ i) → stands_in n (map f (range_with_len (low + 1) count)) ≡ true) → (b || stands_in n (map f (range_with_len (low + 1) count))) ≡ true
    go true s rest = refl
    go false s rest = rest (λ same. let one : same_name n (f low) ≡ true = ap (λ j. same_name n (f j)) same ∙ ap (same_name n) e ∙ same_name_self n in cc (one, s))

-- ---- ports of models

-- a name stands among first appearances exactly where it stands in the list
kept_stands : (n k : Name) (ns : List Name) → stands_in n (filter (λ m. not (same_name k m)) ns) ≡ true → stands_in n ns ≡ true
kept_stands n k [] h = h
kept_stands n k (m ∷ ms) h = go (same_name k m) (kept_stands n k ms) h
  where
    or_last : (b : Bool) → stands_in n ms ≡ true → (b || stands_in n ms) ≡ true
    or_last true e = refl
    or_last false e = e

    or_step : (b : Bool) → (stands_in n (filter (λ m. not (same_name k m)) ms) ≡ true → stands_in n ms ≡ true) → (b || stands_in n (filter (λ m. not (same_name k m)) ms)) ≡ true → (b || stands_in n ms) ≡ true
    or_step true rest e = refl
    or_step false rest e = rest e

    go : (b : Bool) → (stands_in n (filter (λ m. not (same_name k m)) ms) ≡ true → stands_in n ms ≡ true) → stands_in n (cond (not b) (m ∷ filter (λ m. not (same_name k m)) ms) (filter (λ m. not (same_name k m)) ms)) ≡ true → (same_name n m || stands_in n ms) ≡ true
    go true rest e = or_last (same_name n m) (rest e)
    go false rest e = or_step (same_name n m) rest e

appears : (n : Name) (ns : List Name) → stands_in n (first_appearances ns) ≡ true → stands_in n ns ≡ true
appears n [] h = h
appears n (k ∷ ns) h = go (same_name n k) (appears n ns) h
  where
    go : (b : Bool) → (stands_in n (first_appearances ns) ≡ true → stands_in n ns ≡ true) → (b || stands_in n (filter (λ m. not (same_name k m)) (first_appearances ns))) ≡ true → (b || stands_in n ns) ≡ true
    go true rest e = refl
    go false rest e = rest (kept_stands n k (first_appearances ns) e)

pub in_first_appearances : (n : Name) (ns : List Name) → stands_in n (first_appearances ns) ≡ stands_in n ns
in_first_appearances n ns = go (stands_in n (first_appearances ns)) (stands_in n ns) refl refl
  where
    go : (b c : Bool) → stands_in n (first_appearances ns) ≡ b → stands_in n ns ≡ c → b ≡ c
    go true true e f = refl
    go false false e f = refl
    go true false e f = sym (appears n ns e) ∙ f
    go false true e f = sym e ∙ first_stands n ns f

-- a name that is none of the model's names is no port
at_id : (all : List Name) (k : ℕ) → k < length all → stands_in (get_or all k []) all ≡ true
at_id [] k h = absurd (omega arith)
at_id (n ∷ all) zero h = ap (λ b. b || stands_in n all) (same_name_self n)
at_id (n ∷ all) (suc k) h = go (same_name (get_or all k []) n) (at_id all k (omega arith))
  where
    go : (b : Bool) → stands_in (get_or all k []) all ≡ true → (b || stands_in (get_or all k []) all) ≡ true
    go true e = refl
    go false e = e

pub no_port : (all : List Name) (n : Name) (ports : List ReadPort) → stands_in n all ≡ false → AllByRecursion (λ (p : ReadPort). IsIdOf all p.name) ports → stands_in n (port_names (map (port_of all) ports)) ≡ false
no_port all n [] h ids = refl
no_port all n (p ∷ ps) h ids = ap₂ (λ (b c : Bool). b || c) (other (same_name n (name_at all p.name)) refl) (no_port all n ps h ids.1)
  where
    other : (b : Bool) → same_name n (name_at all p.name) ≡ b → same_name n (name_at all p.name) ≡ false
    other false e = e
    other true e =
        let same = same_name-true n (name_at all p.name) e in
        let there : stands_in n all ≡ true = ap (λ m. stands_in m all) same ∙ at_id all p.name.0 ids.0 in
        absurd (cc (there, h))

-- the name of a number that was found
pub named_at : (all : List Name) (id : NameId) (n : Name) → slice_get all id.0 ≡ Some n → name_at all id ≡ n
named_at all id n e = go all id.0 e
  where
    go : (ns : List Name) (k : ℕ) → slice_get ns k ≡ Some n → get_or ns k [] ≡ n
    go [] k e = absurd (cc e)
    go (m ∷ ns) zero e = cc e
    go (m ∷ ns) (suc k) e = go ns k e

-- ---- a name as a letter and digits

pub headed : (name : Name) (letter : ℕ) → 0 < length name → get_or name 0 0 ≡ letter → name ≡ letter ∷ drop 1 name
headed [] letter h e = absurd (omega arith)
headed (x ∷ xs) letter h e = ap (λ y. y ∷ xs) e

all_taken : {X : Type 0} (xs : List X) → take (length xs) xs ≡ xs
all_taken [] = refl
all_taken (x ∷ xs) = ap (λ ys. x ∷ ys) (all_taken xs)

-- the part from the second byte on
pub behind_first : (name : Name) → take (length name - 1) (drop 1 name) ≡ drop 1 name
behind_first [] = refl
behind_first (x ∷ xs) = let e : suc (length xs) - 1 ≡ length xs = omega arith in ap (λ n. take n xs) e ∙ all_taken xs

pub numbered : (letter count n : ℕ) (name : Name) → letter ∷ decimal n ≡ name → n < 2 ^ 64 → count ≤ 128 → nat_lt n count ≡ stands_in name (numbered_ports letter count)
numbered letter count n name e far few = go (nat_lt n count) refl
  where
    below : nat_lt n count ≡ true → n < count
    below h = grind (arith, nat_tests)

    above : nat_lt n count ≡ false → count ≤ n
    above h = grind (arith, nat_tests)

    go : (b : Bool) → nat_lt n count ≡ b → b ≡ stands_in name (numbered_ports letter count)
    go true h = let k = below h in sym (is_among (λ i. letter ∷ decimal i) name 0 count n (omega arith) (omega arith) e)
    go false h =
        let k = above h in
        sym (not_among (λ i. letter ∷ decimal i) name 0 count (λ i a b f.
        let digits : decimal i ≡ decimal n = ap (drop 1) (f ∙ sym e) in
        let same = decimal_injective i n (omega arith) far digits in omega arith))

-- ---- the ports of models

pub no_model_port : (m : ReadModel) (kind : PortKind) (n : Name) → HasIds m → stands_in n m.names ≡ false → stands_in n (ports_of kind (a_model (model_of m))) ≡ false
no_model_port m Input n ids h =
    let inputs = port_names (map (port_of m.names) m.inputs.items) in
    let clocks = port_names (map (port_of m.names) m.clocks.items) in
    in_first_appearances n (inputs ++ clocks) ∙ stands_in-append n inputs clocks
    ∙ ap₂ (λ (b c : Bool). b || c) (no_port m.names n m.inputs.items h (each_of (λ (p : ReadPort). IsIdOf m.names p.name) m.inputs.items ids.inputs))
    (no_port m.names n m.clocks.items h (each_of (λ (p : ReadPort). IsIdOf m.names p.name) m.clocks.items ids.clocks))
no_model_port m Output n ids h = no_port m.names n m.outputs.items h (each_of (λ (p : ReadPort). IsIdOf m.names p.name) m.outputs.items ids.outputs)
