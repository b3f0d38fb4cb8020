-- A library entry whose nets are noted is its statement, lowered.
use Rattle.std.proofs.Common.{◌≡◌, refl, sym, ◌∙◌, ap, ap₂, subst, ℕ, zero, suc, ◌+◌, ◌<◌, ◌≤◌, List, [], ◌∷◌, length, map, find, get_or, Bool, true, false, ◌||◌, cond, inl, inr, Option, Some, None, Contains, arith}
use Rattle.std.specs.Prelude.{IfSome, option_map}
use Rattle.std.specs.List.{AllByRecursion, enumerate_from, range_with_len}
use Rattle.netlist_spec.specs.Netlist.{Name, same_name, stands_in, are_distinct, subckt, File}
use Rattle.netlist_spec.specs.Covers.{Library}
use Rattle.netlist_spec.specs.Fits.{bit_of, port_bits, OutputsHave}
use Rattle.netlist_spec.specs.Placed.{placed, input_ports, output_ports, numbered_ports, actual_of, actuals_among}
use Rattle.netlist_spec.specs.Size.{cost_of}
use Rattle.netlist_spec.specs.Gates.{GateList, AnswersWithin}
use Rattle.imp_text.proofs.NamesLemmas.{same_name-comm}
use Rattle.blif_read.specs.declared.file.Bind.{Bind as ReadBind}
use Rattle.blif_read.specs.Ids.{IsIdOf}
use Rattle.blif_read.specs.View.{bind_of, name_at}
use Rattle.gate_net.specs.GateNet.{net_count}
use Rattle.reduction.specs.Appended.{IsAppended, ReadsInputsAlone}
use Rattle.reduction.proofs.GateReads.{reads_over}
use Rattle.source_laws.specs.Nets.{NetsHold, bits_at}
use Rattle.source_laws.proofs.Lists.{Among, all_among, among_all, among_map, contained, stands}
use Rattle.source_laws.proofs.Ports.{numbered_are_distinct}
use Rattle.lowering.specs.Nets.{place_of, net_in}
use Rattle.lowering.specs.Ports.{NotesPorts, bind_net, port_net, input_nets, outputs_put}
use Rattle.lowering.specs.Lowers.{Lowers}
use Rattle.lowering.proofs.TableLemmas.{place_at, net_at}
use Rattle.lowering.proofs.GateLemmas.{allowed_inputs}
use Rattle.lowering.proofs.PortLemmas.{ports_length}
use Rattle.lowering.proofs.PlacedLemmas.{found, found_if, actual_name, actual_is, actual_among, among_actual, outputs_length, outputs_kept, HasOutput, outputs_noted}

-- ---- lists

map_all : {A : Type 0} (P : ℕ → Type 0) (f : A → ℕ) (xs : List A) → ((x : A) → Among x xs → P (f x)) → AllByRecursion P (map f xs)
map_all P f [] h = tt
map_all P f (x ∷ xs) h = (h x (inl refl), map_all P f xs (λ y a. h y (inr a)))

map_same : {A B : Type 0} (f g : A → B) (xs : List A) → ((x : A) → Among x xs → f x ≡ g x) → map f xs ≡ map g xs
map_same f g [] h = refl
map_same {A} {B} f g (x ∷ xs) h = ap₂ (λ (y : B) (ys : List B). y ∷ ys) (h x (inl refl)) (map_same f g xs (λ y a. h y (inr a)))

map_twice : {A : Type 0} (v : ℕ → Bool) (f : A → ℕ) (xs : List A) → map v (map f xs) ≡ map (λ x. v (f x)) xs
map_twice v f [] = refl
map_twice v f (x ∷ xs) = ap (λ (bs : List Bool). v (f x) ∷ bs) (map_twice v f xs)

all_enumerated : (P : ℕ × Name → Type 0) (a : ℕ) (xs : List Name) → ((i : ℕ) → i < length xs → P (a + i, get_or xs i [])) → AllByRecursion P (enumerate_from a xs)
all_enumerated P a [] h = tt
all_enumerated P a (x ∷ xs) h = (
  subst (λ (n : ℕ). P (n, x)) (let e : a + 0 ≡ a = omega arith in e) (h 0 (omega arith)),
  all_enumerated P (a + 1) xs (λ i inside. subst (λ (n : ℕ). P (n, get_or xs i [])) (let e : a + suc i ≡ a + 1 + i = omega arith in e) (h (suc i) (omega arith))),
)

at_among : (xs : List Name) (i : ℕ) → i < length xs → Among (get_or xs i []) xs
at_among [] i h = absurd (omega arith)
at_among (x ∷ xs) zero h = inl refl
at_among (x ∷ xs) (suc i) h = inr (at_among xs i (omega arith))

all_at : (P : ℕ → Type 0) (ns : List ℕ) (k : ℕ) → AllByRecursion P ns → k < length ns → P (get_or ns k 0)
all_at P [] k a h = absurd (omega arith)
all_at P (n ∷ ns) zero a h = a.0
all_at P (n ∷ ns) (suc k) a h = all_at P ns k a.1 (omega arith)

bit_at : (v : ℕ → Bool) (f : ℕ → Bool) (ns : List ℕ) (a n k : ℕ) → map v ns ≡ map f (range_with_len a n) → k < n → v (get_or ns k 0) ≡ f (a + k)
bit_at v f ns a zero k e h = absurd (omega arith)
bit_at v f [] a (suc n) k e h = cc e
bit_at v f (x ∷ ns) a (suc n) zero e h = let first : v x ≡ f a = cc e in first ∙ ap f (let s : a ≡ a + 0 = omega arith in s)
bit_at v f (x ∷ ns) a (suc n) (suc k) e h =
    let rest : map v ns ≡ map f (range_with_len (a + 1) n) = cc e in
    bit_at v f ns (a + 1) n k rest (omega arith) ∙ ap f (let s : a + 1 + k ≡ a + suc k = omega arith in s)

place_within : (n : Name) (ns : List Name) → stands_in n ns ≡ true → place_of ns n < length ns
place_within n [] h = cc h
place_within n (k ∷ ks) h = go (same_name k n) refl (place_within n ks)
  where
    go : (t : Bool) → same_name k n ≡ t → (stands_in n ks ≡ true → place_of ks n < length ks) → cond t zero (suc (place_of ks n)) < suc (length ks)
    go true e later = omega arith
    go false e later =
        let other : same_name n k ≡ false = same_name-comm n k ∙ e in
        let inside = later (sym (ap (λ (t : Bool). t || stands_in n ks) other) ∙ h) in
        omega arith

-- ---- an entry

module _ (all : List Name) (d : are_distinct all ≡ true) (ins outs : ℕ) (value : List Bool → ℕ → Bool) (most : ℕ) (binds : List ReadBind) (old : GateList) (before : List ℕ) (new : GateList) (noted : List ℕ)
    (ids : AllByRecursion (λ (b : ReadBind). IsIdOf all b.actual) binds) (size : length before ≡ length all)
    (given : AllByRecursion (λ p. stands_in p (map (λ (b : ReadBind). b.formal) binds) ≡ true) (numbered_ports 105 ins))
    (once : are_distinct (actuals_among (numbered_ports 111 outs) (map (bind_of all) binds)) ≡ true)
    (apart : AllByRecursion (λ n. stands_in n (actuals_among (numbered_ports 111 outs) (map (bind_of all) binds)) ≡ false) (actuals_among (numbered_ports 105 ins) (map (bind_of all) binds))) where
  abbrev read_names : List Name
  read_names = actuals_among (numbered_ports 105 ins) (map (bind_of all) binds)

  abbrev driven_names : List Name
  driven_names = actuals_among (numbered_ports 111 outs) (map (bind_of all) binds)

  -- what stands for an input
  record Stands (p : Name) : Type 0 where
    bind : ReadBind
    found : find (λ (b : ReadBind). same_name b.formal p) binds ≡ Some bind
    read : Among (name_at all bind.actual) read_names
    net : net_in all before (name_at all bind.actual) ≡ port_net before binds p

  stands_for : (p : Name) → Among p (numbered_ports 105 ins) → Stands p
  stands_for p h =
      let (b, f, a, e) = found p binds (all_among (λ p. stands_in p (map (λ (b : ReadBind). b.formal) binds) ≡ true) (numbered_ports 105 ins) given p h) in
      record {
        bind = b;
        found = f;
        read = actual_among all (numbered_ports 105 ins) binds b a (ap (λ (n : Name). stands_in n (numbered_ports 105 ins)) e ∙ stands p (numbered_ports 105 ins) h);
        net = net_at all before b.actual.0 d (all_among (λ (b : ReadBind). IsIdOf all b.actual) binds ids b a) ∙ sym (ap (bind_net before) f);
      }

  pub inputs_known : (limit : ℕ) → AllByRecursion (λ n. net_in all before n < limit) read_names → AllByRecursion (λ n. n < limit) (input_nets before binds ins)
  inputs_known limit known =
      map_all (λ n. n < limit) (port_net before binds) (numbered_ports 105 ins) (λ p h.
      let s = stands_for p h in
      subst (λ (n : ℕ). n < limit) s.net (all_among (λ n. net_in all before n < limit) read_names known (name_at all s.bind.actual) s.read))

  inputs_read : AllByRecursion (λ n. Contains (map (net_in all before) read_names) n) (input_nets before binds ins)
  inputs_read =
      map_all (λ n. Contains (map (net_in all before) read_names) n) (port_net before binds) (numbered_ports 105 ins) (λ p h.
      let s = stands_for p h in
      contained (map (net_in all before) read_names) (port_net before binds p)
      (subst (λ (n : ℕ). Among n (map (net_in all before) read_names)) s.net (among_map (net_in all before) read_names (name_at all s.bind.actual) s.read)))

  module _ (few : outs ≤ 128) (notes : NotesPorts ins outs value most binds old before new noted) where
    abbrev put : List ℕ
    put = outputs_put (numbered_ports 111 outs) notes.nets before binds

    kept : (n : Name) → stands_in n driven_names ≡ false → net_in all put n ≡ net_in all before n
    kept n h = outputs_kept all d (numbered_ports 111 outs) notes.nets binds before n ids h

    their_nets : AllByRecursion (HasOutput all d (numbered_ports 111 outs) notes.nets put) binds
    their_nets = outputs_noted all d (numbered_ports 111 outs) notes.nets binds before size ids once

    their_net : (b : ReadBind) → Among b binds → stands_in b.formal (numbered_ports 111 outs) ≡ true → net_in all put (name_at all b.actual) ≡ get_or notes.nets (place_of (numbered_ports 111 outs) b.formal) 0
    their_net b h = all_among (HasOutput all d (numbered_ports 111 outs) notes.nets put) binds their_nets b h

    all_driven : AllByRecursion (λ n. IsAppended old new (net_in all put n)) driven_names
    all_driven =
        among_all (λ n. IsAppended old new (net_in all put n)) driven_names (λ n h.
        let (b, there, port, name) = among_actual all (numbered_ports 111 outs) binds n h in
        let inside = place_within b.formal (numbered_ports 111 outs) port in
        let long = ports_length 111 outs in
        let count = notes.count in
        subst (λ (k : Name). IsAppended old new (net_in all put k)) name
        (subst (λ (k : ℕ). IsAppended old new k) (sym (their_net b there port))
        (all_at (IsAppended old new) notes.nets (place_of (numbered_ports 111 outs) b.formal) notes.appended (omega arith))))

    module _ (v : ℕ → Bool) where
      input_bit : (p : Name) → Among p (numbered_ports 105 ins) → bit_of (bits_at v (net_in all put)) (actual_of (map (bind_of all) binds) p) ≡ v (port_net before binds p)
      input_bit p h =
          let s = stands_for p h in
          let n = name_at all s.bind.actual in
          ap (bit_of (bits_at v (net_in all put))) (actual_is all p binds ∙ ap (option_map (actual_name all)) s.found)
          ∙ ap v (kept n (all_among (λ n. stands_in n driven_names ≡ false) read_names apart n s.read) ∙ s.net)

      input_bits : port_bits (bits_at v (net_in all put)) (map (bind_of all) binds) (numbered_ports 105 ins) ≡ map v (input_nets before binds ins)
      input_bits =
          map_same (λ p. bit_of (bits_at v (net_in all put)) (actual_of (map (bind_of all) binds) p)) (λ p. v (port_net before binds p)) (numbered_ports 105 ins) input_bit
          ∙ sym (map_twice v (port_net before binds) (numbered_ports 105 ins))

      module _ (bit : ℕ → Bool) (values : map v notes.nets ≡ map bit (range_with_len 0 outs)) where
        output_bit : (i : ℕ) (p : Name) → i < outs → get_or (numbered_ports 111 outs) i [] ≡ p → (o : Option ReadBind) → IfSome o (λ b. Among b binds × (b.formal ≡ p))
            → IfSome (option_map (actual_name all) o) (λ n. bits_at v (net_in all put) n ≡ bit (0 + i))
        output_bit i p h at None some = tt
        output_bit i p h at (Some b) some =
            let ports = numbered_ports 111 outs in
            let long = ports_length 111 outs in
            let named : get_or ports i [] ≡ b.formal = at ∙ sym some.1 in
            let place : place_of ports b.formal ≡ i = ap (place_of ports) (sym named) ∙ place_at ports i (numbered_are_distinct 111 outs (omega arith)) (omega arith) in
            let port : stands_in b.formal ports ≡ true = ap (λ (n : Name). stands_in n ports) (sym named) ∙ stands (get_or ports i []) ports (at_among ports i (omega arith)) in
            ap v (their_net b some.0 port ∙ ap (λ (k : ℕ). get_or notes.nets k 0) place) ∙ bit_at v bit notes.nets 0 outs i values h

        outputs_have : OutputsHave (bits_at v (net_in all put)) (map (bind_of all) binds) (numbered_ports 111 outs) bit
        outputs_have =
            all_enumerated (λ (q : ℕ × Name). IfSome (actual_of (map (bind_of all) binds) q.1) (λ n. bits_at v (net_in all put) n ≡ bit q.0)) 0 (numbered_ports 111 outs) (λ i inside.
            let long = ports_length 111 outs in
            let p = get_or (numbered_ports 111 outs) i [] in
            subst (λ (o : Option Name). IfSome o (λ n. bits_at v (net_in all put) n ≡ bit (0 + i))) (sym (actual_is all p binds))
            (output_bit i p (omega arith) refl (find (λ (b : ReadBind). same_name b.formal p) binds) (found_if p binds)))

    holding : (v : ℕ → Bool) → AnswersWithin new (net_count old) (net_count new) v
        → OutputsHave (bits_at v (net_in all put)) (map (bind_of all) binds) (numbered_ports 111 outs) (value (port_bits (bits_at v (net_in all put)) (map (bind_of all) binds) (numbered_ports 105 ins)))
    holding v a =
        subst (λ (bs : List Bool). OutputsHave (bits_at v (net_in all put)) (map (bind_of all) binds) (numbered_ports 111 outs) (value bs)) (sym (input_bits v))
        (outputs_have v (value (map v (input_nets before binds ins))) (notes.values v a))

    pub entry_lowers : (file : File) (library : Library) (name : Name) → input_ports (placed file library name) ≡ numbered_ports 105 ins → output_ports (placed file library name) ≡ numbered_ports 111 outs
        → cost_of file library (subckt name (map (bind_of all) binds)) ≡ most
        → ((nets : Name → ℕ) → ((v : ℕ → Bool) → AnswersWithin new (net_count old) (net_count new) v
        → OutputsHave (bits_at v nets) (map (bind_of all) binds) (numbered_ports 111 outs) (value (port_bits (bits_at v nets) (map (bind_of all) binds) (numbered_ports 105 ins))))
        → NetsHold file library (AnswersWithin new (net_count old) (net_count new)) nets (subckt name (map (bind_of all) binds)))
        → Lowers file library all (subckt name (map (bind_of all) binds)) old before new noted
    entry_lowers file library name inputs outputs costs holds =
        let I : List Name → Type 0 = λ ps. ReadsInputsAlone old new (map (net_in all before) (actuals_among ps (map (bind_of all) binds))) in
        let O : List Name → Type 0 = λ ps. (n : Name) → stands_in n (actuals_among ps (map (bind_of all) binds)) ≡ false → net_in all put n ≡ net_in all before n in
        let D : List Name → Type 0 = λ ps. AllByRecursion (λ n. IsAppended old new (net_in all put n)) (actuals_among ps (map (bind_of all) binds)) in
        subst (λ (l : List ℕ). Lowers file library all (subckt name (map (bind_of all) binds)) old before new l) (sym notes.table)
        (record {
          extends = notes.extends;
          cost = subst (λ (k : ℕ). net_count new ≤ net_count old + k) (sym costs) notes.cost;
          reads = subst I (sym inputs) (reads_over old new (map (net_in all before) read_names) (input_nets before binds ins) (allowed_inputs (map (net_in all before) read_names) (net_count old) (input_nets before binds ins) inputs_read) notes.reads);
          size = outputs_length all d (numbered_ports 111 outs) notes.nets binds before;
          others = subst O (sym outputs) kept;
          driven = subst D (sym outputs) all_driven;
          holds = holds (net_in all put) holding;
        })
