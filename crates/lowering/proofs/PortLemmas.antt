-- The nets of ports, bind by bind.
use Rattle.std.proofs.Common.{◌≡◌, refl, sym, ◌∙◌, ap, ap₂, subst, ℕ, zero, suc, ◌+◌, ◌<◌, ◌≤◌, List, [], ◌∷◌, ◌++◌, length, map, find, take, replicate, set, get_or, Bool, true, false, ◌||◌, not, cond, Some, None, arith, decimal}
use Rattle.std.proofs.lemmas.List.{length-map, length-set, map-set, take_more}
use Rattle.std.proofs.lemmas.List.FromFn.{length-map-range_with_len}
use Rattle.std.specs.List.{range_with_len}
use Rattle.netlist_spec.specs.Netlist.{Name, same_name, stands_in, are_distinct}
use Rattle.netlist_spec.specs.Placed.{numbered_ports}
use Rattle.netlist_spec.proofs.OneValue.{passes_both, fails_first}
use Rattle.netlist_spec.proofs.Occurrences.{turn}
use Rattle.imp_text.proofs.NamesLemmas.{same_name-comm, same_name-true}
use Rattle.blif_read.specs.declared.file.Bind.{Bind as ReadBind}
use Rattle.gate_net.specs.declared.gate.NetId.{NetId}
use Rattle.gate_net.specs.Gate.{net_number}
use Rattle.source_laws.proofs.Ports.{numbered_are_distinct}
use Rattle.lowering.specs.Nets.{place_of}
use Rattle.lowering.specs.Ports.{bind_net, port_net, input_nets, input_put, output_put, outputs_put}
use Rattle.lowering.proofs.TableLemmas.{place_at}

-- ---- numbered ports

pub ports_length : (letter count : ℕ) → length (numbered_ports letter count) ≡ count
ports_length letter count = length-map-range_with_len (λ i. letter ∷ decimal i) 0 count

named_from : (letter a n k : ℕ) → k < n → get_or (map (λ i. letter ∷ decimal i) (range_with_len a n)) k [] ≡ letter ∷ decimal (a + k)
named_from letter a zero k h = absurd (omega arith)
named_from letter a (suc n) zero h = ap (λ i. letter ∷ decimal i) (let e : a ≡ a + 0 = omega arith in e)
named_from letter a (suc n) (suc k) h = named_from letter (a + 1) n k (omega arith) ∙ ap (λ i. letter ∷ decimal i) (let e : a + 1 + k ≡ a + suc k = omega arith in e)

pub port_at : (letter count k : ℕ) → k < count → get_or (numbered_ports letter count) k [] ≡ letter ∷ decimal k
port_at letter count k h = named_from letter 0 count k h ∙ ap (λ i. letter ∷ decimal i) (let e : 0 + k ≡ k = omega arith in e)

pub placed_at_number : (letter count k : ℕ) (name : Name) → count ≤ 128 → k < count → letter ∷ decimal k ≡ name → place_of (numbered_ports letter count) name ≡ k
placed_at_number letter count k name few h e =
    let long = ports_length letter count in
    ap (place_of (numbered_ports letter count)) (sym e ∙ sym (port_at letter count k h))
    ∙ place_at (numbered_ports letter count) k (numbered_are_distinct letter count (omega arith)) (omega arith)

-- ---- inputs

pub put_here : (table : List ℕ) (nets : List NetId) (b : ReadBind) (k : ℕ) (n : NetId) → place_of (numbered_ports 105 (length nets)) b.formal ≡ k → stands_in b.formal (numbered_ports 105 (length nets)) ≡ true
    → net_number n ≡ get_or table b.actual.0 0 → map net_number (set nets k n) ≡ input_put table (map net_number nets) b
put_here table nets b k n place port number =
    let xs = map net_number nets in
    let P : ℕ → Type 0 = λ m. set xs k n.0 ≡ cond (stands_in b.formal (numbered_ports 105 m)) (set xs (place_of (numbered_ports 105 m) b.formal) (get_or table b.actual.0 0)) xs in
    map-set net_number nets k n
    ∙ subst P (sym (long nets))
    (ap₂ (λ (j x : ℕ). set xs j x) (sym place) number
    ∙ sym (ap (λ (t : Bool). cond t (set xs (place_of (numbered_ports 105 (length nets)) b.formal) (get_or table b.actual.0 0)) xs) port))
  where
    long : (ns : List NetId) → length (map net_number ns) ≡ length ns
    long [] = refl
    long (x ∷ ns) = ap suc (long ns)

pub put_nowhere : (table : List ℕ) (nets : List NetId) (b : ReadBind) → stands_in b.formal (numbered_ports 105 (length nets)) ≡ false → map net_number nets ≡ input_put table (map net_number nets) b
put_nowhere table nets b none =
    let xs = map net_number nets in
    let P : ℕ → Type 0 = λ m. xs ≡ cond (stands_in b.formal (numbered_ports 105 m)) (set xs (place_of (numbered_ports 105 m) b.formal) (get_or table b.actual.0 0)) xs in
    subst P (sym (long nets)) (sym (ap (λ (t : Bool). cond t (set xs (place_of (numbered_ports 105 (length nets)) b.formal) (get_or table b.actual.0 0)) xs) none))
  where
    long : (ns : List NetId) → length (map net_number ns) ≡ length ns
    long [] = refl
    long (x ∷ ns) = ap suc (long ns)

-- One item of a list by distinct names is another one.
module _ (f : Name → ℕ) (n : Name) (x : ℕ) where
  abbrev instead : Name → ℕ
  instead p = cond (same_name n p) x (f p)

  unchanged : (ports : List Name) → stands_in n ports ≡ false → map f ports ≡ map instead ports
  unchanged [] h = refl
  unchanged (p ∷ ports) h =
      let parts = fails_first (same_name n p) (stands_in n ports) h in
      ap₂ (λ (y : ℕ) (ys : List ℕ). y ∷ ys) (sym (ap (λ (t : Bool). cond t x (f p)) parts.0)) (unchanged ports parts.1)

  pub changed : (ports : List Name) → are_distinct ports ≡ true → stands_in n ports ≡ true → set (map f ports) (place_of ports n) x ≡ map instead ports
  changed [] d h = cc h
  changed (p ∷ ports) d h = go (same_name n p) refl h (changed ports (passes_both (not (stands_in p ports)) (are_distinct ports) d).1)
    where
      go : (t : Bool) → same_name n p ≡ t → (t || stands_in n ports) ≡ true → (stands_in n ports ≡ true → set (map f ports) (place_of ports n) x ≡ map instead ports)
          → set (f p ∷ map f ports) (cond (same_name p n) zero (suc (place_of ports n))) x ≡ cond (same_name n p) x (f p) ∷ map instead ports
      go true e h later =
          let parts = passes_both (not (stands_in p ports)) (are_distinct ports) d in
          let turned : same_name p n ≡ true = same_name-comm p n ∙ e in
          let absent : stands_in n ports ≡ false = ap (λ m. stands_in m ports) (same_name-true n p e) ∙ turn _ parts.0 in
          ap (λ (t : Bool). set (f p ∷ map f ports) (cond t zero (suc (place_of ports n))) x) turned
          ∙ ap₂ (λ (y : ℕ) (ys : List ℕ). y ∷ ys) (sym (ap (λ (t : Bool). cond t x (f p)) e)) (unchanged ports absent)
      go false e h later =
          let turned : same_name p n ≡ false = same_name-comm p n ∙ e in
          ap (λ (t : Bool). set (f p ∷ map f ports) (cond t zero (suc (place_of ports n))) x) turned
          ∙ ap₂ (λ (y : ℕ) (ys : List ℕ). y ∷ ys) (sym (ap (λ (t : Bool). cond t x (f p)) e)) (later h)

-- the net of a port with one more bind, whose formal is new
bound_more : (table : List ℕ) (binds : List ReadBind) (b : ReadBind) (p : Name) → stands_in b.formal (map (λ (a : ReadBind). a.formal) binds) ≡ false
    → port_net table (binds ++ b ∷ []) p ≡ cond (same_name b.formal p) (get_or table b.actual.0 0) (port_net table binds p)
bound_more table [] b p new = go (same_name b.formal p)
  where
    go : (t : Bool) → bind_net table (cond t (Some b) None) ≡ cond t (get_or table b.actual.0 0) 0
    go true = refl
    go false = refl
bound_more table (a ∷ binds) b p new = go (same_name a.formal p) refl (bound_more table binds b p (fails_first (same_name b.formal a.formal) (stands_in b.formal (map (λ (a : ReadBind). a.formal) binds)) new).1)
  where
    go : (t : Bool) → same_name a.formal p ≡ t → port_net table (binds ++ b ∷ []) p ≡ cond (same_name b.formal p) (get_or table b.actual.0 0) (port_net table binds p)
        → bind_net table (cond t (Some a) (find (λ (b : ReadBind). same_name b.formal p) (binds ++ b ∷ []))) ≡ cond (same_name b.formal p) (get_or table b.actual.0 0) (bind_net table (cond t (Some a) (find (λ (b : ReadBind). same_name b.formal p) binds)))
    go true e later =
        let parts = fails_first (same_name b.formal a.formal) (stands_in b.formal (map (λ (a : ReadBind). a.formal) binds)) new in
        let other : same_name b.formal p ≡ false = ap (same_name b.formal) (sym (same_name-true a.formal p e)) ∙ parts.0 in
        sym (ap (λ (t : Bool). cond t (get_or table b.actual.0 0) (get_or table a.actual.0 0)) other)
    go false e later = later

same_map : (f g : Name → ℕ) → ((p : Name) → f p ≡ g p) → (ports : List Name) → map f ports ≡ map g ports
same_map f g h [] = refl
same_map f g h (p ∷ ports) = ap₂ (λ (y : ℕ) (ys : List ℕ). y ∷ ys) (h p) (same_map f g h ports)

-- the nets of the inputs with one more bind
put_next : (table : List ℕ) (binds : List ReadBind) (b : ReadBind) (count : ℕ) → count ≤ 128 → stands_in b.formal (map (λ (a : ReadBind). a.formal) binds) ≡ false
    → input_put table (input_nets table binds count) b ≡ input_nets table (binds ++ b ∷ []) count
put_next table binds b count few new = subst P (sym long) (go (stands_in b.formal ports) refl) ∙ sym (same_map (port_net table (binds ++ b ∷ [])) (instead (port_net table binds) b.formal x) (λ p. bound_more table binds b p new) ports)
  where
    ports : List Name
    ports = numbered_ports 105 count

    x : ℕ
    x = get_or table b.actual.0 0

    xs : List ℕ
    xs = input_nets table binds count

    long : length (input_nets table binds count) ≡ count
    long = mapped ports ∙ ports_length 105 count
      where
        mapped : (ps : List Name) → length (map (port_net table binds) ps) ≡ length ps
        mapped [] = refl
        mapped (p ∷ ps) = ap suc (mapped ps)

    P : ℕ → Type 0
    P m = cond (stands_in b.formal (numbered_ports 105 m)) (set xs (place_of (numbered_ports 105 m) b.formal) x) xs ≡ map (instead (port_net table binds) b.formal x) ports

    go : (t : Bool) → stands_in b.formal ports ≡ t → cond (stands_in b.formal ports) (set xs (place_of ports b.formal) x) xs ≡ map (instead (port_net table binds) b.formal x) ports
    go true e = ap (λ (t : Bool). cond t (set xs (place_of ports b.formal) x) xs) e ∙ changed (port_net table binds) b.formal x ports (numbered_are_distinct 105 count (omega arith)) e
    go false e = ap (λ (t : Bool). cond t (set xs (place_of ports b.formal) x) xs) e ∙ unchanged (port_net table binds) b.formal x ports e

-- a formal isn't one of those before it
new_formal : (binds : List ReadBind) (i : ℕ) (d : ReadBind) → are_distinct (map (λ (a : ReadBind). a.formal) binds) ≡ true → i < length binds → stands_in (get_or binds i d).formal (map (λ (a : ReadBind). a.formal) (take i binds)) ≡ false
new_formal [] i d a h = absurd (omega arith)
new_formal (b ∷ binds) zero d a h = refl
new_formal (b ∷ binds) (suc i) d a h =
    let parts = passes_both (not (stands_in b.formal (map (λ (a : ReadBind). a.formal) binds))) (are_distinct (map (λ (a : ReadBind). a.formal) binds)) a in
    ap₂ (λ (s t : Bool). s || t) (same_name-comm (get_or binds i d).formal b.formal ∙ apart binds i (turn _ parts.0) (omega arith)) (new_formal binds i d parts.1 (omega arith))
  where
    apart : (bs : List ReadBind) (j : ℕ) → stands_in b.formal (map (λ (a : ReadBind). a.formal) bs) ≡ false → j < length bs → same_name b.formal (get_or bs j d).formal ≡ false
    apart [] j e inside = absurd (omega arith)
    apart (c ∷ bs) zero e inside = (fails_first _ _ e).0
    apart (c ∷ bs) (suc j) e inside = apart bs j (fails_first _ _ e).1 (omega arith)

pub inputs_more : (table : List ℕ) (binds : List ReadBind) (i count : ℕ) (b : ReadBind) (nets : List ℕ) → count ≤ 128 → are_distinct (map (λ (a : ReadBind). a.formal) binds) ≡ true → i < length binds → b ≡ get_or binds i b
    → nets ≡ input_nets table (take i binds) count → input_put table nets b ≡ input_nets table (take (i + 1) binds) count
inputs_more table binds i count b nets few once h is so_far =
    let new : stands_in b.formal (map (λ (a : ReadBind). a.formal) (take i binds)) ≡ false
    = ap (λ (c : ReadBind). stands_in c.formal (map (λ (a : ReadBind). a.formal) (take i binds))) is ∙ new_formal binds i b once h in
    ap (λ (ns : List ℕ). input_put table ns b) so_far
    ∙ (put_next table (take i binds) b count few new
    ∙ ap (λ (bs : List ReadBind). input_nets table bs count) (ap (λ (c : ReadBind). take i binds ++ c ∷ []) is ∙ sym (take_more binds i b h)))

pub inputs_none : (table : List ℕ) (count : ℕ) (nets : List NetId) → nets ≡ replicate count (record { 0 = 0 }) → map net_number nets ≡ input_nets table [] count
inputs_none table count nets e = ap (λ (ns : List NetId). map net_number ns) e ∙ zeros 0 count
  where
    zeros : (a n : ℕ) → map net_number (replicate n (record { 0 = 0 })) ≡ map (port_net table []) (map (λ i. 105 ∷ decimal i) (range_with_len a n))
    zeros a zero = refl
    zeros a (suc n) = ap (λ (ns : List ℕ). 0 ∷ ns) (zeros (a + 1) n)

pub put_length : (table : List ℕ) (nets new : List NetId) (b : ReadBind) → map net_number new ≡ input_put table (map net_number nets) b → length new ≡ length nets
put_length table nets new b e = sym (length-map new net_number) ∙ (ap length e ∙ (go (stands_in b.formal (numbered_ports 105 (length (map net_number nets)))) ∙ length-map nets net_number))
  where
    xs : List ℕ
    xs = map net_number nets

    go : (t : Bool) → length (cond t (set xs (place_of (numbered_ports 105 (length xs)) b.formal) (get_or table b.actual.0 0)) xs) ≡ length xs
    go true = length-set xs (place_of (numbered_ports 105 (length xs)) b.formal) (get_or table b.actual.0 0)
    go false = refl

-- ---- outputs

pub output_length : (ports : List Name) (outs table : List ℕ) (b : ReadBind) → length (output_put ports outs table b) ≡ length table
output_length ports outs table b = go (stands_in b.formal ports)
  where
    go : (t : Bool) → length (cond t (set table b.actual.0 (get_or outs (place_of ports b.formal) 0)) table) ≡ length table
    go true = length-set table b.actual.0 (get_or outs (place_of ports b.formal) 0)
    go false = refl

put_last : (ports : List Name) (outs table : List ℕ) (binds : List ReadBind) (b : ReadBind) → outputs_put ports outs table (binds ++ b ∷ []) ≡ output_put ports outs (outputs_put ports outs table binds) b
put_last ports outs table [] b = refl
put_last ports outs table (a ∷ binds) b = put_last ports outs (output_put ports outs table a) binds b

pub outputs_more : (ports : List Name) (outs table : List ℕ) (binds : List ReadBind) (i : ℕ) (b : ReadBind) → i < length binds → b ≡ get_or binds i b
    → output_put ports outs (outputs_put ports outs table (take i binds)) b ≡ outputs_put ports outs table (take (i + 1) binds)
outputs_more ports outs table binds i b h is =
    sym (put_last ports outs table (take i binds) b)
    ∙ ap (outputs_put ports outs table) (ap (λ (c : ReadBind). take i binds ++ c ∷ []) is ∙ sym (take_more binds i b h))
