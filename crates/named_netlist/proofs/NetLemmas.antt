-- Nets of a gate list with names.
use Rattle.std.proofs.Common.{◌≡◌, ℕ, zero, suc, ◌+◌, ◌-◌, ◌<◌, ◌≤◌, List, [], ◌∷◌, ◌++◌, Some, length, map, get_or, slice_get, None, refl, subst, sym, ap, ◌∙◌, arith, All, Bool}
use Rattle.std.proofs.lemmas.List.{length-map}
use Rattle.std.specs.Prelude.{IfSome}
use Rattle.std.specs.declared.option.Option.{Option}
use Rattle.std.specs.List.{AllByRecursion, enumerate_from, flat_map}
use Rattle.netlist_spec.specs.Netlist.{Name, IsName, IsWordName}
use Rattle.netlist_spec.specs.Reads.{control_nets}
use Rattle.netlist_spec.specs.Gates.{GateForm, GateList, IsGateList, LatchRow, ReadsBelow}
use Rattle.netlist_spec.specs.Written.{Label, given_name, named_clocks, label_name, net_name, Named, IsNamed}
use Rattle.gate_net.specs.declared.gate.NetId.{NetId}
use Rattle.gate_net.specs.declared.machine.LatchRow.{LatchRow as Latch}
use Rattle.gate_net.specs.Gate.{net_number}
use Rattle.gate_net.specs.Machine.{latch_row}
use Rattle.imp_text.specs.declared.names.NameId.{NameId}
use Rattle.blif_read.specs.declared.file.Clocking.TheVariants.{Edge}
use Rattle.blif_read.specs.Ids.{IsIdOf, control_ids}
use Rattle.named_netlist.specs.Labels.{label_of}
use Rattle.named_netlist.specs.declared.label.Label.{Label as NetLabel}

-- the name of a net is that of its label
pub label-at : (names : List Name) (labels : List NetLabel) (n : ℕ) (d : NetLabel) → n < length labels → get_or (map label_name (map (label_of names) labels)) n [] ≡ label_name (label_of names (get_or labels n d))
label-at names [] n d h = absurd (omega arith)
label-at names (l ∷ labels) zero d h = refl
label-at names (l ∷ labels) (suc n) d h = label-at names labels n d (omega arith)

-- what holds of each number holds of each net
pub all-nets : (bound : ℕ) (nets : List NetId) → AllByRecursion (λ n. n < bound) (map net_number nets) → All (λ n. net_number n < bound) nets
all-nets bound [] h k d inside = absurd (omega arith)
all-nets bound (n ∷ nets) h zero d inside = h.0
all-nets bound (n ∷ nets) h (suc k) d inside = all-nets bound nets h.1 k d (omega arith)

-- the latch at a place
pub row-at : (latches : List Latch) (k : ℕ) (d : Latch) → k < length latches → slice_get (map latch_row latches) k ≡ Some (latch_row (get_or latches k d))
row-at [] k d h = absurd (omega arith)
row-at (l ∷ latches) zero d h = refl
row-at (l ∷ latches) (suc k) d h = row-at latches k d (omega arith)

pub store-at : (bound : ℕ) (latches : List Latch) (k : ℕ) (d : Latch) → AllByRecursion (λ (l : LatchRow). l.d < bound) (map latch_row latches) → k < length latches → net_number (get_or latches k d).d < bound
store-at bound [] k d h inside = absurd (omega arith)
store-at bound (l ∷ latches) zero d h inside = h.0
store-at bound (l ∷ latches) (suc k) d h inside = store-at bound latches k d h.1 (omega arith)

-- a gate reads lower nets
reads_from : (a k : ℕ) (gates : List GateForm) (gate : GateForm) → AllByRecursion (λ (p : ℕ × GateForm). ReadsBelow p.0 p.1) (enumerate_from a gates) → slice_get gates k ≡ Some gate → ReadsBelow (a + k) gate
reads_from a k [] gate h e = absurd (cc e)
reads_from a zero (x ∷ gates) gate h e =
    let same : x ≡ gate = cc e in
    let place : a ≡ a + 0 = omega arith in
    subst (λ (n : ℕ). ReadsBelow n gate) place (subst (λ (g : GateForm). ReadsBelow a g) same h.0)
reads_from a (suc k) (x ∷ gates) gate h e =
    let place : (a + 1) + k ≡ a + suc k = omega arith in
    subst (λ (n : ℕ). ReadsBelow n gate) place (reads_from (a + 1) k gates gate h.1 e)

pub reads-at : (net : GateList) (n : ℕ) (gate : GateForm) → IsGateList net → net.leaves ≤ n → slice_get net.gates (n - net.leaves) ≡ Some gate → ReadsBelow n gate
reads-at net n gate h low e =
    let place : net.leaves + (n - net.leaves) ≡ n = omega arith in
    subst (λ (m : ℕ). ReadsBelow m gate) place (reads_from net.leaves (n - net.leaves) net.gates gate h e)

-- the latch whose net has that number
place : (g : Named) (items : List Latch) (n : ℕ) → IsNamed g → map latch_row items ≡ g.latches → g.data_inputs ≤ n → n < g.net.leaves → n - g.data_inputs < length items
place g items n named rows low high = omega (arith, named.leaves, ap length rows, length-map items latch_row)

pub latch-here : (g : Named) (items : List Latch) (n : ℕ) (row : Latch) → IsNamed g → map latch_row items ≡ g.latches → row ≡ get_or items (n - g.data_inputs) row → g.data_inputs ≤ n → n < g.net.leaves → slice_get g.latches (n - g.data_inputs) ≡ Some (latch_row row)
latch-here g items n row named rows is low high =
    subst (λ (l : List LatchRow). slice_get l (n - g.data_inputs) ≡ Some (latch_row row)) rows
    (row-at items (n - g.data_inputs) row (place g items n named rows low high) ∙ ap (λ (r : Latch). Some (latch_row r)) (sym is))

-- it stores a net
pub store-here : (g : Named) (items : List Latch) (n : ℕ) (row : Latch) → IsNamed g → map latch_row items ≡ g.latches → row ≡ get_or items (n - g.data_inputs) row → g.data_inputs ≤ n → n < g.net.leaves → row.d.0 < length g.labels
store-here g items n row named rows is low high =
    let stores = subst (λ (l : List LatchRow). AllByRecursion (λ (r : LatchRow). r.d < g.net.leaves + length g.net.gates) l) (sym rows) named.stores in
    let below = store-at (g.net.leaves + length g.net.gates) items (n - g.data_inputs) row stores (place g items n named rows low high) in
    let here : row.d.0 < g.net.leaves + length g.net.gates = subst (λ (r : Latch). net_number r.d < g.net.leaves + length g.net.gates) (sym is) below in
    omega (arith, named.labels, here)

-- the control of a pair is one of its numbers
pub control-in : (names : List Name) (rising : Bool) (control : Option NameId) → All (IsIdOf names) (control_ids (Edge rising control)) → IfSome control (IsIdOf names)
control-in names rising None h = tt
control-in names rising (Some id) h = h 0 id (omega arith)

pub name-here : (g : Named) (names : List Name) (items : List NetLabel) (n : ℕ) (label : NetLabel) → map (label_of names) items ≡ g.labels → label ≡ get_or items n label → n < length g.labels → label_name (label_of names label) ≡ net_name g n
name-here g names items n label labels is inside =
    let within : n < length items = omega (arith, ap length labels, length-map items (label_of names)) in
    ap (λ (l : NetLabel). label_name (label_of names l)) is ∙ sym (label-at names items n label within)
    ∙ ap (λ (l : List Label). get_or (map label_name l) n []) labels

pub outputs-here : (g : Named) (nets : List NetId) → IsNamed g → map net_number nets ≡ g.outputs → All (λ n. net_number n < length g.labels) nets
outputs-here g nets named are =
    all-nets (length g.labels) nets
    (subst (λ (bound : ℕ). AllByRecursion (λ n. n < bound) (map net_number nets)) (sym named.labels)
    (subst (λ (l : List ℕ). AllByRecursion (λ n. n < g.net.leaves + length g.net.gates) l) (sym are) named.outputs))

-- names that are given are names
all-front : {A : Type 0} (P : A → Type 0) (xs ys : List A) → AllByRecursion P (xs ++ ys) → AllByRecursion P xs
all-front P [] ys h = tt
all-front P (x ∷ xs) ys h = (h.0, all-front P xs ys h.1)

all-behind : {A : Type 0} (P : A → Type 0) (xs ys : List A) → AllByRecursion P (xs ++ ys) → AllByRecursion P ys
all-behind P [] ys h = h
all-behind P (x ∷ xs) ys h = all-behind P xs ys h.1

each-is : (ns : List Name) → AllByRecursion IsWordName ns → AllByRecursion IsName ns
each-is [] h = tt
each-is (n ∷ ns) h = (h.0.is_name, each-is ns h.1)

given-at : (names : List Name) (items : List NetLabel) (n : ℕ) (d : NetLabel) → AllByRecursion IsWordName (flat_map given_name (map (label_of names) items)) → n < length items → AllByRecursion IsName (given_name (label_of names (get_or items n d)))
given-at names [] n d h inside = absurd (omega arith)
given-at names (l ∷ items) zero d h inside = each-is _ (all-front IsWordName (given_name (label_of names l)) (flat_map given_name (map (label_of names) items)) h)
given-at names (l ∷ items) (suc n) d h inside = given-at names items n d (all-behind IsWordName (given_name (label_of names l)) (flat_map given_name (map (label_of names) items)) h) (omega arith)

pub given-here : (g : Named) (names : List Name) (items : List NetLabel) (n : ℕ) (label : NetLabel) → IsNamed g → map (label_of names) items ≡ g.labels → label ≡ get_or items n label → n < length g.labels → AllByRecursion IsName (given_name (label_of names label))
given-here g names items n label named labels is inside =
    let within : n < length items = omega (arith, ap length labels, length-map items (label_of names)) in
    let words = all-front IsWordName (flat_map given_name g.labels) g.inputs (all-front IsWordName (flat_map given_name g.labels ++ g.inputs) (named_clocks g) named.words) in
    let here = given-at names items n label (subst (λ (l : List Label). AllByRecursion IsWordName (flat_map given_name l)) (sym labels) words) within in
    subst (λ (l : NetLabel). AllByRecursion IsName (given_name (label_of names l))) (sym is) here

-- and so are the inputs, the clocks and the control
pub inputs-are : (g : Named) → IsNamed g → AllByRecursion IsName g.inputs
inputs-are g named = each-is _ (all-behind IsWordName (flat_map given_name g.labels) g.inputs (all-front IsWordName (flat_map given_name g.labels ++ g.inputs) (named_clocks g) named.words))

clocks_and_control : (g : Named) → IsNamed g → AllByRecursion IsName (named_clocks g)
clocks_and_control g named = each-is _ (all-behind IsWordName (flat_map given_name g.labels ++ g.inputs) (named_clocks g) named.words)

pub clocks-are : (g : Named) → IsNamed g → AllByRecursion IsName g.clocks
clocks-are g named = all-front IsName g.clocks (control_nets g.clocking) (clocks_and_control g named)

pub control-is : (g : Named) → IsNamed g → AllByRecursion IsName (control_nets g.clocking)
control-is g named = all-behind IsName g.clocks (control_nets g.clocking) (clocks_and_control g named)
