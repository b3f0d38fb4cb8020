-- A row in which more and more nets have their values.
use Rattle.std.proofs.Common.{◌≡◌, ◌≢◌, refl, sym, ◌∙◌, ap, ap₂, subst, ℕ, zero, suc, ◌+◌, ◌<◌, List, [], ◌∷◌, ◌++◌, map, length, Bool, true, false, ◌||◌, get_or, set, Option, arith, inl, inr, ◌⊎◌, append_assoc, append-nil, take, add-one}
use Rattle.std.specs.Prelude.{unwrap_or}
use Rattle.std.specs.List.{AllByRecursion, AllZip}
use Rattle.std.proofs.lemmas.List.{length-set, get_or-set_same, get_or-set_other}
use Rattle.netlist_spec.specs.Netlist.{Name, same_name, stands_in, are_distinct}
use Rattle.netlist_spec.specs.Covers.{cover_value}
use Rattle.netlist_spec.specs.Models.{Gate}
use Rattle.netlist_spec.specs.Fits.{Valuation}
use Rattle.netlist_spec.specs.SourceRun.{Bits}
use Rattle.netlist_spec.specs.Values.{Forced, shown}
use Rattle.netlist_spec.proofs.OneValue.{passes_one}
use Rattle.imp_text.specs.declared.names.NameId.{NameId}
use Rattle.imp_text.proofs.NamesLemmas.{stands_in-append}
use Rattle.blif_read.specs.View.{name_at}
use Rattle.line_order.proofs.MarkLemmas.{apart}
use Rattle.fault_sim.specs.declared.row.LatchCell.{LatchCell}
use Rattle.fault_sim.specs.Gates.{bit_in, shown_bit, NumberedGate, named_gate, put_gates, put_gate}
use Rattle.fault_sim.specs.Faults.{Forces}
use Rattle.fault_sim.specs.Row.{put_bits, put_latches}

-- The nets that are known have their values in the row.
pub record Agrees (all : List Name) (row : List Bool) (v : Valuation) (known : List Name) : Type 0 where
  pub distinct : are_distinct all ≡ true
  pub each_net : length row ≡ length all
  pub bits : (k : ℕ) → k < length all → stands_in (get_or all k []) known ≡ true → get_or row k false ≡ v (get_or all k [])

abbrev pub Within : List Name → List NameId → Type 0
Within all ids = AllByRecursion (λ (id : NameId). id.0 < length all) ids

pub nothing_known : (all : List Name) (row : List Bool) (v : Valuation) → are_distinct all ≡ true → length row ≡ length all → Agrees all row v []
nothing_known all row v d e = record { distinct = d; each_net = e; bits = λ k h s. absurd (cc s) }

same_or_other : (j k : ℕ) → (j ≡ k) ⊎ (j ≢ k)
same_or_other j k = grind arith

module _ (all : List Name) (v : Valuation) where
  -- One more net is known when its value is put into the row.
  pub one_known : (row : List Bool) (known : List Name) (id : NameId) (b : Bool) → id.0 < length all → b ≡ v (name_at all id) → Agrees all row v known → Agrees all (set row id.0 b) v (known ++ name_at all id ∷ [])
  one_known row known id b inside value a =
      record { distinct = a.distinct; each_net = length-set row id.0 b ∙ a.each_net; bits = λ k h s. at k h s (same_or_other k id.0) }
    where
      earlier : (k : ℕ) → k < length all → k ≢ id.0 → stands_in (get_or all k []) (known ++ name_at all id ∷ []) ≡ true → stands_in (get_or all k []) known ≡ true
      earlier k h other s =
          elim (passes_one (stands_in (get_or all k []) known) (same_name (get_or all k []) (name_at all id) || false) (sym (stands_in-append (get_or all k []) known (name_at all id ∷ [])) ∙ s)) [
            | inl e ↦ e
            | inr e ↦ absurd (let none = ap (λ (b : Bool). b || false) (apart all k id.0 a.distinct h inside other) in cc)
          ]

      at : (k : ℕ) → k < length all → stands_in (get_or all k []) (known ++ name_at all id ∷ []) ≡ true → (k ≡ id.0) ⊎ (k ≢ id.0) → get_or (set row id.0 b) k false ≡ v (get_or all k [])
      at k h s (inl e) =
          ap (λ j. get_or (set row id.0 b) j false) e ∙ (get_or-set_same row id.0 b false (subst (λ (l : ℕ). id.0 < l) (sym a.each_net) inside) ∙ (value ∙ ap (λ j. v (get_or all j [])) (sym e)))
      at k h s (inr other) = get_or-set_other row id.0 k b false other ∙ a.bits k h (earlier k h other s)

  more_known : (row : List Bool) (known front rest : List Name) (n : Name) → Agrees all row v ((known ++ n ∷ []) ++ rest) → Agrees all row v (known ++ n ∷ rest)
  more_known row known front rest n a = subst (Agrees all row v) (append_assoc known (n ∷ []) rest) a

  pub bits_known : (row : List Bool) (known : List Name) (ids : List NameId) (bits : Bits) → Within all ids → map v (map (name_at all) ids) ≡ bits → Agrees all row v known → Agrees all (put_bits row ids bits) v (known ++ map (name_at all) ids)
  bits_known row known [] bits w e a = subst (Agrees all row v) (sym (append-nil known)) a
  bits_known row known (id ∷ ids) [] w e a = absurd (cc e)
  bits_known row known (id ∷ ids) (b ∷ bits) w e a =
      more_known _ known [] _ (name_at all id) (bits_known (set row id.0 b) (known ++ name_at all id ∷ []) ids bits w.1 (cc e) (one_known row known id b w.0 (sym (cc e)) a))

  -- the bit that a cell shows
  shows : (table : List (Option Bool)) (faults : Forced) (id : NameId) (own : Bool) → id.0 < length all → Forces all table faults → shown_bit table id own ≡ shown faults (name_at all id) own
  shows table faults id own h f = ap (λ o. unwrap_or o own) (f.forced id.0 h)

  pub latches_known : (table : List (Option Bool)) (faults : Forced) (row : List Bool) (known : List Name) (ls : List LatchCell) (stored : Bits) → Forces all table faults
      → AllByRecursion (λ (l : LatchCell). l.q.0 < length all) ls → AllZip (λ q bit. v q ≡ shown faults q bit) (map (λ (l : LatchCell). name_at all l.q) ls) stored → Agrees all row v known
      → Agrees all (put_latches table row ls stored) v (known ++ map (λ (l : LatchCell). name_at all l.q) ls)
  latches_known table faults row known [] stored f w z a = subst (Agrees all row v) (sym (append-nil known)) a
  latches_known table faults row known (l ∷ ls) [] f w z a = absurd z
  latches_known table faults row known (l ∷ ls) (b ∷ stored) f w z a =
      more_known _ known [] _ (name_at all l.q)
      (latches_known table faults (set row l.q.0 (shown_bit table l.q b)) (known ++ name_at all l.q ∷ []) ls stored f w.1 z.1
      (one_known row known l.q (shown_bit table l.q b) w.0 (shows table faults l.q b w.0 f ∙ sym z.0) a))

  -- known nets are read as their values
  pub read_known : (row : List Bool) (known : List Name) (ids : List NameId) → Within all ids → AllByRecursion (λ n. stands_in n known ≡ true) (map (name_at all) ids) → Agrees all row v known → map (bit_in row) ids ≡ map v (map (name_at all) ids)
  read_known row known [] w k a = refl
  read_known row known (id ∷ ids) w k a = ap₂ (λ (b : Bool) (bs : List Bool). b ∷ bs) (a.bits id.0 w.0 k.0) (read_known row known ids w.1 k.1 a)

-- Each gate reads known nets and the outputs of earlier gates.
abbrev pub ReadsKnown : List Name → List Gate → Type 0
ReadsKnown known [] = Unit {0}
ReadsKnown known (g ∷ gs) = AllByRecursion (λ n. stands_in n known ≡ true) g.ins × ReadsKnown (known ++ g.out ∷ []) gs

module _ (all : List Name) (v : Valuation) (table : List (Option Bool)) (faults : Forced) (f : Forces all table faults) where
  abbrev pub GateHolds : Gate → Type 0
  GateHolds g = v g.out ≡ shown faults g.out (cover_value g.cover (map v g.ins))

  pub gates_known : (row : List Bool) (known : List Name) (gs : List NumberedGate) → AllByRecursion (λ (g : NumberedGate). Within all g.ins × (g.out.0 < length all)) gs
      → AllByRecursion (λ g. v g.out ≡ shown faults g.out (cover_value g.cover (map v g.ins))) (map (named_gate all) gs) → ReadsKnown known (map (named_gate all) gs) → Agrees all row v known
      → Agrees all (put_gates table row gs) v (known ++ map (λ (g : NumberedGate). name_at all g.out) gs)
  gates_known row known [] w h r a = subst (Agrees all row v) (sym (append-nil known)) a
  gates_known row known (g ∷ gs) w h r a =
      let own = cover_value g.cover (map (bit_in row) g.ins) in
      let same : own ≡ cover_value g.cover (map v (map (name_at all) g.ins)) = ap (cover_value g.cover) (read_known all v row known g.ins w.0.0 r.0 a) in
      let value : shown_bit table g.out own ≡ v (name_at all g.out) = shows all v table faults g.out own w.0.1 f ∙ (ap (shown faults (name_at all g.out)) same ∙ sym h.0) in
      more_known all v _ known [] _ (name_at all g.out)
      (gates_known (put_gate table row g) (known ++ name_at all g.out ∷ []) gs w.1 h.1 r.1 (one_known all v row known g.out (shown_bit table g.out own) w.0.1 value a))

-- ---- one more bit in the row

put_step : (row : List Bool) (ids : List NameId) (bits : Bits) (i : ℕ) (d : NameId) → i < length ids → length ids ≡ length bits
    → put_bits row (take (suc i) ids) (take (suc i) bits) ≡ set (put_bits row (take i ids) (take i bits)) (get_or ids i d).0 (get_or bits i false)
put_step row [] bits i d h e = absurd (omega arith)
put_step row (id ∷ ids) [] i d h e = absurd (omega arith)
put_step row (id ∷ ids) (b ∷ bits) zero d h e = refl
put_step row (id ∷ ids) (b ∷ bits) (suc i) d h e = put_step (set row id.0 b) ids bits i d (omega arith) (omega arith)

pub put_more : (row now : List Bool) (ids : List NameId) (bits : Bits) (i : ℕ) (d : NameId) → i < length ids → length ids ≡ length bits → now ≡ put_bits row (take i ids) (take i bits)
    → set now (get_or ids i d).0 (get_or bits i false) ≡ put_bits row (take (i + 1) ids) (take (i + 1) bits)
put_more row now ids bits i d h e is =
    ap (λ r. set r (get_or ids i d).0 (get_or bits i false)) is ∙ (sym (put_step row ids bits i d h e) ∙ ap (λ n. put_bits row (take n ids) (take n bits)) (sym (add-one i)))

show_step : (forced : List (Option Bool)) (row : List Bool) (ls : List LatchCell) (stored : Bits) (i : ℕ) (d : LatchCell) → i < length ls → length ls ≡ length stored
    → put_latches forced row (take (suc i) ls) (take (suc i) stored) ≡ set (put_latches forced row (take i ls) (take i stored)) (get_or ls i d).q.0 (shown_bit forced (get_or ls i d).q (get_or stored i false))
show_step forced row [] stored i d h e = absurd (omega arith)
show_step forced row (l ∷ ls) [] i d h e = absurd (omega arith)
show_step forced row (l ∷ ls) (b ∷ stored) zero d h e = refl
show_step forced row (l ∷ ls) (b ∷ stored) (suc i) d h e = show_step forced (set row l.q.0 (shown_bit forced l.q b)) ls stored i d (omega arith) (omega arith)

pub show_more : (forced : List (Option Bool)) (row now : List Bool) (ls : List LatchCell) (stored : Bits) (i : ℕ) (d : LatchCell) → i < length ls → length ls ≡ length stored → now ≡ put_latches forced row (take i ls) (take i stored)
    → set now (get_or ls i d).q.0 (shown_bit forced (get_or ls i d).q (get_or stored i false)) ≡ put_latches forced row (take (i + 1) ls) (take (i + 1) stored)
show_more forced row now ls stored i d h e is =
    ap (λ r. set r (get_or ls i d).q.0 (shown_bit forced (get_or ls i d).q (get_or stored i false))) is
    ∙ (sym (show_step forced row ls stored i d h e) ∙ ap (λ n. put_latches forced row (take n ls) (take n stored)) (sym (add-one i)))
