-- Leaves that are numbered one after another.
use Rattle.std.proofs.Common.{◌≡◌, ◌≢◌, refl, sym, ◌∙◌, ap, subst, ℕ, zero, suc, ◌+◌, ◌<◌, ◌≤◌, ◌⊎◌, inl, inr, true, false, not, List, [], ◌∷◌, ◌++◌, map, filter_map, length, get_or, set, Some, slice_get, take, All, arith, length-set}
use Rattle.std.proofs.lemmas.List.{get_or-set_same, get_or-set_other, take_more, length-map, length-take-le, map-append}
use Rattle.std.proofs.lemmas.List.Elements.{recursion_from_All}
use Rattle.std.specs.List.{AllByRecursion}
use Rattle.netlist_spec.specs.Netlist.{Name, stands_in, are_distinct, Model, File}
use Rattle.netlist_spec.specs.Covers.{Library}
use Rattle.netlist_spec.specs.Placed.{port_names}
use Rattle.netlist_spec.specs.Models.{clock_nets, data_inputs, latch_outputs, latches_of}
use Rattle.netlist_spec.specs.Sound.{IsMain, IsSound, IsSoundModel}
use Rattle.netlist_spec.proofs.Occurrences.{occ, occ_append, occ_stands, distinct_occ}
use Rattle.netlist_spec.proofs.SomeValue.{filter_occ}
use Rattle.imp_text.specs.declared.names.NameId.{NameId}
use Rattle.blif_read.specs.declared.file.Model.{Model as ReadModel}
use Rattle.blif_read.specs.Ids.{IsIdOf}
use Rattle.blif_read.specs.View.{name_at, model_of}
use Rattle.source_laws.proofs.Drivers.{drives_once, latch_of, port_is_not_driven}
use Rattle.source_laws.proofs.Lists.{Among, among_all, among_map, among_front, filter_among, both, stands, standing}
use Rattle.source_laws.proofs.SomeCycle.{few_latches}
use Rattle.source_laws.proofs.SomeValuation.{once_distinct}
use Rattle.lowering.specs.Nets.{net_in}
use Rattle.lowering.specs.Numbers.{IsWithin}
use Rattle.model_lowering.proofs.NetIn.{name_has_place}
use Rattle.source_machine.specs.Leaves.{leaf_names, CanNumber, HasLeaves}
use Rattle.source_machine.specs.Rows.{numbered, shown_id}
use Rattle.source_machine.proofs.RowLemmas.{shown_are}

-- ---- tables

pub numbered_last : (table : List ℕ) (a : ℕ) (ids : List NameId) (id : NameId) → numbered table a (ids ++ id ∷ []) ≡ set (numbered table a ids) id.0 (a + length ids)
numbered_last table a [] id = let e : a ≡ a + 0 = omega arith in ap (set table id.0) e
numbered_last table a (x ∷ ids) id = numbered_last (set table x.0 a) (a + 1) ids id ∙ (let e : (a + 1) + length ids ≡ a + suc (length ids) = omega arith in ap (set (numbered (set table x.0 a) (a + 1) ids) id.0) e)

pub numbered_next : (table start : List ℕ) (a : ℕ) (ids : List NameId) (i : ℕ) (none : NameId) → i < length ids → table ≡ numbered start a (take i ids)
    → set table (get_or ids i none).0 (a + i) ≡ numbered start a (take (i + 1) ids)
numbered_next table start a ids i none h e =
    let n : length (take i ids) ≡ i = length-take-le i ids (omega (arith, h)) in
    ap (λ (t : List ℕ). set t (get_or ids i none).0 (a + i)) e
    ∙ sym (ap (numbered start a) (take_more ids i none h) ∙ (numbered_last start a (take i ids) (get_or ids i none) ∙ ap (λ (k : ℕ). set (numbered start a (take i ids)) (get_or ids i none).0 (a + k)) n))

pub numbered_size : (table : List ℕ) (a : ℕ) (ids : List NameId) → length (numbered table a ids) ≡ length table
numbered_size table a [] = refl
numbered_size table a (id ∷ ids) = numbered_size (set table id.0 a) (a + 1) ids ∙ length-set table id.0 a

numbered_both : (table : List ℕ) (a : ℕ) (ids more : List NameId) → numbered table a (ids ++ more) ≡ numbered (numbered table a ids) (a + length ids) more
numbered_both table a [] more = let e : a ≡ a + 0 = omega arith in ap (λ k. numbered table k more) e
numbered_both table a (id ∷ ids) more = numbered_both (set table id.0 a) (a + 1) ids more ∙ (let e : (a + 1) + length ids ≡ a + suc (length ids) = omega arith in ap (λ k. numbered (numbered (set table id.0 a) (a + 1) ids) k more) e)

-- a place that none of the numbers has
elsewhere : (table : List ℕ) (a : ℕ) (ids : List NameId) (p : ℕ) → AllByRecursion (λ (id : NameId). p ≢ id.0) ids → get_or (numbered table a ids) p 0 ≡ get_or table p 0
elsewhere table a [] p h = refl
elsewhere table a (id ∷ ids) p h = elsewhere (set table id.0 a) (a + 1) ids p h.1 ∙ get_or-set_other table id.0 p a 0 h.0

module _ (ns : List Name) (distinct : are_distinct ns ≡ true) where
  others : (id : NameId) (ids : List NameId) → stands_in (name_at ns id) (map (name_at ns) ids) ≡ false → AllByRecursion (λ (k : NameId). id.0 ≢ k.0) ids
  others id ids absent = among_all (λ (k : NameId). id.0 ≢ k.0) ids (λ k h same.
      let there : Among (name_at ns id) (map (name_at ns) ids) = subst (λ (n : Name). Among n (map (name_at ns) ids)) (ap (λ (j : ℕ). get_or ns j []) (sym same)) (among_map (name_at ns) ids k h) in
      let t : stands_in (name_at ns id) (map (name_at ns) ids) ≡ true = stands (name_at ns id) (map (name_at ns) ids) there in
      cc (t, absent))

  -- each of the names has its number
  pub numbered_each : (table : List ℕ) (a : ℕ) (ids : List NameId) → length table ≡ length ns → AllByRecursion (IsIdOf ns) ids → are_distinct (map (name_at ns) ids) ≡ true
      → (x : Name) (n : ℕ) → slice_get (map (name_at ns) ids) n ≡ Some x → net_in ns (numbered table a ids) x ≡ a + n
  numbered_each table a [] size within once x n at = cc at
  numbered_each table a (id ∷ ids) size within once x zero at =
      let parts = both (stands_in (name_at ns id) (map (name_at ns) ids)) (are_distinct (map (name_at ns) ids)) once in
      let same : name_at ns id ≡ x = cc at in
      let here : net_in ns (numbered (set table id.0 a) (a + 1) ids) (name_at ns id) ≡ a
      = ap (λ (p : ℕ). get_or (numbered (set table id.0 a) (a + 1) ids) p 0) (name_has_place ns id distinct within.0)
      ∙ (elsewhere (set table id.0 a) (a + 1) ids id.0 (others id ids parts.0) ∙ get_or-set_same table id.0 a 0 (let w = within.0 in omega arith)) in
      ap (net_in ns (numbered (set table id.0 a) (a + 1) ids)) (sym same) ∙ (here ∙ (let e : a ≡ a + 0 = omega arith in e))
  numbered_each table a (id ∷ ids) size within once x (suc n) at =
      let parts = both (stands_in (name_at ns id) (map (name_at ns) ids)) (are_distinct (map (name_at ns) ids)) once in
      numbered_each (set table id.0 a) (a + 1) ids (length-set table id.0 a ∙ size) within.1 parts.1 x n at ∙ (let e : (a + 1) + n ≡ a + suc n = omega arith in e)

all_both : {A : Type 0} (P : A → Type 0) (xs ys : List A) → AllByRecursion P xs → AllByRecursion P ys → AllByRecursion P (xs ++ ys)
all_both P [] ys a b = b
all_both P (x ∷ xs) ys a b = (a.0, all_both P xs ys a.1 b)

pub within_table : (ns : List Name) (table : List ℕ) (ids : List NameId) → length table ≡ length ns → All (IsIdOf ns) ids → All (IsWithin table) ids
within_table ns table ids size within = λ i d h. let w = within i d h in omega arith

-- ---- the leaves of a model

module _ (m : ReadModel) (can : CanNumber (model_of m)) (given shown : List NameId) (data_are : map (name_at m.names) given ≡ data_inputs (model_of m)) (data_within : All (IsIdOf m.names) given)
    (shown_by : shown ≡ filter_map shown_id m.statements.items) (shown_within : All (IsIdOf m.names) shown) where
  outputs_are : map (name_at m.names) shown ≡ latch_outputs (model_of m)
  outputs_are = ap (map (name_at m.names)) shown_by ∙ shown_are m.names m.statements.items

  pub data_count : length given ≡ length (data_inputs (model_of m))
  data_count = sym (length-map given (name_at m.names)) ∙ ap length data_are

  pub shown_count : length shown ≡ length (latch_outputs (model_of m))
  shown_count = sym (length-map shown (name_at m.names)) ∙ ap length outputs_are

  names_are : map (name_at m.names) (given ++ shown) ≡ leaf_names (model_of m)
  names_are = map-append (name_at m.names) given shown ∙ (ap (λ (ns : List Name). ns ++ map (name_at m.names) shown) data_are ∙ ap (λ (ns : List Name). data_inputs (model_of m) ++ ns) outputs_are)

  pub leaves_numbered : (start table : List ℕ) → length start ≡ length m.names → table ≡ numbered (numbered start 0 given) (length given) shown → HasLeaves (model_of m) (length given) (length given + length shown) table
  leaves_numbered start table size e =
      let whole : table ≡ numbered start 0 (given ++ shown) = e ∙ ((let z : length given ≡ 0 + length given = omega arith in ap (λ (k : ℕ). numbered (numbered start 0 given) k shown) z) ∙ sym (numbered_both start 0 given shown)) in
      record {
        inputs_are = data_count;
        leaves_are = let a = data_count in let b = shown_count in omega arith;
        size = ap length whole ∙ (numbered_size start 0 (given ++ shown) ∙ size);
        each = λ x n at.
            ap (λ (t : List ℕ). net_in m.names t x) whole
            ∙ (numbered_each m.names can.names start 0 (given ++ shown) size
            (all_both (IsIdOf m.names) given shown (recursion_from_All (IsIdOf m.names) given data_within) (recursion_from_All (IsIdOf m.names) shown shown_within))
            (ap are_distinct names_are ∙ can.leaves) x n (ap (λ (ns : List Name). slice_get ns n) names_are ∙ at)
            ∙ (let z : 0 + n ≡ n = omega arith in z));
      }

  pub leaves_made : (start once table : List ℕ) (k j : ℕ) (first second : List NameId) → length start ≡ length m.names → first ≡ given → second ≡ shown → k ≡ length given → j ≡ length shown
      → once ≡ numbered start 0 first → table ≡ numbered once k second → HasLeaves (model_of m) k (k + j) table
  leaves_made start once table k j first second size f s ek ej e g =
      let whole : table ≡ numbered (numbered start 0 given) (length given) shown
      = g ∙ (ap (λ (t : List ℕ). numbered t k second) (e ∙ ap (numbered start 0) f) ∙ (ap (λ (n : ℕ). numbered (numbered start 0 given) n second) ek ∙ ap (numbered (numbered start 0 given) (length given)) s)) in
      subst (λ (n : ℕ). HasLeaves (model_of m) n (n + j) table) (sym ek)
      (subst (λ (n : ℕ). HasLeaves (model_of m) (length given) (length given + n) table) (sym ej) (leaves_numbered start table size whole))

-- ---- the leaves of a sound main model

module _ (file : File) (library : Library) (m : Model) (is : IsSoundModel file library m) where
  no_port_shown : (n : Name) → Among n (port_names m.inputs ++ port_names m.clocks) → Among n (latch_outputs m) → ⊥
  no_port_shown n p q = let l = latch_of n m.statements q in port_is_not_driven file library m is.drivers n l.what p l.stands_there (l.has file library)

  leaves_once : (n : Name) → occ n (leaf_names m) ≤ 1
  leaves_once n = by_case (occ_append n (data_inputs m) (latch_outputs m)) (order (occ n (data_inputs m))) (order (occ n (latch_outputs m)))
    where
      order : (k : ℕ) → (k ≡ 0) ⊎ (1 ≤ k)
      order k = grind arith

      by_case : occ n (data_inputs m ++ latch_outputs m) ≡ occ n (data_inputs m) + occ n (latch_outputs m) → (occ n (data_inputs m) ≡ 0) ⊎ (1 ≤ occ n (data_inputs m)) → (occ n (latch_outputs m) ≡ 0) ⊎ (1 ≤ occ n (latch_outputs m)) → occ n (data_inputs m ++ latch_outputs m) ≤ 1
      by_case a (inl x) y = let d = few_latches file library n m.statements in let e = drives_once file library m is.drivers n in omega arith
      by_case a (inr x) (inl y) = let b = filter_occ n (λ n. not (stands_in n (clock_nets m))) (port_names m.inputs) in let c = distinct_occ n (port_names m.inputs) is.drivers.inputs in omega arith
      by_case a (inr x) (inr y) =
          let input = standing n (data_inputs m) (occ_stands n (data_inputs m) x) in
          absurd (no_port_shown n (among_front (port_names m.inputs) (port_names m.clocks) n (filter_among (λ n. not (stands_in n (clock_nets m))) (port_names m.inputs) n input).0) (standing n (latch_outputs m) (occ_stands n (latch_outputs m) y)))

  pub main_can_number : IsSound file library → IsMain file m → are_distinct m.names ≡ true → CanNumber m
  main_can_number sound main distinct = record {
    names = distinct;
    leaves = once_distinct (leaf_names m) leaves_once;
    inputs = (sound.main m main).inputs;
    latches = let a = (sound.main m main).latches in let b = length-map (latches_of m) (λ l. l.q) in omega arith;
  }
