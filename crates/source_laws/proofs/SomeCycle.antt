-- A cycle of a sound source has an outcome at each input and state.
use Rattle.std.proofs.Common.{◌≡◌, refl, sym, ◌∙◌, ap, subst, ℕ, suc, ◌+◌, ◌≤◌, List, [], ◌∷◌, ◌++◌, length, map, Bool, true, false, ◌||◌, ◌&&◌, not, cond, ◌⊎◌, inl, inr, Some, None, arith, length-append}
use Rattle.std.specs.Prelude.{IsTrue, filter_map}
use Rattle.std.specs.List.{cons_option, flat_map}
use Rattle.std.specs.Cmp.Lexicographic.{bytes_decides}
use Rattle.netlist_spec.specs.Netlist.{Name, same_name, stands_in, are_distinct, Clocking, plain, edge, Statement, names, latch, subckt, Located, Model, File}
use Rattle.netlist_spec.specs.Reads.{control_nets}
use Rattle.netlist_spec.specs.Covers.{Library, IsLibrary}
use Rattle.netlist_spec.specs.Placed.{port_names}
use Rattle.netlist_spec.specs.Models.{Latch, as_latch, latches_of, first_clocking, same_clocking, is_declared, clock_nets, data_inputs, latch_inputs, latch_outputs, output_nets}
use Rattle.netlist_spec.specs.Fits.{Valuation, Fits}
use Rattle.netlist_spec.specs.SourceRun.{Bits, SourceCycle}
use Rattle.netlist_spec.specs.Sound.{drives, IsMain, is_clocked, IsSoundModel, IsSoundMain, IsSound}
use Rattle.netlist_spec.proofs.Occurrences.{occ, occ_append, occ_stands, distinct_occ}
use Rattle.source_laws.specs.Settling.{given_nets}
use Rattle.source_laws.specs.Agreement.{AgreeOn}
use Rattle.source_laws.proofs.Lists.{Among, all_among, among_all, among_front, among_back, among_either, flat_among, filter_among, same_self, stands, standing, both}
use Rattle.source_laws.proofs.Drivers.{drives_once, latch_of, port_is_not_driven}
use Rattle.source_laws.proofs.OneOutcome.{mapped_alike}
use Rattle.source_laws.proofs.SomeValuation.{once_distinct, some_valuation}
use Rattle.netlist_spec.proofs.SomeValue.{filter_occ}

-- ---- bits by name

-- the bit of a name in a list, and 0 where it isn't there
abbrev bit_in : List Name → Bits → Valuation
bit_in [] bits n = false
bit_in (k ∷ ks) [] n = false
bit_in (k ∷ ks) (b ∷ bits) n = cond (same_name k n) b (bit_in ks bits n)

bits_by_name : (ks : List Name) (bits : Bits) → are_distinct ks ≡ true → length bits ≡ length ks → map (bit_in ks bits) ks ≡ bits
bits_by_name [] [] d e = refl
bits_by_name [] (b ∷ bits) d e = absurd (omega arith)
bits_by_name (k ∷ ks) [] d e = absurd (omega arith)
bits_by_name (k ∷ ks) (b ∷ bits) d e =
    let parts = both (stands_in k ks) (are_distinct ks) d in
    let first : bit_in (k ∷ ks) (b ∷ bits) k ≡ b = ap (λ (t : Bool). cond t b (bit_in ks bits k)) (same_self k) in
    let rest : map (bit_in (k ∷ ks) (b ∷ bits)) ks ≡ bits =
    mapped_alike (bit_in (k ∷ ks) (b ∷ bits)) (bit_in ks bits) ks (λ n h. other n h (same_name k n) refl parts.0) ∙ bits_by_name ks bits parts.1 (omega arith) in
    λ i. first i ∷ rest i
  where
    other : (n : Name) → Among n ks → (t : Bool) → same_name k n ≡ t → stands_in k ks ≡ false → cond (same_name k n) b (bit_in ks bits n) ≡ bit_in ks bits n
    other n h true t absent =
        let same : n ≡ k = sym ((bytes_decides k n).0 t) in
        let here : stands_in k ks ≡ true = stands k ks (subst (λ x. Among x ks) same h) in
        cc (here, absent)
    other n h false t absent = ap (λ (t : Bool). cond t b (bit_in ks bits n)) t

no_bit : (ks : List Name) (bits : Bits) (n : Name) → (Among n ks → ⊥) → bit_in ks bits n ≡ false
no_bit [] bits n f = refl
no_bit (k ∷ ks) [] n f = refl
no_bit (k ∷ ks) (b ∷ bits) n f = by_case (same_name k n) refl (no_bit ks bits n (λ h. f (inr h)))
  where
    by_case : (t : Bool) → same_name k n ≡ t → bit_in ks bits n ≡ false → cond t b (bit_in ks bits n) ≡ false
    by_case true t later = absurd (f (inl ((bytes_decides k n).0 t)))
    by_case false t later = later

map_append : (v : Valuation) (xs ys : List Name) → map v (xs ++ ys) ≡ map v xs ++ map v ys
map_append v [] ys = refl
map_append v (x ∷ xs) ys = ap (λ (bs : Bits). v x ∷ bs) (map_append v xs ys)

front_is : (zs bs cs ds : Bits) → length zs ≡ length cs → zs ++ bs ≡ cs ++ ds → (zs ≡ cs) × (bs ≡ ds)
front_is [] bs [] ds e h = (refl, h)
front_is [] bs (c ∷ cs) ds e h = absurd (omega arith)
front_is (a ∷ zs) bs [] ds e h = absurd (omega arith)
front_is (a ∷ zs) bs (c ∷ cs) ds e h =
    let whole : a ∷ (zs ++ bs) ≡ c ∷ (cs ++ ds) = h in
    let head : a ≡ c = cc whole in
    let tail : zs ++ bs ≡ cs ++ ds = cc whole in
    let rest = front_is zs bs cs ds (omega arith) tail in
    ((λ i. head i ∷ rest.0 i), rest.1)

map_length : (v : Valuation) (ns : List Name) → length (map v ns) ≡ length ns
map_length v [] = refl
map_length v (n ∷ ns) = ap suc (map_length v ns)

pub few_latches : (file : File) (library : Library) (n : Name) (ss : List Located) → occ n (map (λ l. l.q) (filter_map (λ s. as_latch s.what) ss)) ≤ occ n (flat_map (λ s. drives file library s.what) ss)
few_latches file library n [] = omega arith
few_latches file library n (s ∷ ss) = by_case s.what (few_latches file library n ss) (occ_append n (drives file library s.what) (flat_map (λ s. drives file library s.what) ss))
  where
    by_case : (t : Statement) → occ n (map (λ l. l.q) (filter_map (λ s. as_latch s.what) ss)) ≤ occ n (flat_map (λ s. drives file library s.what) ss)
        → occ n (drives file library t ++ flat_map (λ s. drives file library s.what) ss) ≡ occ n (drives file library t) + occ n (flat_map (λ s. drives file library s.what) ss)
        → occ n (map (λ l. l.q) (cons_option (as_latch t) (filter_map (λ s. as_latch s.what) ss))) ≤ occ n (drives file library t ++ flat_map (λ s. drives file library s.what) ss)
    by_case (names ins out cover) h e = omega arith
    by_case (latch d q clocking init) h e = omega arith
    by_case (subckt name binds) h e = omega arith

module _ (file : File) (library : Library) (m : Model) (is : IsSoundModel file library m) (is_main : IsSoundMain file library m) where
  abbrev ports : List Name
  ports = port_names m.inputs ++ port_names m.clocks

  no_port_shown : (n : Name) → Among n ports → Among n (latch_outputs m) → ⊥
  no_port_shown n p q = let l = latch_of n m.statements q in port_is_not_driven file library m is.drivers n l.what p l.stands_there (l.has file library)

  data_is_input : (n : Name) → Among n (data_inputs m) → Among n (port_names m.inputs) × (not (stands_in n (clock_nets m)) ≡ true)
  data_is_input n h = filter_among (λ n. not (stands_in n (clock_nets m))) (port_names m.inputs) n h

  leaves_once : (n : Name) → occ n (data_inputs m ++ latch_outputs m) ≤ 1
  leaves_once n =
      let a = occ_append n (data_inputs m) (latch_outputs m) in
      let b = filter_occ n (λ n. not (stands_in n (clock_nets m))) (port_names m.inputs) in
      let c = distinct_occ n (port_names m.inputs) is.drivers.inputs in
      let d = few_latches file library n m.statements in
      let e = drives_once file library m is.drivers n in
      by_case a (order (occ n (data_inputs m))) (order (occ n (latch_outputs m)))
    where
      order : (k : ℕ) → (k ≡ 0) ⊎ (1 ≤ k)
      order k = grind arith

      by_case : occ n (data_inputs m ++ latch_outputs m) ≡ occ n (data_inputs m) + occ n (latch_outputs m) → (occ n (data_inputs m) ≡ 0) ⊎ (1 ≤ occ n (data_inputs m)) → (occ n (latch_outputs m) ≡ 0) ⊎ (1 ≤ occ n (latch_outputs m)) → occ n (data_inputs m ++ latch_outputs m) ≤ 1
      by_case a (inl x) y = let d = few_latches file library n m.statements in let e = drives_once file library m is.drivers n in omega arith
      by_case a (inr x) (inl y) = let b = filter_occ n (λ n. not (stands_in n (clock_nets m))) (port_names m.inputs) in let c = distinct_occ n (port_names m.inputs) is.drivers.inputs in omega arith
      by_case a (inr x) (inr y) =
          absurd (no_port_shown n (among_front (port_names m.inputs) (port_names m.clocks) n (data_is_input n (standing n (data_inputs m) (occ_stands n (data_inputs m) x))).0) (standing n (latch_outputs m) (occ_stands n (latch_outputs m) y)))

  declared_control : (n : Name) (clocking : Clocking) → is_declared m clocking ≡ true → Among n (control_nets clocking) → Among n ports
  declared_control n plain d h = absurd h
  declared_control n (edge rising None) d h = absurd h
  declared_control n (edge rising (Some k)) d h =
      elim h [
        | inl e ↦ subst (λ x. Among x ports) e (by_test (stands_in k (port_names m.inputs)) (stands_in k (port_names m.clocks)) refl refl d)
        | inr x ↦ absurd x
      ]
    where
      by_test : (a b : Bool) → stands_in k (port_names m.inputs) ≡ a → stands_in k (port_names m.clocks) ≡ b → (a || b) ≡ true → Among k ports
      by_test true b e f t = among_front (port_names m.inputs) (port_names m.clocks) k (standing k (port_names m.inputs) e)
      by_test false true e f t = among_back (port_names m.inputs) (port_names m.clocks) k (standing k (port_names m.clocks) f)
      by_test false false e f t = cc t

  second : (a b : Bool) → (a && b) ≡ true → b ≡ true
  second true b h = h
  second false b h = cc h

  pub clock_is_port : (n : Name) → Among n (clock_nets m) → Among n ports
  clock_is_port n h =
      elim (among_either (port_names m.clocks) (flat_map (λ l. control_nets l.clocking) (latches_of m)) n h) [
        | inl c ↦ among_back (port_names m.inputs) (port_names m.clocks) n c
        | inr f ↦
            let (l, in_latches, control) = flat_among (λ (l : Latch). control_nets l.clocking) (latches_of m) n f in
            declared_control n l.clocking (second (same_clocking l.clocking (first_clocking (latches_of m))) (is_declared m l.clocking) (all_among (λ (l : Latch). IsTrue (is_clocked m l)) (latches_of m) is_main.clocking l in_latches)) control
      ]

  pub clock_is_no_leaf : (n : Name) → Among n (clock_nets m) → Among n (data_inputs m ++ latch_outputs m) → ⊥
  clock_is_no_leaf n h g =
      elim (among_either (data_inputs m) (latch_outputs m) n g) [
        | inl d ↦ let a = (data_is_input n d).1 in let b = stands n (clock_nets m) h in absurd (clash (stands_in n (clock_nets m)) b a)
        | inr q ↦ no_port_shown n (clock_is_port n h) q
      ]
    where
      clash : (b : Bool) → b ≡ true → not b ≡ true → ⊥
      clash true e f = cc f
      clash false e f = cc e

  module _ (x s : Bits) (wide : length x ≡ length (data_inputs m)) (long : length s ≡ length (latch_outputs m)) where
    abbrev leaf_bits : Valuation
    leaf_bits = bit_in (data_inputs m ++ latch_outputs m) (x ++ s)

    leaves_have : (map leaf_bits (data_inputs m) ≡ x) × (map leaf_bits (latch_outputs m) ≡ s)
    leaves_have =
        let a = length-append x s in
        let b = length-append (data_inputs m) (latch_outputs m) in
        let all = bits_by_name (data_inputs m ++ latch_outputs m) (x ++ s) (once_distinct (data_inputs m ++ latch_outputs m) leaves_once) (omega arith) in
        front_is (map leaf_bits (data_inputs m)) (map leaf_bits (latch_outputs m)) x s (map_length leaf_bits (data_inputs m) ∙ sym wide) (sym (map_append leaf_bits (data_inputs m) (latch_outputs m)) ∙ all)

    cycle_of : (v : Valuation) → Fits file library m v → AgreeOn v leaf_bits (given_nets m) → SourceCycle file library m x s (map v (output_nets m)) (map v (latch_inputs m))
    cycle_of v fits_m agrees =
        let at : (n : Name) → Among n (given_nets m) → v n ≡ leaf_bits n = all_among (λ n. v n ≡ leaf_bits n) (given_nets m) agrees in
        let have = leaves_have in
        record {
          values = v;
          fits = fits_m;
          inputs = mapped_alike v leaf_bits (data_inputs m) (λ n h. at n (among_front ports (latch_outputs m) n (among_front (port_names m.inputs) (port_names m.clocks) n (data_is_input n h).0))) ∙ have.0;
          state = mapped_alike v leaf_bits (latch_outputs m) (λ n h. at n (among_back ports (latch_outputs m) n h)) ∙ have.1;
          clocks = among_all (λ n. v n ≡ false) (clock_nets m) (λ n h. at n (among_front ports (latch_outputs m) n (clock_is_port n h)) ∙ no_bit (data_inputs m ++ latch_outputs m) (x ++ s) n (clock_is_no_leaf n h));
          outputs = refl;
          stores = refl;
        }

pub some_outcome : (file : File) (library : Library) (m : Model) (x s : Bits) → IsLibrary library → IsSound file library → IsMain file m → length x ≡ length (data_inputs m) → length s ≡ length (latch_outputs m)
    → (y : Bits) × (next : Bits) × SourceCycle file library m x s y next
some_outcome file library m x s is_library sound main wide long =
    let is = sound.used m (m, main, 0, refl) in
    let (v, fits_m, agrees) = some_valuation file library m (leaf_bits file library m is (sound.main m main) x s wide long) is_library sound (m, main, 0, refl) in
    (map v (output_nets m), map v (latch_inputs m), cycle_of file library m is (sound.main m main) x s wide long v fits_m agrees)
