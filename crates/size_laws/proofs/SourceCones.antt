-- The cone of a net of a model has one cost.
use Rattle.std.proofs.Common.{◌≡◌, sym, ◌∙◌, ap, subst, refl, ℕ, zero, suc, ◌+◌, ◌<◌, ◌≤◌, inl, inr, Bool, List, [], ◌∷◌, length, map, Contains, arith, Option, Some, None, slice_get}
use Rattle.std.specs.Prelude.{IsTrue}
use Rattle.std.specs.List.{AllByRecursion, range_with_len}
use Rattle.std.specs.Cmp.Lexicographic.{bytes_decides}
use Rattle.std.proofs.lemmas.List.{length-map}
use Rattle.netlist_spec.specs.Netlist.{Name, same_name, stands_in, Statement, Model, File}
use Rattle.netlist_spec.specs.Covers.{Library}
use Rattle.netlist_spec.specs.Gates.{Machine, LatchRow}
use Rattle.netlist_spec.specs.Elaborated.{IsMachineOf}
use Rattle.netlist_spec.specs.Models.{Latch, init_bit, latches_of, latch_outputs, latch_inputs, output_nets}
use Rattle.netlist_spec.specs.Size.{cost_of}
use Rattle.netlist_spec.specs.Sound.{combines, drives, reads}
use Rattle.guard_spec.specs.Codes.{Code, Mode, data_places}
use Rattle.guard_spec.specs.Words.{Words, Layout, Settings, IsLayout, AreWords, all_numbers}
use Rattle.netlist_spec.specs.Cones.{marked_sum, IsReached, itself, behind, IsInCone, ConeCostOf, RestsOnLatch}
use Rattle.guard_spec.specs.Plain.{IsSizeWith}
use Rattle.netlist_spec.proofs.ListTests.{any_element, any_from}
use Rattle.size_laws.specs.Sizes.{Decided, HoldsOfOne, Fits}
use Rattle.size_laws.proofs.Lists.{contains_head, contains_cases, none_there, one_element, same_answer, both_decided, true_decided, some_decided, marks_for, one_sum, contains_decided}
use Rattle.size_laws.proofs.Closure.{IsClosed, closure}
use Rattle.size_laws.proofs.OneSize.{one_size}

-- ---- names

stands_at : (k : Name) (ns : List Name) → Contains ns k → IsTrue (stands_in k ns)
stands_at k ns c = any_from (same_name k) ns k c ((bytes_decides k k).1 refl)

at_name : (k : Name) (ns : List Name) → IsTrue (stands_in k ns) → Contains ns k
at_name k ns h = let (j, c, e) = any_element (same_name k) ns h in subst (λ (n : Name). Contains ns n) (sym ((bytes_decides k j).0 e)) c

names_decided : (a b : Name) → Decided (a ≡ b)
names_decided a b = same_answer (bytes_decides a b).0 (bytes_decides a b).1 (true_decided (same_name a b))

-- ---- cones

module _ (file : File) (library : Library) (m : Model) where
  abbrev DrivesNet : Statement → Name → Type 0
  DrivesNet s n = IsTrue (combines s) × IsTrue (stands_in n (drives file library s))

  drives_decided : (s : Statement) (n : Name) → Decided (DrivesNet s n)
  drives_decided s n = both_decided (true_decided (combines s)) (true_decided (stands_in n (drives file library s)))

  abbrev all_statements : List Statement
  all_statements = map (λ s. s.what) m.statements

  read_further : (x : Name) (s : Statement) (n k : Name) → Contains all_statements s → IsReached file library m x n → DrivesNet s n → Contains (reads file library s) k → IsReached file library m x k
  read_further x s n k there reached drives c = behind reached (s, there, drives.0, drives.1, stands_at k (reads file library s) c)

  found_all : (x : Name) (found : List Name) → IsClosed DrivesNet (reads file library) drives_decided all_statements (IsReached file library m x) (x ∷ []) found → (k : Name) → IsReached file library m x k → Contains found k
  found_all x found c k itself = c.starts x (contains_head x [])
  found_all x found c k (behind {n = n} reached (s, there, combines, drives, reads)) =
      c.closed s n k there (found_all x found c n reached) (combines, drives) (at_name k _ reads)

  pub reach_decided : (x k : Name) → Decided (IsReached file library m x k)
  reach_decided x k =
      let (found, c) = closure DrivesNet (reads file library) drives_decided all_statements (IsReached file library m x) (read_further x) (x ∷ []) (λ n d. elim (contains_cases x n [] d) [ inl e ↦ subst (λ (q : Name). IsReached file library m x q) e itself | inr d ↦ absurd (none_there n d) ]) in
      same_answer (c.alone k) (found_all x found c k) (contains_decided names_decided found k)

  cone_decided : (x : Name) (s : Statement) → Decided (IsInCone file library m x s)
  cone_decided x s =
      same_answer
      (λ h. (h.0, h.1.0, stands_at h.1.0 (drives file library s) h.1.1, h.1.2))
      (λ h. (h.0, (h.1, at_name h.1 (drives file library s) h.2, h.3)))
      (both_decided (true_decided (combines s)) (some_decided (IsReached file library m x) (reach_decided x) (drives file library s)))

  pub rests_decided : (x : Name) (i : ℕ) → Decided (RestsOnLatch file library m x i)
  rests_decided x i = by_latch (slice_get (latch_outputs m) i) refl
    where
      by_latch : (o : Option Name) → slice_get (latch_outputs m) i ≡ o → Decided (RestsOnLatch file library m x i)
      by_latch None e = inr (λ h. let clash : Some h.0 ≡ None = sym h.1 ∙ e in cc clash)
      by_latch (Some q) e = same_answer (λ r. (q, e, r)) (λ h. subst (λ (k : Name). IsReached file library m x k) (one_element (latch_outputs m) i h.0 q h.1 e) h.2) (reach_decided x q)

  pub one_cone_cost : (x : Name) → HoldsOfOne (ConeCostOf file library m x)
  one_cone_cost x =
      let (marks, are) = marks_for (IsInCone file library m x) (cone_decided x) all_statements in (
        marked_sum (cost_of file library) all_statements marks,
        record {
          holds = (marks, are, refl);
          alone = λ k h. h.2 ∙ one_sum (IsInCone file library m x) (cost_of file library) all_statements h.0 marks h.1 are;
        },
      )

  pub one_source_size : (code : Code) (mode : Mode) (radius rails : ℕ) (l : Layout) → Fits (length (latches_of m)) (length (output_nets m)) l → HoldsOfOne (IsSizeWith file library m code mode radius rails l)
  one_source_size code mode radius rails l fits =
      one_size (ConeCostOf file library m) (RestsOnLatch file library m) code mode radius one_cone_cost rests_decided rails l (latch_inputs m) (output_nets m)
      (subst (λ (n : ℕ). Fits n (length (output_nets m)) l) (sym (length-map (latches_of m) (λ l. l.d))) fits)

-- ---- layouts

range_within : (a k n : ℕ) → a + k ≤ n → AllByRecursion (λ i. i < n) (range_with_len a k)
range_within a zero n h = tt
range_within a (suc k) n h = (omega arith, range_within (a + 1) k n (omega arith))

words_fit : (k : ℕ) (nets : List Name) (named : Option (List (List Name))) (words : Words) → AreWords k nets named words → AllByRecursion (λ i. i < length nets) (all_numbers words)
words_fit k nets None words are = subst (λ (is : List ℕ). AllByRecursion (λ i. i < length nets) is) (sym are.0) (range_within 0 (length nets) (length nets) (omega arith))
words_fit k nets (Some named) words are = are.1.no_other

pub layout_fits : (m : Model) (s : Settings) (l : Layout) → IsLayout m s l → Fits (length (latches_of m)) (length (output_nets m)) l
layout_fits m s l is = record {
  state = subst (λ (n : ℕ). AllByRecursion (λ i. i < n) (all_numbers l.state)) (length-map (latches_of m) (λ l. l.q)) (words_fit (data_places s.code) (latch_outputs m) s.state_words l.state is.state);
  output = words_fit (data_places s.code) (output_nets m) s.output_words l.output is.output;
}

pub layout_fits_machine : (file : File) (library : Library) (m : Model) (machine : Machine) (s : Settings) (l : Layout) → IsMachineOf file library m machine → IsLayout m s l → Fits (length machine.latches) (length machine.outputs) l
layout_fits_machine file library m machine s l of is =
    let fits = layout_fits m s l is in
    let rows : length (map (λ (r : LatchRow). r.init) machine.latches) ≡ length (map (λ (q : Latch). init_bit q.init) (latches_of m)) = ap (λ (bits : List Bool). length bits) of.inits in
    let latches : length (latches_of m) ≡ length machine.latches = sym (length-map (latches_of m) (λ (q : Latch). init_bit q.init)) ∙ (sym rows ∙ length-map machine.latches (λ (r : LatchRow). r.init)) in
    record {
      state = subst (λ (n : ℕ). AllByRecursion (λ i. i < n) (all_numbers l.state)) latches fits.state;
      output = subst (λ (n : ℕ). AllByRecursion (λ i. i < n) (all_numbers l.output)) (sym of.outputs) fits.output;
    }
