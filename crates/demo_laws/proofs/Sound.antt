-- The demo design is sound with its library.
use Rattle.std.proofs.Common.{◌≡◌, ◌≢◌, refl, sym, ◌∙◌, ap, ap₂, subst, ℕ, ◌+◌, ◌*◌, ◌≤◌, List, [], ◌∷◌, ◌++◌, map, filter, codes, length, Bool, true, false, ◌&&◌, not, cond, arith, length-append}
use Rattle.std.specs.Prelude.{IsTrue, sum_by}
use Rattle.std.specs.Fmt.{digits}
use Rattle.std.specs.List.{AllByRecursion, flat_map}
use Rattle.std.proofs.lemmas.List.Sums.{sum_by-append}
use Rattle.netlist_spec.specs.Netlist.{Name, is_reserved, stands_in, plain, Statement, Located}
use Rattle.netlist_spec.specs.Reads.{ports_at, control_nets}
use Rattle.netlist_spec.specs.Placed.{nothing, a_table, port_names}
use Rattle.netlist_spec.specs.Models.{Latch, latches_of, latch_outputs, same_clocking, clock_nets, data_inputs}
use Rattle.netlist_spec.specs.Size.{cost_of, whole_cost}
use Rattle.netlist_spec.specs.Sound.{IsPlacement, PlacesWell, is_clocked, read_nets, written_names, IsSoundModel, IsSoundMain, IsSound}
use Rattle.program_spec.specs.Demo.{state_bits, box_binds, present_table}
use Rattle.demo_laws.specs.DemoFile.{loaded, shown, stored, state_latch, box, choice, copy, boxes, on_line, demo_located, input_names, output_names, demo_model, demo_file}
use Rattle.demo_laws.specs.DemoLaws.{IsDemoSize}
use Rattle.demo_laws.proofs.Ranges.{length_mapped, sum_mapped, each_mapped, all_unmapped}
use Rattle.demo_laws.proofs.Parts.{library, statements_are, each_statement}
use Rattle.demo_laws.proofs.Drivers.{ports_named, one_driver_each, driven_where_read}
use Rattle.demo_laws.proofs.PlainNames.{loaded_free, shown_free, stored_free}
use Rattle.demo_laws.proofs.Levels.{no_loop, main_is, used_is, no_recursion, shallow}
use Rattle.demo_laws.proofs.Latches.{latch_at, latches_are, latch_outputs_are, latch_count, first_is_plain}
use Rattle.netlist_spec.proofs.OneValue.{All_append}

-- ---- boxes are placements

table_is_something : a_table present_table ≢ nothing
table_is_something e = cc e

box_is_placed : (n j : ℕ) → IsPlacement (demo_file n) library (codes "present") (box_binds j)
unfolding digits
box_is_placed n j =
    record {
      meaning = table_is_something;
      once = refl;
      ports = (refl, (refl, (refl, (refl, (refl, (refl, (refl, (refl, tt))))))));
      given = (refl, (refl, (refl, (refl, tt))));
    }

placements : (n : ℕ) → AllByRecursion (λ s. PlacesWell (demo_file n) library s.what) (demo_located n)
placements n =
    all_unmapped (PlacesWell (demo_file n) library) (λ s. s.what) (demo_located n)
    (subst (λ l. AllByRecursion (PlacesWell (demo_file n) library) l) (sym (statements_are n)) (each_statement n (PlacesWell (demo_file n) library) (λ i h. tt) (λ j h. box_is_placed n j) (λ i h. tt) (λ i h. tt)))

-- ---- clocks

pub clocks_none : (n : ℕ) → clock_nets (demo_model n) ≡ []
clocks_none n = ap (flat_map (λ l. control_nets l.clocking)) (latches_are n) ∙ none (state_bits n)
  where
    none : (is : List ℕ) → flat_map (λ (l : Latch). control_nets l.clocking) (map latch_at is) ≡ []
    none [] = refl
    none (i ∷ is) = none is

abbrev IsClockedHere : ℕ → Latch → Type 0
IsClockedHere n l = IsTrue (is_clocked (demo_model n) l)

clocked : (n : ℕ) → AllByRecursion (IsClockedHere n) (latches_of (demo_model n))
clocked n =
    subst (λ l. AllByRecursion (IsClockedHere n) l) (sym (latches_are n))
    (each_mapped latch_at (IsClockedHere n) 0 (4 * n) (λ i low high. ap (λ c. same_clocking plain c && true) (first_is_plain n)))

-- ---- limits

kept_length : (test : Name → Bool) (ns : List Name) → length (filter test ns) ≤ length ns
kept_length test [] = omega arith
kept_length test (x ∷ ns) = by_case (test x) (kept_length test ns)
  where
    by_case : (b : Bool) → length (filter test ns) ≤ length ns → length (cond b (x ∷ filter test ns) (filter test ns)) ≤ length (x ∷ ns)
    by_case true h = omega arith
    by_case false h = omega arith

-- the sum over the four parts
pub sum_of_parts : (n : ℕ) (g : Statement → ℕ) (a b c d : ℕ) → ((i : ℕ) → g (state_latch i) ≡ a) → ((j : ℕ) → g (box j) ≡ b) → ((i : ℕ) → g (choice n i) ≡ c) → ((i : ℕ) → g (copy i) ≡ d)
    → sum_by (λ s. g s.what) (demo_located n) ≡ a * (4 * n) + (b * n + (c * (4 * n) + d * (4 * n)))
sum_of_parts n g a b c d is_a is_b is_c is_d =
    let latches : List Located = map (λ i. on_line (4 + i) (state_latch i)) (state_bits n) in
    let placed_boxes : List Located = map (λ j. on_line (4 + 4 * n + j) (box j)) (boxes n) in
    let choices : List Located = map (λ i. on_line (4 + 5 * n + 3 * i) (choice n i)) (state_bits n) in
    let copies : List Located = map (λ i. on_line (4 + 17 * n + 2 * i) (copy i)) (state_bits n) in
    sum_by-append (λ s. g s.what) latches (placed_boxes ++ (choices ++ copies))
    ∙ ap₂ (λ x y. x + y) (sum_mapped (λ i. on_line (4 + i) (state_latch i)) (λ s. g s.what) a 0 (4 * n) is_a)
    (sum_by-append (λ s. g s.what) placed_boxes (choices ++ copies)
    ∙ ap₂ (λ x y. x + y) (sum_mapped (λ j. on_line (4 + 4 * n + j) (box j)) (λ s. g s.what) b 0 n is_b)
    (sum_by-append (λ s. g s.what) choices copies
    ∙ ap₂ (λ x y. x + y) (sum_mapped (λ i. on_line (4 + 5 * n + 3 * i) (choice n i)) (λ s. g s.what) c 0 (4 * n) is_c) (sum_mapped (λ i. on_line (4 + 17 * n + 2 * i) (copy i)) (λ s. g s.what) d 0 (4 * n) is_d)))

pub cost_is : (n : ℕ) → whole_cost (demo_file n) library ≡ 352 * n
cost_is n = sum_of_parts n (cost_of (demo_file n) library) 0 256 18 6 (λ i. refl) (λ j. refl) (λ i. refl) (λ i. refl) ∙ omega arith

pub statement_count : (n : ℕ) → length (demo_located n) ≡ 13 * n
statement_count n =
    let latches : List Located = map (λ i. on_line (4 + i) (state_latch i)) (state_bits n) in
    let placed_boxes : List Located = map (λ j. on_line (4 + 4 * n + j) (box j)) (boxes n) in
    let choices : List Located = map (λ i. on_line (4 + 5 * n + 3 * i) (choice n i)) (state_bits n) in
    let copies : List Located = map (λ i. on_line (4 + 17 * n + 2 * i) (copy i)) (state_bits n) in
    let a : length (latches ++ (placed_boxes ++ (choices ++ copies))) ≡ length latches + length (placed_boxes ++ (choices ++ copies)) = length-append latches (placed_boxes ++ (choices ++ copies)) in
    let b : length (placed_boxes ++ (choices ++ copies)) ≡ length placed_boxes + length (choices ++ copies) = length-append placed_boxes (choices ++ copies) in
    let c : length (choices ++ copies) ≡ length choices + length copies = length-append choices copies in
    let d : length latches ≡ 4 * n = length_mapped (λ i. on_line (4 + i) (state_latch i)) 0 (4 * n) in
    let e : length placed_boxes ≡ n = length_mapped (λ j. on_line (4 + 4 * n + j) (box j)) 0 n in
    let f : length choices ≡ 4 * n = length_mapped (λ i. on_line (4 + 5 * n + 3 * i) (choice n i)) 0 (4 * n) in
    let g : length copies ≡ 4 * n = length_mapped (λ i. on_line (4 + 17 * n + 2 * i) (copy i)) 0 (4 * n) in
    omega arith

pub ports_length : (line : ℕ) (ns : List Name) → length (ports_at line ns) ≡ length ns
ports_length line [] = refl
ports_length line (n ∷ ns) = let e = ports_length line ns in omega arith

-- ---- names

abbrev IsFree : Name → Type 0
IsFree x = IsTrue (not (is_reserved x))

free : (x : Name) → is_reserved x ≡ false → IsFree x
free x e = ap not e

module _ (n : ℕ) (size : IsDemoSize n) where
  all_free : AllByRecursion IsFree (written_names (demo_model n))
  all_free =
      let inputs : AllByRecursion IsFree (input_names n) = (refl, each_mapped loaded IsFree 0 (4 * n) (λ i low high. free (loaded i) (loaded_free i (omega (arith, size))))) in
      let outputs : AllByRecursion IsFree (output_names n) = each_mapped shown IsFree 0 (4 * n) (λ i low high. free (shown i) (shown_free i (omega (arith, size)))) in
      let latches : AllByRecursion IsFree (map stored (state_bits n)) = each_mapped stored IsFree 0 (4 * n) (λ i low high. free (stored i) (stored_free i (omega (arith, size)))) in
      All_append IsFree ((port_names (demo_model n).inputs ++ []) ++ port_names (demo_model n).outputs) (latch_outputs (demo_model n))
      (All_append IsFree (port_names (demo_model n).inputs ++ []) (port_names (demo_model n).outputs)
      (All_append IsFree (port_names (demo_model n).inputs) [] (subst (λ l. AllByRecursion IsFree l) (sym (ports_named 2 (input_names n))) inputs) tt)
      (subst (λ l. AllByRecursion IsFree l) (sym (ports_named 3 (output_names n))) outputs))
      (subst (λ l. AllByRecursion IsFree l) (sym (latch_outputs_are n)) latches)

  model_is_sound : IsSoundModel (demo_file n) library (demo_model n)
  model_is_sound =
      record {
        drivers = one_driver_each n size;
        driven = driven_where_read n size;
        placements = placements n;
        no_recursion = no_recursion n;
        latches = λ other. absurd (other refl);
        no_loop = no_loop n;
      }

  pub input_count : length (data_inputs (demo_model n)) ≤ 4 * n + 1
  input_count =
      let kept = kept_length (λ x. not (stands_in x (clock_nets (demo_model n)))) (port_names (demo_model n).inputs) in
      let named : length (port_names (demo_model n).inputs) ≡ length (input_names n) = ap length (ports_named 2 (input_names n)) in
      let loads : length (map loaded (state_bits n)) ≡ 4 * n = length_mapped loaded 0 (4 * n) in
      omega arith

  pub output_count : length (demo_model n).outputs ≡ 4 * n
  output_count = ports_length 3 (output_names n) ∙ length_mapped shown 0 (4 * n)

  main_is_sound : IsSoundMain (demo_file n) library (demo_model n)
  main_is_sound =
      record {
        clocking = clocked n;
        clocks_unread = subst (λ l. AllByRecursion (λ x. IsTrue (not (stands_in x (read_nets (demo_file n) library (demo_model n))))) l) (sym (clocks_none n)) tt;
        shallow = shallow n;
        name = refl;
        names = all_free;
        inputs = (let a = input_count in omega (arith, size));
        outputs = (let a = output_count in omega (arith, size));
        latches = (let a = latch_count n in omega (arith, size));
        cost = (let a = cost_is n in omega (arith, size));
      }

  pub demo_is_sound : IsSound (demo_file n) library
  demo_is_sound =
      record {
        used = λ m used. subst (IsSoundModel (demo_file n) library) (used_is n m used) model_is_sound;
        main = λ m main. subst (IsSoundMain (demo_file n) library) (main_is n m main) main_is_sound;
      }
