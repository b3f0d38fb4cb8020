-- The statements of the demo design, part by part, and what they read and drive.
use Rattle.std.proofs.Common.{◌≡◌, refl, sym, ◌∙◌, ap, ap₂, ℕ, ◌+◌, ◌*◌, ◌<◌, List, [], ◌∷◌, ◌++◌, map, codes, arith}
use Rattle.std.specs.Fmt.{digits}
use Rattle.std.specs.List.{AllByRecursion, flat_map}
use Rattle.std.proofs.lemmas.List.{map-append}
use Rattle.netlist_spec.specs.Netlist.{Name, Statement, Located}
use Rattle.netlist_spec.specs.Covers.{Library}
use Rattle.netlist_spec.specs.Placed.{a_table, placed}
use Rattle.netlist_spec.specs.Sound.{drives, reads}
use Rattle.program_spec.specs.Demo.{demo_settings, present_table, state_bits, moved_to}
use Rattle.demo_laws.specs.DemoFile.{shown, stored, next, substituted, state_latch, box, choice, copy, boxes, demo_statements, on_line, demo_located, demo_file}
use Rattle.demo_laws.proofs.Ranges.{each_mapped, by_four, flat_append, flat_mapped, flat_single, flat_same}
use Rattle.netlist_spec.proofs.WrittenFiles.{maps}
use Rattle.netlist_spec.proofs.OneValue.{All_append}

abbrev pub library : Library
library = demo_settings.library

pub placed_box : (n : ℕ) → placed (demo_file n) library (codes "present") ≡ a_table present_table
placed_box n = refl

pub box_drives : (n j : ℕ) → drives (demo_file n) library (box j) ≡ substituted (4 * j + 0) ∷ substituted (4 * j + 1) ∷ substituted (4 * j + 2) ∷ substituted (4 * j + 3) ∷ []
unfolding digits
box_drives n j = refl

pub box_reads : (n j : ℕ) → reads (demo_file n) library (box j) ≡ stored (4 * j + 0) ∷ stored (4 * j + 1) ∷ stored (4 * j + 2) ∷ stored (4 * j + 3) ∷ []
unfolding digits
box_reads n j = refl

pub statements_are : (n : ℕ) → map (λ l. l.what) (demo_located n) ≡ demo_statements n
statements_are n =
    let latches : List Located = map (λ i. on_line (4 + i) (state_latch i)) (state_bits n) in
    let placed_boxes : List Located = map (λ j. on_line (4 + 4 * n + j) (box j)) (boxes n) in
    let choices : List Located = map (λ i. on_line (4 + 5 * n + 3 * i) (choice n i)) (state_bits n) in
    let copies : List Located = map (λ i. on_line (4 + 17 * n + 2 * i) (copy i)) (state_bits n) in
    map-append (λ l. l.what) latches (placed_boxes ++ (choices ++ copies))
    ∙ ap₂ (λ a b. a ++ b) (maps (λ l. l.what) (λ i. on_line (4 + i) (state_latch i)) (state_bits n))
    (map-append (λ l. l.what) placed_boxes (choices ++ copies)
    ∙ ap₂ (λ a b. a ++ b) (maps (λ l. l.what) (λ j. on_line (4 + 4 * n + j) (box j)) (boxes n))
    (map-append (λ l. l.what) choices copies
    ∙ ap₂ (λ a b. a ++ b) (maps (λ l. l.what) (λ i. on_line (4 + 5 * n + 3 * i) (choice n i)) (state_bits n)) (maps (λ l. l.what) (λ i. on_line (4 + 17 * n + 2 * i) (copy i)) (state_bits n))))

-- what holds of each part holds of all statements
pub each_statement : (n : ℕ) (P : Statement → Type 0) → ((i : ℕ) → i < 4 * n → P (state_latch i)) → ((j : ℕ) → j < n → P (box j)) → ((i : ℕ) → i < 4 * n → P (choice n i)) → ((i : ℕ) → i < 4 * n → P (copy i))
    → AllByRecursion P (demo_statements n)
each_statement n P latches placed_boxes choices copies =
    All_append P (map state_latch (state_bits n)) (map box (boxes n) ++ (map (choice n) (state_bits n) ++ map copy (state_bits n)))
    (each_mapped state_latch P 0 (4 * n) (λ i low high. latches i (omega arith)))
    (All_append P (map box (boxes n)) (map (choice n) (state_bits n) ++ map copy (state_bits n))
    (each_mapped box P 0 n (λ j low high. placed_boxes j (omega arith)))
    (All_append P (map (choice n) (state_bits n)) (map copy (state_bits n))
    (each_mapped (choice n) P 0 (4 * n) (λ i low high. choices i (omega arith)))
    (each_mapped copy P 0 (4 * n) (λ i low high. copies i (omega arith)))))

-- the same part by part for lists that are made of the statements
pub flat_statements : {B : Type 0} (n : ℕ) (g : Statement → List B) → flat_map g (demo_statements n)
    ≡ flat_map (λ i. g (state_latch i)) (state_bits n) ++ (flat_map (λ j. g (box j)) (boxes n) ++ (flat_map (λ i. g (choice n i)) (state_bits n) ++ flat_map (λ i. g (copy i)) (state_bits n)))
flat_statements n g =
    flat_append g (map state_latch (state_bits n)) (map box (boxes n) ++ (map (choice n) (state_bits n) ++ map copy (state_bits n)))
    ∙ ap₂ (λ a b. a ++ b) (flat_mapped g state_latch (state_bits n))
    (flat_append g (map box (boxes n)) (map (choice n) (state_bits n) ++ map copy (state_bits n))
    ∙ ap₂ (λ a b. a ++ b) (flat_mapped g box (boxes n))
    (flat_append g (map (choice n) (state_bits n)) (map copy (state_bits n))
    ∙ ap₂ (λ a b. a ++ b) (flat_mapped g (choice n) (state_bits n)) (flat_mapped g copy (state_bits n))))

abbrev pub driven_names : ℕ → List Name
driven_names n = map stored (state_bits n) ++ (map substituted (state_bits n) ++ (map (λ i. next (moved_to n i)) (state_bits n) ++ map shown (state_bits n)))

pub driven_are : (n : ℕ) → flat_map (λ s. drives (demo_file n) library s.what) (demo_located n) ≡ driven_names n
driven_are n =
    let g : Statement → List Name = drives (demo_file n) library in
    sym (flat_mapped g (λ l. l.what) (demo_located n)) ∙ ap (flat_map g) (statements_are n) ∙ flat_statements n g
    ∙ ap₂ (λ a b. a ++ b) (flat_single (λ i. g (state_latch i)) stored (λ i. refl) (state_bits n))
    (ap₂ (λ a b. a ++ b) (flat_same (λ j. g (box j)) (λ j. substituted (4 * j + 0) ∷ substituted (4 * j + 1) ∷ substituted (4 * j + 2) ∷ substituted (4 * j + 3) ∷ []) (box_drives n) (boxes n) ∙ by_four substituted 0 n)
    (ap₂ (λ a b. a ++ b) (flat_single (λ i. g (choice n i)) (λ i. next (moved_to n i)) (λ i. refl) (state_bits n)) (flat_single (λ i. g (copy i)) shown (λ i. refl) (state_bits n))))
