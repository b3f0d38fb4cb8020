-- The items of a model, by their places.
use Rattle.std.proofs.Common.{◌≡◌, refl, ap, ℕ, zero, suc, ◌<◌, List, [], ◌∷◌, length, map, find, not, get_or, Option, Some, slice_get, arith}
use Rattle.netlist_spec.specs.Covers.{Library}
use Rattle.netlist_spec.specs.FileOrder.{Item, an_input, a_clock, a_statement, statement_items}
use Rattle.netlist_spec.specs.Netlist.{Name, stands_in, Port, Located, Model, File}
use Rattle.netlist_spec.specs.Sound.{driven_nets}
use Rattle.netlist_spec.specs.SoundFaults.{item_reads}
use Rattle.line_order.specs.Merge.{no_item, inputs_in, clocks_in}

-- a list has something at each place before its end
pub something_at : {A : Type 0} (xs : List A) (i : ℕ) → i < length xs → (x : A) × (slice_get xs i ≡ Some x)
something_at [] i h = absurd (omega arith)
something_at (x ∷ xs) zero h = (x, refl)
something_at (x ∷ xs) (suc i) h = something_at xs i (omega arith)

-- the item of a statement
pub statement_item : (ss : List Located) (i : ℕ) (s : Located) → slice_get ss i ≡ Some s → get_or (statement_items ss) i no_item ≡ record { line = s.line; what = a_statement s.what }
statement_item [] i s e = cc e
statement_item (r ∷ ss) zero s e = let same : r ≡ s = cc e in ap (λ (x : Located). record { line = x.line; what = a_statement x.what }) same
statement_item (r ∷ ss) (suc i) s e = statement_item ss i s e

-- Inputs and clocks read nothing.
module _ (file : File) (library : Library) (m : Model) where
  pub inputs_read_nothing : (i : ℕ) → item_reads file library (get_or (inputs_in m) i no_item).what ≡ []
  inputs_read_nothing i = from m.inputs i
    where
      from : (ps : List Port) (i : ℕ) → item_reads file library (get_or (map (λ (p : Port). record { line = p.line; what = an_input p.name }) ps) i no_item).what ≡ []
      from [] i = refl
      from (p ∷ ps) zero = refl
      from (p ∷ ps) (suc i) = from ps i

  pub clocks_read_nothing : (i : ℕ) → item_reads file library (get_or (clocks_in m) i no_item).what ≡ []
  clocks_read_nothing i = from m.clocks i
    where
      from : (ps : List Port) (i : ℕ) → item_reads file library (get_or (map (λ (p : Port). record { line = p.line; what = a_clock p.name }) ps) i no_item).what ≡ []
      from [] i = refl
      from (p ∷ ps) zero = refl
      from (p ∷ ps) (suc i) = from ps i

-- what is answered at an item, where nets without a driver are sought
abbrev pub undriven_answer : File → Library → Model → List Item → Item → Option Name
undriven_answer file library m earlier i = find (λ n. not (stands_in n (driven_nets file library m))) (item_reads file library i.what)
