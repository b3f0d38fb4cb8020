-- Words found for lists of names, and which nets stand in them.
use Rattle.std.specs.Prelude.{◌≡◌, ℕ, Bool, List, [], ◌++◌, length, map, find, not, Option, None, Some, slice_get, slice_index_or}
use Rattle.std.specs.List.{AllZip, range_with_len}
use Rattle.netlist_spec.specs.Netlist.{Name, stands_in}
use Rattle.std.specs.Option.{option_or}
use Rattle.guard_spec.specs.Words.{Words, Layout, LayoutFault, all_numbers, AreTakenBy, AreNamed, as_fault, in_two_words, name_again, not_in_a_word}

abbrev pub net_at : List Name → ℕ → Name
net_at nets i = slice_index_or nets i []

-- the nets of these numbers
abbrev pub nets_at : List Name → List ℕ → List Name
nets_at nets numbers = map (net_at nets) numbers

-- The number is one of the name, among some nets.
abbrev pub Numbers : List Name → Name → ℕ → Type 0
Numbers nets name i = slice_get nets i ≡ Some name

-- the first name that is no net
abbrev pub first_unknown : List Name → List Name → Option Name
first_unknown nets names = find (λ n. not (stands_in n nets)) names

-- whether each net stands in a list
abbrev pub marks_of : List Name → List Name → List Bool
marks_of nets listed = map (λ n. stands_in n listed) nets

-- the first net that doesn't stand in the list
abbrev pub first_left_out : List Name → List Name → Option Name
first_left_out nets listed = find (λ n. not (stands_in n listed)) nets

-- The words that are asked for, of which it isn't known yet whether each net stands in one.
abbrev pub AreFound : ℕ → List Name → Option (List (List Name)) → Words → Type 0
AreFound k nets None words = (all_numbers words ≡ range_with_len 0 (length nets)) × AreTakenBy k words
AreFound k nets (Some named) words = AreNamed nets named words

-- What comes of some numbers behind a list: one whose net stands there a second time, or all marks.
abbrev pub IsMarked : List Name → List Name → List ℕ → List Bool → Option ℕ → Type 0
IsMarked nets listed numbers marks None = (name_again listed (nets_at nets numbers) ≡ None) × (marks ≡ marks_of nets (listed ++ nets_at nets numbers))
IsMarked nets listed numbers marks (Some i) = (name_again listed (nets_at nets numbers) ≡ Some (net_at nets i))

-- the first net that stands in words a second time
abbrev pub first_again : List Name → Words → Option Name
first_again nets words = name_again [] (nets_at nets (all_numbers words))

-- the first net that stands in no word
abbrev pub first_out : List Name → Words → Option Name
first_out nets words = first_left_out nets (nets_at nets (all_numbers words))

-- Each latch and each output stands in one word.
pub record ComesOnce (latches outputs : List Name) (l : Layout) : Type 0 where
  pub state_again : first_again latches l.state ≡ None
  pub output_again : first_again outputs l.output ≡ None
  pub state_out : first_out latches l.state ≡ None
  pub output_out : first_out outputs l.output ≡ None

-- the first of the faults of latches and outputs that don't
abbrev pub once_fault : (latches outputs : List Name) → Layout → Option LayoutFault
once_fault latches outputs l =
    option_or (as_fault (λ n. in_two_words n) (first_again latches l.state))
    (option_or (as_fault (λ n. in_two_words n) (first_again outputs l.output))
    (option_or (as_fault (λ n. not_in_a_word n) (first_out latches l.state))
    (as_fault (λ n. not_in_a_word n) (first_out outputs l.output))))
