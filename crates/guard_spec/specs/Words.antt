-- Words over the latches and over the outputs of a source.
use Rattle.std.specs.Prelude.{◌≡◌, ℕ, ◌<◌, ◌≤◌, Bool, true, false, List, [], ◌∷◌, length, map, find, not, Option, Some, None, slice_get, slice_index_or, slice_range, count_by, ◌+◌, ◌*◌, ◌++◌, ◌==◌, ⊤}
use Rattle.std.specs.Option.{option_or}
use Rattle.std.specs.List.{AllByRecursion, AllZip, flat_map, range_with_len}
use Rattle.netlist_spec.specs.Netlist.{Name, stands_in, Model}
use Rattle.netlist_spec.specs.Covers.{Library}
use Rattle.netlist_spec.specs.Models.{latch_outputs, output_nets}
use Rattle.netlist_spec.specs.SourceRun.{Bits}
use Rattle.guard_spec.specs.Codes.{Code, data_places, encoded, Mode}

-- what a settings file stands for
pub record Settings : Type 0 where
  pub mode : Mode
  pub bound : ℕ
  pub code : Code
  pub state_words : Option (List (List Name))
  pub output_words : Option (List (List Name))
  pub library : Library

-- A word is a list of numbers of latches, or of outputs, in the order of their lines.
abbrev pub Words : Type 0
Words = List (List ℕ)

pub record Layout : Type 0 where
  pub state : Words
  pub output : Words

abbrev pub all_numbers : Words → List ℕ
all_numbers words = flat_map (λ w. w) words

-- A partition of the numbers below n into words of 1 to k numbers: each number stands in one word, once.
pub record IsPartition (n k : ℕ) (words : Words) : Type 0 where
  pub lengths : AllByRecursion (λ w. (1 ≤ length w) × (length w ≤ k)) words
  pub each_once : (i : ℕ) → i < n → count_by (λ j. j == i) (all_numbers words) ≡ 1
  pub no_other : AllByRecursion (λ i. i < n) (all_numbers words)

-- Without a list in the settings, words are taken k at a time, in order; the last one may be short.
abbrev pub AreTakenBy : ℕ → Words → Type 0
AreTakenBy k [] = ⊤
AreTakenBy k (w ∷ []) = (1 ≤ length w) × (length w ≤ k)
AreTakenBy k (w ∷ v ∷ rest) = (length w ≡ k) × AreTakenBy k (v ∷ rest)

-- the numbers stand for these names
abbrev pub AreNamed : List Name → List (List Name) → Words → Type 0
AreNamed nets named words = AllZip (λ names numbers. AllZip (λ name i. slice_get nets i ≡ Some name) names numbers) named words

-- the words over some nets that the settings ask for
abbrev pub AreWords : ℕ → List Name → Option (List (List Name)) → Words → Type 0
AreWords k nets None words = (all_numbers words ≡ range_with_len 0 (length nets)) × AreTakenBy k words
AreWords k nets (Some named) words = AreNamed nets named words × IsPartition (length nets) k words

-- the layout over latches and outputs with these names, in the order of their lines
pub record IsLayoutOver (latches outputs : List Name) (s : Settings) (l : Layout) : Type 0 where
  pub state : AreWords (data_places s.code) latches s.state_words l.state
  pub output : AreWords (data_places s.code) outputs s.output_words l.output

-- the layout of a source's main model
abbrev pub IsLayout : Model → Settings → Layout → Type 0
IsLayout m s l = IsLayoutOver (latch_outputs m) (output_nets m) s l

-- what may be wrong with the words of the settings
pub data LayoutFault : Type 0 where
  no_such_net : (name : Name) → LayoutFault
  in_two_words : (name : Name) → LayoutFault
  not_in_a_word : (name : Name) → LayoutFault

abbrev pub named_in : Option (List (List Name)) → List Name
named_in None = []
named_in (Some named) = flat_map (λ names. names) named

-- a name of the list that is none of the nets
abbrev pub unknown_name : List Name → Option (List (List Name)) → Option Name
unknown_name nets named = find (λ n. not (stands_in n nets)) (named_in named)

-- a name that stands in the list a second time
abbrev pub name_again : List Name → List Name → Option Name
name_again earlier [] = None
name_again earlier (n ∷ ns) = choose (stands_in n earlier) n (name_again (n ∷ earlier) ns)
  where
    choose : Bool → Name → Option Name → Option Name
    choose true m later = Some m
    choose false m later = later

-- where the list is given, a net that stands in no word
abbrev pub net_left_out : List Name → Option (List (List Name)) → Option Name
net_left_out nets None = None
net_left_out nets (Some named) = find (λ n. not (stands_in n (named_in (Some named)))) nets

abbrev pub as_fault : (Name → LayoutFault) → Option Name → Option LayoutFault
as_fault fault None = None
as_fault fault (Some n) = Some (fault n)

-- The first fault, over latches and outputs with these names: unknown names of both lists, then names that come
-- twice, then nets left out; state words stand before output words, and names in file order.
abbrev pub layout_fault_over : (latches outputs : List Name) → Settings → Option LayoutFault
layout_fault_over latches outputs s =
    option_or (as_fault (λ n. no_such_net n) (unknown_name latches s.state_words))
    (option_or (as_fault (λ n. no_such_net n) (unknown_name outputs s.output_words))
    (option_or (as_fault (λ n. in_two_words n) (name_again [] (named_in s.state_words)))
    (option_or (as_fault (λ n. in_two_words n) (name_again [] (named_in s.output_words)))
    (option_or (as_fault (λ n. not_in_a_word n) (net_left_out latches s.state_words))
    (as_fault (λ n. not_in_a_word n) (net_left_out outputs s.output_words))))))

-- the first fault for a source's main model
abbrev pub layout_fault : Model → Settings → Option LayoutFault
layout_fault m s = layout_fault_over (latch_outputs m) (output_nets m) s

-- the bits at the places of a word
abbrev pub bits_at : List ℕ → Bits → Bits
bits_at word bits = map (λ i. slice_index_or bits i false) word

-- the codewords of the words of some bits, one behind the other
abbrev pub codewords : Code → Words → Bits → Bits
codewords code words bits = flat_map (λ w. encoded code (bits_at w bits)) words

-- An output word of a guard, with its number: its source outputs and then its check outputs. The outputs of a guard are
-- the p outputs of the source, then the check bits of each output word, and then the rails.
abbrev pub output_word : Code → ℕ → Bits → ℕ × List ℕ → Bits
output_word code p z word = bits_at word.1 z ++ slice_range z (p + word.0 * code.columns) (p + word.0 * code.columns + code.columns)
