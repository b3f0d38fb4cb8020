-- The labels of a guard's nets, with numbers in place of names.
use Rattle.std.specs.Prelude.{ℕ, ◌+◌, ◌-◌, ◌≤◌, List, [], ◌∷◌, ◌++◌, length, map, nat_lt, if◌then◌else◌, ⊤}
use Rattle.std.specs.List.{flat_map, enumerate_from, range_with_len}
use Rattle.guard_spec.specs.Words.{Words}
use Rattle.imp_text.specs.declared.names.NameId.{NameId}
use Rattle.named_netlist.specs.declared.label.Label.{Label}
use Rattle.named_netlist.specs.declared.label.Label.TheVariants.{Given, Store, Next, Check, Rail}
use Rattle.guard_names.specs.declared.labels.Kind.{Kind}
use Rattle.guard_names.specs.declared.labels.Kind.TheVariants.{Store as ForStore, Next as ForNext, Check as ForCheck}

-- Each number is above the one before it, and the first one is no lower than `low`.
abbrev pub IsRising : ℕ → List ℕ → Type 0
IsRising low [] = ⊤
IsRising low (n ∷ ns) = (low ≤ n) × IsRising (n + 1) ns

-- the number behind the last one
abbrev pub end_of : ℕ → List ℕ → ℕ
end_of low [] = low
end_of low (n ∷ ns) = end_of (n + 1) ns

-- those of some items beside which the net of a gate stands, and no leaf
abbrev pub beside_gates : {A : Type 0} → ℕ → List A → List ℕ → List A
beside_gates leaves [] nets = []
beside_gates leaves (x ∷ xs) [] = []
beside_gates leaves (x ∷ xs) (n ∷ nets) = if nat_lt n leaves then beside_gates leaves xs nets else x ∷ beside_gates leaves xs nets

-- The labels of the nets from `first` up to the last of some nets, which have labels of their own. The others are
-- numbered from `count` on.
abbrev pub between : {A : Type 0} → (ℕ → A) → ℕ → ℕ → List ℕ → List A → List A
between inner first count [] own = []
between inner first count (n ∷ nets) [] = []
between inner first count (n ∷ nets) (x ∷ own) =
    map inner (range_with_len count (n - first)) ++ x ∷ between inner (n + 1) (count + (n - first)) nets own

abbrev pub kind_label : Kind → ℕ → ℕ → Label
kind_label ForStore word place = Store word place
kind_label ForNext word place = Next word place
kind_label ForCheck word place = Check word place

-- by word, from a number on, and then by place
abbrev pub places_from : Kind → ℕ → ℕ → Words → List Label
places_from kind columns first words =
    flat_map (λ (word : ℕ × List ℕ). map (kind_label kind word.0) (range_with_len 0 (length word.1 + columns))) (enumerate_from first words)

abbrev pub state_labels : Kind → ℕ → Words → List Label
state_labels kind columns words = places_from kind columns 0 words

-- by word and then by column
abbrev pub check_labels : ℕ → ℕ → List Label
check_labels columns words = flat_map (λ (word : ℕ). map (Check word) (range_with_len 0 columns)) (range_with_len 0 words)

-- the outputs of the source, the check outputs and the rails
abbrev pub shown_labels : List NameId → ℕ → ℕ → ℕ → List Label
shown_labels names columns words rails = map (λ n. Given n) names ++ check_labels columns words ++ map (λ i. Rail i) (range_with_len 0 rails)
