-- What a layout owes: the first fault of its settings, or the words that they ask for.
use Rattle.std.proofs.Common.{◌≡◌, refl, sym, ◌∙◌, ap, ap₂, subst, ℕ, ◌≤◌, List, [], ◌∷◌, ◌++◌, length, true, Option, Some, None}
use Rattle.std.specs.Prelude.{IfSome}
use Rattle.std.specs.Option.{option_or}
use Rattle.netlist_spec.specs.Netlist.{Name, are_distinct}
use Rattle.netlist_spec.proofs.OneValue.{passes_both}
use Rattle.guard_spec.specs.Codes.{data_places}
use Rattle.guard_spec.specs.SettingsFile.{IsSettings}
use Rattle.guard_spec.specs.Words.{Words, Layout, Settings, LayoutFault, IsLayoutOver, IsPartition, as_fault, in_two_words, layout_fault_over, no_such_net, not_in_a_word, unknown_name}
use Rattle.encode_state.specs.Faults.{IsFault}
use Rattle.encode_state.specs.Listed.{AreFound, ComesOnce, once_fault}
use Rattle.encode_state.proofs.FaultLemmas.{first_fault, later_fault, neither, no_fault}
use Rattle.encode_state.proofs.PartitionLemmas.{are_words, found_again, found_known, found_out, is_partition}

skip : (a b : Option LayoutFault) → a ≡ None → option_or a b ≡ b
skip None b none = refl
skip (Some f) b none = absurd (cc none)

pub distinct_back : (xs ys : List Name) → are_distinct (xs ++ ys) ≡ true → are_distinct ys ≡ true
distinct_back [] ys d = d
distinct_back (x ∷ xs) ys d = distinct_back xs ys (passes_both _ _ d).1

module _ (latches outputs : List Name) (s : Settings) where
  pub unknown_state : (told : Option LayoutFault) → IsFault (as_fault (λ n. no_such_net n) (unknown_name latches s.state_words)) told → IsFault (layout_fault_over latches outputs s) told
  unknown_state told is = first_fault _ _ told is

  pub unknown_output : (told : Option LayoutFault) → unknown_name latches s.state_words ≡ None → IsFault (as_fault (λ n. no_such_net n) (unknown_name outputs s.output_words)) told
      → IsFault (layout_fault_over latches outputs s) told
  unknown_output told none is = later_fault _ _ told (no_fault (λ n. no_such_net n) _ none) (first_fault _ _ told is)

  -- where the words are found
  module _ (l : Layout) (d : are_distinct latches ≡ true) (e : are_distinct outputs ≡ true) (f : AreFound (data_places s.code) latches s.state_words l.state) (g : AreFound (data_places s.code) outputs s.output_words l.output) where
    rest_is : layout_fault_over latches outputs s ≡ once_fault latches outputs l
    rest_is =
        skip _ _ (no_fault (λ n. no_such_net n) _ (found_known (data_places s.code) latches s.state_words l.state f))
        ∙ (skip _ _ (no_fault (λ n. no_such_net n) _ (found_known (data_places s.code) outputs s.output_words l.output g))
        ∙ ap₂ (λ a b. option_or a b) (ap (as_fault (λ n. in_two_words n)) (found_again (data_places s.code) latches d s.state_words l.state f))
        (ap₂ (λ a b. option_or a b) (ap (as_fault (λ n. in_two_words n)) (found_again (data_places s.code) outputs e s.output_words l.output g))
        (ap₂ (λ a b. option_or a b) (ap (as_fault (λ n. not_in_a_word n)) (found_out (data_places s.code) latches d s.state_words l.state f))
        (ap (as_fault (λ n. not_in_a_word n)) (found_out (data_places s.code) outputs e s.output_words l.output g)))))

    pub told_of_rest : (told : Option LayoutFault) → IsFault (once_fault latches outputs l) told → IsFault (layout_fault_over latches outputs s) told
    told_of_rest told is = subst (λ (x : Option LayoutFault). IsFault x told) (sym rest_is) is

    module _ (once : ComesOnce latches outputs l) (valid : IsSettings s) where
      pub none_told : layout_fault_over latches outputs s ≡ None
      none_told =
          rest_is
          ∙ neither _ _ (no_fault (λ n. in_two_words n) _ once.state_again)
          (neither _ _ (no_fault (λ n. in_two_words n) _ once.output_again)
          (neither _ _ (no_fault (λ n. not_in_a_word n) _ once.state_out) (no_fault (λ n. not_in_a_word n) _ once.output_out)))

      pub state_parts : IsPartition (length latches) (data_places s.code) l.state
      state_parts = is_partition (data_places s.code) latches d s.state_words l.state valid.code.rows.0 f valid.state_words once.state_again once.state_out

      pub output_parts : IsPartition (length outputs) (data_places s.code) l.output
      output_parts = is_partition (data_places s.code) outputs e s.output_words l.output valid.code.rows.0 g valid.output_words once.output_again once.output_out

      pub layout_is : IsLayoutOver latches outputs s l
      layout_is =
          record {
            state = are_words (data_places s.code) latches d s.state_words l.state f state_parts;
            output = are_words (data_places s.code) outputs e s.output_words l.output g output_parts;
          }

-- What is owed where the settings have no fault.
pub record IsSettled (latches outputs : List Name) (s : Settings) (l : Layout) : Type 0 where
  pub is_layout : IsLayoutOver latches outputs s l
  pub state : IsPartition (length latches) (data_places s.code) l.state
  pub output : IsPartition (length outputs) (data_places s.code) l.output
  pub no_fault : layout_fault_over latches outputs s ≡ None

-- words of as many places as the code has rows
pub found_by : (nets : List Name) (s : Settings) (listed : Option (List (List Name))) (words : Words) (k : ℕ) → k ≡ data_places s.code → AreFound k nets listed words → AreFound (data_places s.code) nets listed words
found_by nets s listed words k is f = subst (λ (n : ℕ). AreFound n nets listed words) is f

pub settled : (latches outputs : List Name) (s : Settings) (l : Layout) → are_distinct latches ≡ true → are_distinct outputs ≡ true → (k : ℕ) → k ≡ data_places s.code
    → AreFound k latches s.state_words l.state → AreFound k outputs s.output_words l.output → ComesOnce latches outputs l → IsSettings s → (same : Settings) → s ≡ same → IsSettled latches outputs same l
settled latches outputs s l d e k is f g once valid same is_same =
    let a = found_by latches s s.state_words l.state k is f in
    let b = found_by outputs s s.output_words l.output k is g in
    subst (λ (x : Settings). IsSettled latches outputs x l) is_same (record {
      is_layout = layout_is latches outputs s l d e a b once valid;
      state = state_parts latches outputs s l d e a b once valid;
      output = output_parts latches outputs s l d e a b once valid;
      no_fault = none_told latches outputs s l d e a b once valid;
    })

-- the same over names that are the same
pub over_names : (P : List Name → List Name → Type 0) {a b c d : List Name} → a ≡ b → c ≡ d → P a c → P b d
over_names P {b = b} {c = c} same also is = subst (λ (ns : List Name). P b ns) also (subst (λ (ns : List Name). P ns c) same is)
