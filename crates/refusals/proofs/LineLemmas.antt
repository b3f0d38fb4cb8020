-- The line that a refusal puts to the error output.
use Rattle.std.proofs.Common.{◌≡◌, ℕ, ◌+◌, List, [], ◌∷◌, ◌++◌, refl, sym, ap, subst, ◌∙◌, codes, append_assoc, append-nil, get_or, take, drop, slice_get, unwrap_or, Option, None, Some}
use Rattle.std.specs.Prelude.{Result, decimal}
use Rattle.std.specs.List.{flat_map}
use Rattle.std.proofs.lemmas.Grind.{flat_map-append}
use Rattle.std.proofs.lemmas.List.{take-append-drop, take_more}
use Rattle.std.proofs.lemmas.Option.{slice_get_within, unwrap_or-slice_get}
use Rattle.imp_io.specs.Sink.{SinkSeen, Puts}
use Rattle.imp_io.specs.declared.fault.SinkFault.{SinkFault}
use Rattle.netlist_spec.specs.Netlist.{Name, Quantity, cover_inputs, model_inputs, model_outputs, model_clocks, model_latches, file_statements, source_cost}
use Rattle.netlist_spec.specs.Escapes.{escape, escaped, quantity_word}
use Rattle.program_spec.specs.ErrorLines.{error_line}
use Rattle.refusals.specs.declared.told.Tail.{Tail}
use Rattle.refusals.specs.Lines.{each_text, front_text, place_text, tail_text, tailed_line}

spread-some : (p n l d t e z : List ℕ) → (p ++ (n ++ (l ++ (d ++ 32 ∷ [])))) ++ ((t ++ e) ++ z) ≡ (p ++ ((n ++ (l ++ d)) ++ 32 ∷ (t ++ e))) ++ z
spread-some p n l d t e z = simp append_assoc

-- what is put is the line of what is told
pub told-line : (number text : List ℕ) (tail : Tail) (line : Option ℕ) → front_text number line ++ tailed_line text tail ≡ error_line (number ++ place_text line ++ 32 ∷ (text ++ tail_text tail))
told-line number text tail None = simp (append_assoc, append-nil)
told-line number text tail (Some line) = spread-some (codes "impeccable: ") number (codes " line ") (decimal line) text (tail_text tail) (10 ∷ [])

-- the words for counts are printed as they are
pub word_escaped : (q : Quantity) → flat_map escape (quantity_word q) ≡ quantity_word q
word_escaped cover_inputs = refl
word_escaped model_inputs = refl
word_escaped model_outputs = refl
word_escaped model_clocks = refl
word_escaped model_latches = refl
word_escaped file_statements = refl
word_escaped source_cost = refl

-- one name more, and those that are still to come
pub each-more : (names : List Name) (i : ℕ) (n : Name) → slice_get names i ≡ Some n → each_text (take i names) ++ 32 ∷ escaped n ≡ each_text (take (i + 1) names)
each-more names i n is =
    let found : get_or names i [] ≡ n = sym (unwrap_or-slice_get names i []) ∙ ap (λ (s : Option Name). unwrap_or s []) is in
    let more : take (i + 1) names ≡ take i names ++ n ∷ [] = take_more names i [] (slice_get_within names i n is) ∙ ap (λ (k : Name). take i names ++ k ∷ []) found in
    ap (λ (text : List ℕ). each_text (take i names) ++ text) (sym (append-nil (32 ∷ escaped n)))
    ∙ sym (flat_map-append (λ k. 32 ∷ escaped k) (take i names) (n ∷ []))
    ∙ ap each_text (sym more)

pub each-left : (names : List Name) (i : ℕ) → each_text (take i names) ++ each_text (drop i names) ≡ each_text names
each-left names i = sym (flat_map-append (λ k. 32 ∷ escaped k) (take i names) (drop i names)) ∙ ap each_text (take-append-drop i names)

-- a text that is the same as one that was put
pub Puts-text : {T : Type 0} (old new : SinkSeen) (a b : List ℕ) (result : Result T SinkFault) → a ≡ b → Puts old a result new → Puts old b result new
Puts-text old new a b result e p = subst (λ (text : List ℕ). Puts old text result new) e p
