use Rattle.std.proofs.Common.{◌≡◌, ◌++◌, ◌∷◌, [], ℕ, List, Bool, true, false, ◌%◌, map, eqb, ap, sym, ◌∙◌, append_assoc}
use Rattle.std.specs.Prelude.{◌&&◌, if◌then◌else◌}
use Rattle.std.proofs.lemmas.Simd.{map-map}
use Rattle.netlist_spec.specs.Statements.{bit_char}
use Rattle.program_spec.specs.Demo.{idle_cycle, loading_cycle, state_bits}
use Rattle.demo_laws.specs.DemoFiles.{cycle_text}
use Rattle.demo_design.proofs.stimulus.push_cycle.Goals as goal

abbrev bits : Bool → ℕ → List ℕ
bits loads n = map (λ i. bit_char (loads && eqb (i % 3) 0)) (state_bits n)

is_line : (loads : Bool) (n : ℕ) → bit_char loads ∷ (bits loads n ++ 10 ∷ []) ≡ cycle_text (if loads then loading_cycle n else idle_cycle n)
is_line true n = ap (λ (xs : List ℕ). 49 ∷ (xs ++ 10 ∷ [])) (sym (map-map bit_char (λ i. eqb (i % 3) 0) (state_bits n)))
is_line false n = ap (λ (xs : List ℕ). 48 ∷ (xs ++ 10 ∷ [])) (sym (map-map bit_char (λ i. false) (state_bits n)))

put_together : (old more : List ℕ) (b : ℕ) → ((old ++ b ∷ []) ++ more) ++ 10 ∷ [] ≡ old ++ (b ∷ (more ++ 10 ∷ []))
put_together old more b = simp append_assoc

pub returns : goal.returns
returns c =
    let old = c.args.text.now.items in
    let n = c.args.n in
    let loads = c.args.loads in
    c.in_ok-push-2.ensures.items
    ∙ (ap (λ (xs : List ℕ). xs ++ 10 ∷ []) (c.in_ok-push_bits.ensures ∙ ap (λ (xs : List ℕ). xs ++ bits loads n) (c.in_ok-push.ensures.items ∙ ap (λ (b : ℕ). old ++ b ∷ []) c.char_of.ensures))
    ∙ (put_together old (bits loads n) (bit_char loads) ∙ ap (λ (xs : List ℕ). old ++ xs) (is_line loads n)))
