use Rattle.std.proofs.Common.{◌≡◌, ◌++◌, ◌∷◌, [], ℕ, List, ◌+◌, ◌%◌, map, eqb, ap, ap₂, sym, arith, ◌∙◌, append_assoc}
use Rattle.std.specs.Prelude.{◌&&◌}
use Rattle.std.specs.List.{range_with_len}
use Rattle.std.proofs.lemmas.List.FromFn.{map-range_with_len_more}
use Rattle.netlist_spec.specs.Statements.{bit_char}
use Rattle.demo_design.proofs.stimulus.push_bits.Goals as goal

pub loop-i-preserved : goal.loop-i-preserved
loop-i-preserved c =
    let f = λ (i : ℕ). bit_char (c.args.loads && eqb (i % 3) 0) in
    let old = c.args.text.now.items in
    let i = c.loop-i.i in
    let here : c.char_of.result ≡ f i = c.char_of.ensures ∙ ap bit_char c.is_loaded.ensures in
    let number : 0 + i ≡ i = omega arith in
    let more = map-range_with_len_more f 0 i i number in
    c.in_ok-push.ensures.items
    ∙ (ap₂ (λ (xs : List ℕ) (b : ℕ). xs ++ b ∷ []) c.loop-i.invariant here
    ∙ (append_assoc old (map f (range_with_len 0 i)) (f i ∷ []) ∙ ap (λ (xs : List ℕ). old ++ xs) (sym more)))
