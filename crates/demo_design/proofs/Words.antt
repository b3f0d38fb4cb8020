-- Lines of the netlist by their words, and the netlist by its kinds of lines.
use Rattle.std.proofs.Common.{◌≡◌, ◌++◌, [], ◌∷◌, List, ℕ, ap, ap₂, sym, refl, ◌∙◌, append_assoc, append-nil, codes, map, Some, None, true, false}
use Rattle.std.specs.List.{flat_map, join_with_byte}
use Rattle.std.proofs.lemmas.Grind.{flat_map-append}
use Rattle.std.proofs.lemmas.List.Folds.{flat_map-map}
use Rattle.netlist_spec.specs.Netlist.{plain}
use Rattle.netlist_spec.specs.Statements.{Said, model_line, inputs_line, outputs_line, names_line, row_line, latch_line, subckt_line, end_line}
use Rattle.netlist_spec.specs.Text.{line_text}
use Rattle.program_spec.specs.Demo.{numbered, state_bits, box_binds, choice_lines, copy_lines, demo_netlist}
use Rattle.demo_laws.specs.DemoFile.{boxes, load, loaded, shown, next, stored}
use Rattle.demo_design.specs.Texts.{names_text, head_text, latch_text, port_text, ports_text, box_text, choice_text, copy_text}

-- ---- one line

spaced : (w : List ℕ) (f : ℕ → List ℕ) (is : List ℕ) → join_with_byte 32 (w ∷ map f is) ≡ w ++ flat_map (λ i. 32 ∷ f i) is
spaced w f [] = sym (append-nil w)
spaced w f (i ∷ is) = ap (λ (l : List ℕ). w ++ 32 ∷ l) (spaced (f i) f is)

head_by_words : (old m f l ins z u outs : List ℕ) → ((((old ++ (m ++ (f ++ l))) ++ ins) ++ (z ++ u)) ++ outs) ++ z ≡ old ++ ((m ++ ((f ++ (l ++ ins)) ++ z)) ++ ((u ++ outs) ++ z))
head_by_words old m f l ins z u outs = simp append_assoc

pub head_is : (n : ℕ) (old : List ℕ) → ((((old ++ codes ".model demo\n.inputs load") ++ names_text 112 (state_bits n)) ++ codes "\n.outputs") ++ names_text 99 (state_bits n)) ++ 10 ∷ [] ≡ old ++ head_text n
head_is n old =
    head_by_words old (codes ".model demo\n") (codes ".inputs ") load (names_text 112 (state_bits n)) (10 ∷ []) (codes ".outputs") (names_text 99 (state_bits n))
    ∙ ap₂ (λ (ins outs : List ℕ). old ++ ((codes ".model demo\n" ++ ((codes ".inputs " ++ ins) ++ 10 ∷ [])) ++ (outs ++ 10 ∷ []))) (sym (spaced load loaded (state_bits n))) (sym (spaced (codes ".outputs") shown (state_bits n)))

box_by_words : (old f a b c d p q r s z : List ℕ) → (((old ++ f) ++ (a ++ (b ++ (c ++ (d ++ []))))) ++ (p ++ (q ++ (r ++ (s ++ []))))) ++ z ≡ old ++ ((f ++ (a ++ (b ++ (c ++ (d ++ (p ++ (q ++ (r ++ s)))))))) ++ z)
box_by_words old f a b c d p q r s z = simp (append_assoc, append-nil)

pub box_is : (j : ℕ) (old : List ℕ) → (((old ++ codes ".subckt present") ++ ports_text 105 115 j) ++ ports_text 111 98 j) ++ 10 ∷ [] ≡ old ++ box_text j
box_is j old =
    box_by_words old (codes ".subckt present") (port_text 105 115 j 0) (port_text 105 115 j 1) (port_text 105 115 j 2) (port_text 105 115 j 3)
    (port_text 111 98 j 0) (port_text 111 98 j 1) (port_text 111 98 j 2) (port_text 111 98 j 3) (10 ∷ [])

-- the choice of bit e by bit i
abbrev pub choice_said : (e i : ℕ) → List Said
choice_said e i =
    names_line (load ∷ loaded e ∷ numbered 98 i ∷ []) (next e)
    ∷ row_line (Some true ∷ Some true ∷ None ∷ []) true
    ∷ row_line (Some false ∷ None ∷ Some true ∷ []) true
    ∷ []

choice_by_words : (old p q r : List ℕ) → ((((old ++ codes ".names load") ++ 32 ∷ p) ++ 32 ∷ q) ++ 32 ∷ r) ++ codes "\n11- 1\n0-1 1\n"
    ≡ old ++ ((join_with_byte 32 (codes ".names" ∷ load ∷ p ∷ q ∷ r ∷ []) ++ 10 ∷ []) ++ (codes "11- 1\n0-1 1\n"))
choice_by_words old p q r = simp append_assoc

pub choice_is : (e i : ℕ) (old : List ℕ) → ((((old ++ codes ".names load") ++ 32 ∷ loaded e) ++ 32 ∷ numbered 98 i) ++ 32 ∷ next e) ++ codes "\n11- 1\n0-1 1\n" ≡ old ++ flat_map line_text (choice_said e i)
choice_is e i old = choice_by_words old (loaded e) (numbered 98 i) (next e)

-- ---- all lines

nested : {A : Type 0} (f : Said → List ℕ) (g : A → List Said) (xs : List A) → flat_map f (flat_map g xs) ≡ flat_map (λ x. flat_map f (g x)) xs
nested f g [] = refl
nested f g (x ∷ xs) = flat_map-append f (g x) (flat_map g xs) ∙ ap (λ (l : List ℕ). flat_map f (g x) ++ l) (nested f g xs)

spread : (a b c d : List Said) → flat_map line_text (a ++ b ++ c ++ d ++ end_line ∷ []) ≡ flat_map line_text a ++ flat_map line_text b ++ flat_map line_text c ++ flat_map line_text d ++ line_text end_line
spread a b c d =
    flat_map-append line_text (a ++ b ++ c ++ d) (end_line ∷ [])
    ∙ (ap (λ (t : List ℕ). t ++ line_text end_line) (flat_map-append line_text (a ++ b ++ c) d)
    ∙ (ap (λ (t : List ℕ). t ++ flat_map line_text d ++ line_text end_line) (flat_map-append line_text (a ++ b) c)
    ∙ ap (λ (t : List ℕ). t ++ flat_map line_text c ++ flat_map line_text d ++ line_text end_line) (flat_map-append line_text a b)))

regroup : (m i o a b c d e : List ℕ) → (m ++ i ++ o) ++ a ++ b ++ c ++ d ++ e ≡ m ++ (i ++ (o ++ (a ++ b ++ c ++ d ++ e)))
regroup m i o a b c d e = simp append_assoc

same_four : (a b c d a' b' c' d' : List ℕ) → a ≡ a' → b ≡ b' → c ≡ c' → d ≡ d' → (e : List ℕ) → a ++ b ++ c ++ d ++ e ≡ a' ++ b' ++ c' ++ d' ++ e
same_four a b c d a' b' c' d' ha hb hc hd e = cc

pub netlist_is : (n : ℕ) → head_text n ++ flat_map latch_text (state_bits n) ++ flat_map box_text (boxes n) ++ flat_map (choice_text n) (state_bits n) ++ flat_map copy_text (state_bits n) ++ codes ".end\n" ≡ demo_netlist n
netlist_is n =
    let latch_said = λ (i : ℕ). latch_line (next i) (stored i) plain (Some 0) in
    let box_said = λ (j : ℕ). subckt_line (codes "present") (box_binds j) in
    let model = line_text (model_line (codes "demo")) in
    let ins = line_text (inputs_line (load ∷ map loaded (state_bits n))) in
    let outs = line_text (outputs_line (map shown (state_bits n))) in
    let latches : List Said = map latch_said (state_bits n) in
    let placed : List Said = map box_said (boxes n) in
    let chosen : List Said = flat_map (choice_lines n) (state_bits n) in
    let copied : List Said = flat_map copy_lines (state_bits n) in
    regroup model ins outs (flat_map latch_text (state_bits n)) (flat_map box_text (boxes n)) (flat_map (choice_text n) (state_bits n)) (flat_map copy_text (state_bits n)) (codes ".end\n")
    ∙ ap (λ (t : List ℕ). model ++ (ins ++ (outs ++ t))) (sym (
    spread latches placed chosen copied
    ∙ same_four (flat_map line_text latches) (flat_map line_text placed) (flat_map line_text chosen) (flat_map line_text copied)
    (flat_map latch_text (state_bits n)) (flat_map box_text (boxes n)) (flat_map (choice_text n) (state_bits n)) (flat_map copy_text (state_bits n))
    (flat_map-map line_text latch_said (state_bits n)) (flat_map-map line_text box_said (boxes n)) (nested line_text (choice_lines n) (state_bits n)) (nested line_text copy_lines (state_bits n))
    (codes ".end\n")))
