-- A line that passes the tests on its own words says what is computed from them.
use Rattle.std.proofs.Common.{◌≡◌, refl, sym, ◌∙◌, ap, ap₂, subst, ℕ, ◌+◌, ◌<◌, List, [], ◌∷◌, ◌++◌, map, length, drop, codes, Bool, true, false, ◌||◌, ◌&&◌, not, cond, Option, Some, None, ◌==◌, take, ◌⊎◌, inl, inr, arith, lit<}
use Rattle.std.specs.List.{AllByRecursion, list_any, list_all, flat_map}
use Rattle.std.specs.Cmp.Lexicographic.{bytes_decides}
use Rattle.std.proofs.lemmas.Bool.{and_parts, or_parts, not-false, cond_both, eqb-true, ltb-false, or_cases, or_from, both_ways}
use Rattle.netlist_spec.specs.Lines.{Word, Line, is_empty}
use Rattle.netlist_spec.specs.Netlist.{Name, IsName, same_name, edge}
use Rattle.netlist_spec.specs.Statements.{bit_char, cell_char, edge_word, control_word, bind_word, IsClocking, IsBind, Says}
use Rattle.netlist_spec.specs.ReadFaults.{Kind, model_kind, inputs_kind, outputs_kind, clock_kind, names_kind, latch_kind, subckt_kind, end_kind, other_kind, row_kind, word_kind, kind_index, names_for, parts_of, formal_part, actual_part, has_equals, is_bad_port_word, is_latch_form, is_edge_word, is_init_word, is_row_of, is_row_of_open, is_last_word, begins_with_dot, latch_names, is_kind, is_unknown_statement, has_wrong_count, has_long_name, has_bad_port_word, is_bad_latch, is_bad_row, open_inputs}
use Rattle.netlist_spec.specs.Said.{all_but_last, last_of, word_bit, char_cell, row_said, word_control, word_rises, word_init, word_bind, said_by, said_of}
use Rattle.netlist_spec.proofs.NoFault.{both_absent, is_long}

-- a word of a logical line has a byte
abbrev pub HasByte : Word → Type 0
HasByte w = is_empty w ≡ false

-- ---- the first word

-- what a kind tells of the word that has it
abbrev IsWordOf : Kind → Word → Type 0
IsWordOf model_kind w = w ≡ codes ".model"
IsWordOf inputs_kind w = w ≡ codes ".inputs"
IsWordOf outputs_kind w = w ≡ codes ".outputs"
IsWordOf clock_kind w = w ≡ codes ".clock"
IsWordOf names_kind w = w ≡ codes ".names"
IsWordOf latch_kind w = w ≡ codes ".latch"
IsWordOf subckt_kind w = w ≡ codes ".subckt"
IsWordOf end_kind w = w ≡ codes ".end"
IsWordOf other_kind w = Unit {0}
IsWordOf row_kind w = Unit {0}

is_word : (w v : Word) → same_name w v ≡ true → w ≡ v
is_word w v h = (bytes_decides w v).0 h

word_is : (w : Word) → IsWordOf (word_kind w) w
word_is w =
    cond_both (same_name w (codes ".model")) _ _ (λ k. IsWordOf k w) (is_word w (codes ".model"))
    (λ _. cond_both (same_name w (codes ".inputs")) _ _ (λ k. IsWordOf k w) (is_word w (codes ".inputs"))
    (λ _. cond_both (same_name w (codes ".outputs")) _ _ (λ k. IsWordOf k w) (is_word w (codes ".outputs"))
    (λ _. cond_both (same_name w (codes ".clock")) _ _ (λ k. IsWordOf k w) (is_word w (codes ".clock"))
    (λ _. cond_both (same_name w (codes ".names")) _ _ (λ k. IsWordOf k w) (is_word w (codes ".names"))
    (λ _. cond_both (same_name w (codes ".latch")) _ _ (λ k. IsWordOf k w) (is_word w (codes ".latch"))
    (λ _. cond_both (same_name w (codes ".subckt")) _ _ (λ k. IsWordOf k w) (is_word w (codes ".subckt"))
    (λ _. cond_both (same_name w (codes ".end")) _ _ (λ k. IsWordOf k w) (is_word w (codes ".end"))
    (λ _. cond_both (begins_with_dot w) other_kind row_kind (λ k. IsWordOf k w) (λ _. tt) (λ _. tt)))))))))

-- ---- names

name_is : (n : Name) → HasByte n → is_long n ≡ false → IsName n
name_is [] h k = cc h
name_is (c ∷ n) h k = (omega arith, ltb-false 255 (length (c ∷ n)) k)

names_are : (ns : List Name) → AllByRecursion HasByte ns → list_any is_long ns ≡ false → AllByRecursion IsName ns
names_are [] h k = tt
names_are (n ∷ ns) h k = let parts = or_parts _ _ k in (name_is n h.0 parts.0, names_are ns h.1 parts.1)

-- ---- `.model`, `.names` and `.end`

model_said : (w : Word) (ws : List Word) → w ≡ codes ".model" → AllByRecursion HasByte ws → not (length ws == 1) ≡ false → list_any is_long ws ≡ false
    → (n : ℕ) → Says (record { number = n; words = w ∷ ws }) (said_by model_kind ws (w ∷ ws))
model_said w [] is bytes one short n = cc one
model_said w (x ∷ []) is bytes one short n = (ap (λ v. v ∷ x ∷ []) is, name_is x bytes.0 (or_parts _ _ short).0)
model_said w (x ∷ y ∷ ws) is bytes one short n = let e = eqb-true (length (x ∷ y ∷ ws)) 1 (not-false _ one) in absurd (omega arith)

joined_back : (w : Word) (ws : List Word) → w ∷ ws ≡ all_but_last (w ∷ ws) ++ last_of (w ∷ ws) ∷ []
joined_back w [] = refl
joined_back w (v ∷ ws) = ap (λ vs. w ∷ vs) (joined_back v ws)

front_all : (P : Word → Type 0) (w : Word) (ws : List Word) → AllByRecursion P (w ∷ ws) → AllByRecursion P (all_but_last (w ∷ ws)) × P (last_of (w ∷ ws))
front_all P w [] h = (tt, h.0)
front_all P w (v ∷ ws) h = let rest = front_all P v ws h.1 in ((h.0, rest.0), rest.1)

cover_said : (w : Word) (ws : List Word) → w ≡ codes ".names" → AllByRecursion HasByte ws → is_empty ws ≡ false → list_any is_long ws ≡ false
    → (n : ℕ) → Says (record { number = n; words = w ∷ ws }) (said_by names_kind ws (w ∷ ws))
cover_said w [] is bytes some short n = cc some
cover_said w (x ∷ ws) is bytes some short n = (ap₂ (λ v vs. v ∷ vs) is (joined_back x ws), front_all IsName x ws (names_are (x ∷ ws) bytes short))

end_said : (w : Word) (ws : List Word) → w ≡ codes ".end" → not (is_empty ws) ≡ false → (n : ℕ) → Says (record { number = n; words = w ∷ ws }) (said_by end_kind ws (w ∷ ws))
end_said w [] is none n = (ap (λ v. v ∷ []) is, tt)
end_said w (x ∷ ws) is none n = cc none

-- ---- `.latch`

edge_is : (w : Word) → is_edge_word w ≡ true → w ≡ edge_word (word_rises w)
edge_is w h = go (or_cases _ _ h)
  where
    go : (same_name w (codes "re") ≡ true) ⊎ (same_name w (codes "fe") ≡ true) → w ≡ edge_word (word_rises w)
    go (inl e) = is_word w (codes "re") e ∙ ap edge_word (sym e)
    go (inr e) = let s : w ≡ codes "fe" = is_word w (codes "fe") e in s ∙ ap (λ v. edge_word (word_rises v)) (sym s)

control_is : (w : Word) → w ≡ control_word (word_control w)
control_is w = cond_both (same_name w (codes "NIL")) None (Some w) (λ c. w ≡ control_word c) (is_word w (codes "NIL")) (λ _. refl)

clocking_is : (w : Word) (rising : Bool) → IsName w → IsClocking (edge rising (word_control w))
clocking_is w rising h =
    cond_both (same_name w (codes "NIL")) None (Some w) (λ c. IsClocking (edge rising c)) (λ _. tt)
    (λ e. (h, λ q. both_ways _ e ((bytes_decides w (codes "NIL")).1 q)))

abbrev IsInit : Word → Type 0
IsInit w = (w ≡ (48 + word_init w) ∷ []) × (word_init w < 4)

init_at : (w v : Word) → IsInit v → same_name w v ≡ true → IsInit w
init_at w v h e = subst IsInit (sym (is_word w v e)) h

init_is : (w : Word) → is_init_word w ≡ true → IsInit w
init_is w h = go (same_name w (codes "0")) (same_name w (codes "1")) (same_name w (codes "2")) (same_name w (codes "3")) (init_at w (codes "0") (refl, lit< tt)) (init_at w (codes "1") (refl, lit< tt)) (init_at w (codes "2") (refl, lit< tt)) (init_at w (codes "3") (refl, lit< tt)) h
  where
    go : (a b c d : Bool) → (a ≡ true → IsInit w) → (b ≡ true → IsInit w) → (c ≡ true → IsInit w) → (d ≡ true → IsInit w) → (a || (b || (c || (d || false)))) ≡ true → IsInit w
    go true b c d f g i j h = f refl
    go false true c d f g i j h = g refl
    go false false true d f g i j h = i refl
    go false false false true f g i j h = j refl
    go false false false false f g i j h = cc h

latch_is : (w : Word) (ws : List Word) → w ≡ codes ".latch" → AllByRecursion HasByte ws → is_latch_form ws ≡ true → list_any is_long (latch_names ws) ≡ false
    → (n : ℕ) → Says (record { number = n; words = w ∷ ws }) (said_by latch_kind ws (w ∷ ws))
latch_is w [] is bytes form short n = cc form
latch_is w (d ∷ []) is bytes form short n = cc form
latch_is w (d ∷ q ∷ []) is bytes form short n =
    let ns = names_are (d ∷ q ∷ []) bytes short in
    (ap (λ v. v ∷ d ∷ q ∷ []) is, (ns.0, ns.1.0, tt, tt))
latch_is w (d ∷ q ∷ i ∷ []) is bytes form short n =
    let ns = names_are (d ∷ q ∷ []) (bytes.0, (bytes.1.0, tt)) short in
    let init = init_is i form in
    (ap₂ (λ v u. v ∷ d ∷ q ∷ u ∷ []) is init.0, (ns.0, ns.1.0, tt, init.1))
latch_is w (d ∷ q ∷ t ∷ c ∷ []) is bytes form short n =
    let ns = names_are (d ∷ q ∷ c ∷ []) (bytes.0, (bytes.1.0, (bytes.1.1.1.0, tt))) short in
    (ap₂ (λ v u. v ∷ d ∷ q ∷ u ∷ c ∷ []) is (edge_is t form) ∙ ap (λ u. codes ".latch" ∷ d ∷ q ∷ edge_word (word_rises t) ∷ u ∷ []) (control_is c), (ns.0, ns.1.0, clocking_is c (word_rises t) ns.1.1.0, tt))
latch_is w (d ∷ q ∷ t ∷ c ∷ i ∷ []) is bytes form short n =
    let ns = names_are (d ∷ q ∷ c ∷ []) (bytes.0, (bytes.1.0, (bytes.1.1.1.0, tt))) short in
    let parts = and_parts (is_edge_word t) (is_init_word i) form in
    let init = init_is i parts.1 in (
      ap₂ (λ v u. v ∷ d ∷ q ∷ u ∷ c ∷ i ∷ []) is (edge_is t parts.0)
          ∙ ap₂ (λ u v. codes ".latch" ∷ d ∷ q ∷ edge_word (word_rises t) ∷ u ∷ v ∷ []) (control_is c) init.0,
      (ns.0, ns.1.0, clocking_is c (word_rises t) ns.1.1.0, init.1),
    )
latch_is w (d ∷ q ∷ t ∷ c ∷ i ∷ x ∷ ws) is bytes form short n = cc form

-- ---- `.subckt`

joined_parts : (w : Word) → has_equals w ≡ true → w ≡ bind_word (word_bind w)
joined_parts [] h = cc h
joined_parts (c ∷ cs) h = go (joined_parts cs) (c == 61) refl h
  where
    go : (has_equals cs ≡ true → cs ≡ bind_word (word_bind cs)) → (b : Bool) → (c == 61) ≡ b → (b || has_equals cs) ≡ true → c ∷ cs ≡ cond b [] (c ∷ formal_part cs) ++ 61 ∷ cond b cs (actual_part cs)
    go more true e h = ap (λ x. x ∷ cs) (eqb-true c 61 e)
    go more false e h = ap (λ xs. c ∷ xs) (more h)

no_equals_before : (w : Word) → has_equals (formal_part w) ≡ false
no_equals_before [] = refl
no_equals_before (c ∷ cs) = go (no_equals_before cs) (c == 61) refl
  where
    go : has_equals (formal_part cs) ≡ false → (b : Bool) → (c == 61) ≡ b → has_equals (cond b [] (c ∷ formal_part cs)) ≡ false
    go more true e = refl
    go more false e = or_from (c == 61) _ e more

bind_is : (w : Word) → is_bad_port_word w ≡ false → list_any is_long (parts_of w) ≡ false → (w ≡ bind_word (word_bind w)) × IsBind (word_bind w)
bind_is w good short =
    let some = or_parts _ (is_empty (actual_part w)) good in
    let parts = or_parts (not (has_equals w)) (is_empty (formal_part w)) some.0 in
    let equals : has_equals w ≡ true = not-false _ parts.0 in
    let both : list_any is_long (formal_part w ∷ actual_part w ∷ []) ≡ false = subst (λ b. list_any is_long (cond b (formal_part w ∷ actual_part w ∷ []) []) ≡ false) equals short in
    let names = names_are (formal_part w ∷ actual_part w ∷ []) (parts.1, (some.1, tt)) both in
    (joined_parts w equals, (names.0, no_equals_before w, names.1.0))

binds_are : (ws : List Word) → list_any is_bad_port_word ws ≡ false → list_any is_long (flat_map parts_of ws) ≡ false → (ws ≡ map bind_word (map word_bind ws)) × AllByRecursion IsBind (map word_bind ws)
binds_are [] good short = (refl, tt)
binds_are (w ∷ ws) good short =
    let goods = or_parts _ _ good in
    let shorts = both_absent is_long (parts_of w) (flat_map parts_of ws) short in
    let here = bind_is w goods.0 shorts.0 in
    let rest = binds_are ws goods.1 shorts.1 in
    (ap₂ (λ v vs. v ∷ vs) here.0 rest.0, (here.1, rest.1))

subckt_is : (w : Word) (ws : List Word) → w ≡ codes ".subckt" → AllByRecursion HasByte ws → is_empty ws ≡ false → list_any is_long (take 1 ws ++ flat_map parts_of (drop 1 ws)) ≡ false → list_any is_bad_port_word (drop 1 ws) ≡ false
    → (n : ℕ) → Says (record { number = n; words = w ∷ ws }) (said_by subckt_kind ws (w ∷ ws))
subckt_is w [] is bytes some short good n = cc some
subckt_is w (m ∷ ws) is bytes some short good n =
    let shorts = or_parts _ _ short in
    let binds = binds_are ws good shorts.1 in
    (ap₂ (λ v vs. v ∷ m ∷ vs) is binds.0, (name_is m bytes.0 shorts.0, binds.1))

-- ---- rows

last_is : (w : Word) → is_last_word w ≡ true → w ≡ bit_char (word_bit w) ∷ []
last_is w h = go (or_cases _ _ h)
  where
    at : (v : Word) → same_name w v ≡ true → v ≡ bit_char (word_bit v) ∷ [] → w ≡ bit_char (word_bit w) ∷ []
    at v e h = subst (λ u. u ≡ bit_char (word_bit u) ∷ []) (sym (is_word w v e)) h

    go : (same_name w (codes "0") ≡ true) ⊎ (same_name w (codes "1") ≡ true) → w ≡ bit_char (word_bit w) ∷ []
    go (inl e) = at (codes "0") e refl
    go (inr e) = at (codes "1") e refl

char_is : (c : ℕ) → (((c == 48) || (c == 49)) || (c == 45)) ≡ true → c ≡ cell_char (char_cell c)
char_is c h = go (c == 48) (c == 49) (c == 45) (eqb-true c 48) (eqb-true c 49) (eqb-true c 45) h
  where
    at : (k : ℕ) → c ≡ k → k ≡ cell_char (char_cell k) → c ≡ cell_char (char_cell c)
    at k e h = subst (λ x. x ≡ cell_char (char_cell x)) (sym e) h

    go : (x y z : Bool) → (x ≡ true → c ≡ 48) → (y ≡ true → c ≡ 49) → (z ≡ true → c ≡ 45) → ((x || y) || z) ≡ true → c ≡ cell_char (char_cell c)
    go true y z f g i h = at 48 (f refl) refl
    go false true z f g i h = at 49 (g refl) refl
    go false false true f g i h = at 45 (i refl) refl
    go false false false f g i h = cc h

chars_are : (w : Word) → list_all (λ c. ((c == 48) || (c == 49)) || (c == 45)) w ≡ true → w ≡ map cell_char (map char_cell w)
chars_are [] h = refl
chars_are (c ∷ cs) h = let parts = and_parts _ _ h in ap₂ (λ x xs. x ∷ xs) (char_is c parts.0) (chars_are cs parts.1)

row_words_are : (w : Word) (ws : List Word) (p : ℕ) → HasByte w → is_row_of p (w ∷ ws) ≡ true → (n : ℕ) → Says (record { number = n; words = w ∷ ws }) (row_said (w ∷ ws))
row_words_are w [] p byte h n = (ap (λ v. v ∷ []) (last_is w (and_parts _ _ h).1), tt)
row_words_are [] (v ∷ []) p byte h n = cc byte
row_words_are (c ∷ cs) (v ∷ []) p byte h n =
    let parts = and_parts _ _ h in
    let chars = and_parts _ _ (and_parts _ _ parts.0).1 in
    (ap₂ (λ x y. x ∷ y ∷ []) (chars_are (c ∷ cs) chars.1) (last_is v parts.1), tt)
row_words_are w (v ∷ u ∷ ws) p byte h n = cc h

row_is : (w : Word) (ws : List Word) (o : Option ℕ) → HasByte w → is_row_of_open o (w ∷ ws) ≡ true → (n : ℕ) → Says (record { number = n; words = w ∷ ws }) (row_said (w ∷ ws))
row_is w ws None byte h n = cc h
row_is w ws (Some p) byte h n = row_words_are w ws p byte h n

-- ---- all kinds

says_by : (k : Kind) (n : ℕ) (w : Word) (ws : List Word) (o : Option ℕ) → IsWordOf k w → HasByte w → AllByRecursion HasByte ws
    → (kind_index k == 8) ≡ false
    → (((((kind_index k == 0) && not (length ws == 1)) || ((kind_index k == 4) && is_empty ws)) || ((kind_index k == 6) && is_empty ws)) || ((kind_index k == 7) && not (is_empty ws))) ≡ false
    → list_any is_long (names_for k ws) ≡ false
    → ((kind_index k == 6) && list_any is_bad_port_word (drop 1 ws)) ≡ false
    → ((kind_index k == 5) && not (is_latch_form ws)) ≡ false
    → ((kind_index k == 9) && not (is_row_of_open o (w ∷ ws))) ≡ false
    → Says (record { number = n; words = w ∷ ws }) (said_by k ws (w ∷ ws))
says_by model_kind n w ws o is byte bytes known count short ports latch row = model_said w ws is bytes (or_parts _ _ (or_parts _ _ (or_parts _ _ count).0).0).0 short n
says_by inputs_kind n w ws o is byte bytes known count short ports latch row = (ap (λ v. v ∷ ws) is, names_are ws bytes short)
says_by outputs_kind n w ws o is byte bytes known count short ports latch row = (ap (λ v. v ∷ ws) is, names_are ws bytes short)
says_by clock_kind n w ws o is byte bytes known count short ports latch row = (ap (λ v. v ∷ ws) is, names_are ws bytes short)
says_by names_kind n w ws o is byte bytes known count short ports latch row = cover_said w ws is bytes (or_parts _ _ (or_parts _ _ count).0).0 short n
says_by latch_kind n w ws o is byte bytes known count short ports latch row = latch_is w ws is bytes (not-false _ latch) short n
says_by subckt_kind n w ws o is byte bytes known count short ports latch row = subckt_is w ws is bytes (or_parts _ _ count).0 short ports n
says_by end_kind n w ws o is byte bytes known count short ports latch row = end_said w ws is count n
says_by other_kind n w ws o is byte bytes known count short ports latch row = cc known
says_by row_kind n w ws o is byte bytes known count short ports latch row = row_is w ws o byte (not-false _ row) n

-- what a logical line's words are
pub record HasWords (l : Line) : Type 0 where
  pub some : is_empty l.words ≡ false
  pub bytes : AllByRecursion HasByte l.words

-- A line that fails none of the tests on its words says what is computed from them.
pub says_said : (earlier : List Line) (l : Line) → HasWords l → is_unknown_statement l ≡ false → has_wrong_count l ≡ false → has_long_name l ≡ false → has_bad_port_word l ≡ false → is_bad_latch l ≡ false → is_bad_row earlier l ≡ false → Says l (said_of l)
says_said earlier l h known count short ports latch row = go l.number l.words h.some h.bytes known count short ports latch row
  where
    go : (n : ℕ) (ws : List Word) → is_empty ws ≡ false → AllByRecursion HasByte ws → let l : Line = record { number = n; words = ws } in is_unknown_statement l ≡ false → has_wrong_count l ≡ false → has_long_name l ≡ false → has_bad_port_word l ≡ false → is_bad_latch l ≡ false → (is_kind row_kind l && not (is_row_of_open (open_inputs earlier) ws)) ≡ false → Says l (said_of l)
    go n [] some bytes known count short ports latch row = cc some
    go n (w ∷ ws) some bytes known count short ports latch row = says_by (word_kind w) n w ws (open_inputs earlier) (word_is w) bytes.0 bytes.1 known count short ports latch row
