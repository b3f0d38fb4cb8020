-- The tests that a line without a fault passes, and what that says of the line before.
use Rattle.std.proofs.Common.{◌≡◌, refl, sym, ◌∙◌, ap₂, ℕ, List, [], ◌∷◌, ◌++◌, map, length, Bool, true, false, ◌&&◌, not, Option, Some, None, ◌==◌, nat_lt}
use Rattle.std.specs.Bool.{then_some}
use Rattle.std.specs.Option.{option_or}
use Rattle.std.specs.List.{list_any}
use Rattle.std.proofs.lemmas.Bool.{and_parts, not-false, eqb-true, both_ways}
use Rattle.netlist_spec.specs.Lines.{Line, is_empty}
use Rattle.netlist_spec.specs.Netlist.{Quantity, same_name}
use Rattle.netlist_spec.specs.Statements.{Cell, Said, model_line, inputs_line, outputs_line, clock_line, names_line, row_line, latch_line, subckt_line, end_line, bit_char, cell_char, spelling, MayFollow, EachMayFollow, BeginsWithModel}
use Rattle.netlist_spec.specs.Reads.{Numbered}
use Rattle.netlist_spec.specs.ReadFaults.{ReadFault, model_kind, end_kind, row_kind, is_kind, last_line, is_kind_of_some, comes_after_end, comes_before_model, is_unknown_statement, has_wrong_count, has_long_name, has_bad_port_word, is_bad_latch, is_bad_row, is_mixed, is_model_again, passed_count, count_fault, line_fault, fault_from, open_inputs, open_rows, last_word, is_row_of, is_row_of_open, is_cells_word, is_last_word, differs_from_first}
use Rattle.netlist_spec.proofs.NoFault.{line_at, is_kind_at, MayCome, Earlier, one_more, other_kind_no, AllCome, cell_count, last_word_of}
use Rattle.netlist_spec.proofs.FirstFault.{first_passes}

-- a line that fails no test
pub record Passes (earlier : List Line) (l : Line) : Type 0 where
  pub after_end : comes_after_end earlier l ≡ false
  pub before_model : comes_before_model earlier l ≡ false
  pub unknown : is_unknown_statement l ≡ false
  pub wrong_count : has_wrong_count l ≡ false
  pub long_name : has_long_name l ≡ false
  pub port_word : has_bad_port_word l ≡ false
  pub latch : is_bad_latch l ≡ false
  pub row : is_bad_row earlier l ≡ false
  pub mixed : is_mixed earlier l ≡ false
  pub again : is_model_again earlier l ≡ false
  pub counts : passed_count earlier l ≡ None

test_passes : (b : Bool) (f : ReadFault) (rest : Option ReadFault) → option_or (then_some b f) rest ≡ None → (b ≡ false) × (rest ≡ None)
test_passes true f rest h = cc h
test_passes false f rest h = (refl, h)

count_passes : (n : ℕ) (o : Option Quantity) → count_fault n o ≡ None → o ≡ None
count_passes n None h = refl
count_passes n (Some what) h = cc h

pub line_passes : (earlier : List Line) (l : Line) → line_fault earlier l ≡ None → Passes earlier l
line_passes earlier l h =
    let a = test_passes (comes_after_end earlier l) _ _ h in
    let b = test_passes (comes_before_model earlier l) _ _ a.1 in
    let c = test_passes (is_unknown_statement l) _ _ b.1 in
    let d = test_passes (has_wrong_count l) _ _ c.1 in
    let e = test_passes (has_long_name l) _ _ d.1 in
    let f = test_passes (has_bad_port_word l) _ _ e.1 in
    let g = test_passes (is_bad_latch l) _ _ f.1 in
    let i = test_passes (is_bad_row earlier l) _ _ g.1 in
    let j = test_passes (is_mixed earlier l) _ _ i.1 in
    let k = test_passes (is_model_again earlier l) _ _ j.1 in
    record {
      after_end = a.0;
      before_model = b.0;
      unknown = c.0;
      wrong_count = d.0;
      long_name = e.0;
      port_word = f.0;
      latch = g.0;
      row = i.0;
      mixed = j.0;
      again = k.0;
      counts = count_passes l.number (passed_count earlier l) k.1;
    }

-- ---- what may come after the line before

first_is_model : (seen model : Bool) → seen ≡ false → (not seen && not model) ≡ false → model ≡ true
first_is_model true model s h = cc s
first_is_model false true s h = refl
first_is_model false false s h = cc h

model_after_end : (end model : Bool) → end ≡ true → (end && not model) ≡ false → model ≡ true
model_after_end true true e h = refl
model_after_end true false e h = cc h
model_after_end false model e h = cc e

model_begins : (n : ℕ) (s : Said) → is_kind model_kind (line_at (n, s)) ≡ true → MayCome None s
model_begins n (model_line x) h = tt
model_begins n s h = absurd (both_ways (is_kind model_kind (line_at (n, s))) (other_kind_no n s tt) h)

model_follows : (n : ℕ) (s : Said) → is_kind model_kind (line_at (n, s)) ≡ true → MayFollow end_line s
model_follows n (model_line x) h = tt
model_follows n s h = absurd (both_ways (is_kind model_kind (line_at (n, s))) (other_kind_no n s tt) h)

-- a row is one of the cover that is open
row_is_open : (earlier : List Line) (n : ℕ) (cells : List Cell) (b : Bool) (o : Option ℕ) → is_bad_row earlier (line_at (n, row_line cells b)) ≡ false → open_inputs earlier ≡ o → is_row_of_open o (spelling (row_line cells b)) ≡ true
row_is_open earlier n cells b o good cover =
    let both : (true && not (is_row_of_open o (spelling (row_line cells b)))) ≡ false =
    sym (ap₂ (λ k p. k && not (is_row_of_open p (spelling (row_line cells b)))) (is_kind_at row_kind n (row_line cells b)) cover) ∙ good in
    not-false _ both

no_row : (earlier : List Line) (n : ℕ) (cells : List Cell) (b : Bool) → open_inputs earlier ≡ None → is_bad_row earlier (line_at (n, row_line cells b)) ≡ false → ⊥
no_row earlier n cells b cover good = let e : false ≡ true = row_is_open earlier n cells b None good cover in cc e

row_length : (p : ℕ) (cells : List Cell) (b : Bool) → is_row_of p (spelling (row_line cells b)) ≡ true → length cells ≡ p
row_length p [] b h = sym (eqb-true p 0 (and_parts (p == 0) _ h).0)
row_length p (c ∷ cs) b h =
    let places = and_parts (nat_lt 0 p && is_cells_word p (map cell_char (c ∷ cs))) (is_last_word (bit_char b ∷ [])) h in
    let cells = and_parts (nat_lt 0 p) (is_cells_word p (map cell_char (c ∷ cs))) places.0 in
    let as_many = and_parts (length (map cell_char (c ∷ cs)) == p) _ cells.1 in
    sym (cell_count (c ∷ cs)) ∙ eqb-true (length (map cell_char (c ∷ cs))) p as_many.0

bits_same : (a b : Bool) → not (same_name (bit_char a ∷ []) (bit_char b ∷ [])) ≡ false → b ≡ a
bits_same true true h = refl
bits_same true false h = cc h
bits_same false true h = cc h
bits_same false false h = refl

row_last : (earlier : List Line) (n : ℕ) (cells : List Cell) (b last : Bool) (first : Line) (rest : List Line) → is_mixed earlier (line_at (n, row_line cells b)) ≡ false → open_rows earlier ≡ first ∷ rest → last_word first ≡ bit_char last ∷ [] → b ≡ last
row_last earlier n cells b last first rest good rows is_last =
    let here : differs_from_first (first ∷ rest) (line_at (n, row_line cells b)) ≡ false =
    sym (ap₂ (λ k ls. k && differs_from_first ls (line_at (n, row_line cells b))) (is_kind_at row_kind n (row_line cells b)) rows) ∙ good in
    bits_same last b (sym (ap₂ (λ v w. not (same_name v w)) is_last (last_word_of n cells b)) ∙ here)

may_come : (earlier : List Line) (prev : Option Said) (n : ℕ) (s : Said) → Earlier earlier prev → Passes earlier (line_at (n, s)) → MayCome prev s
may_come earlier None n s e p = model_begins n s (first_is_model (list_any (is_kind model_kind) earlier) _ e.seen p.before_model)
may_come earlier (Some end_line) n s e p = model_follows n s (model_after_end (is_kind_of_some end_kind (last_line earlier)) _ e.after p.after_end)
may_come earlier (Some (names_line ins out)) n (row_line cells b) e p = row_length (length ins) cells b (row_is_open earlier n cells b (Some (length ins)) p.row e.open_cover.0)
may_come earlier (Some (row_line more last)) n (row_line cells b) e p =
    let cover = e.open_cover in
    (row_length (length more) cells b (row_is_open earlier n cells b (Some (length more)) p.row cover.0), row_last earlier n cells b last cover.1 cover.2 p.mixed cover.3 cover.4)
may_come earlier (Some (model_line x)) n (row_line cells b) e p = no_row earlier n cells b e.open_cover p.row
may_come earlier (Some (inputs_line ps)) n (row_line cells b) e p = no_row earlier n cells b e.open_cover p.row
may_come earlier (Some (outputs_line ps)) n (row_line cells b) e p = no_row earlier n cells b e.open_cover p.row
may_come earlier (Some (clock_line ps)) n (row_line cells b) e p = no_row earlier n cells b e.open_cover p.row
may_come earlier (Some (latch_line d q k init)) n (row_line cells b) e p = no_row earlier n cells b e.open_cover p.row
may_come earlier (Some (subckt_line m bs)) n (row_line cells b) e p = no_row earlier n cells b e.open_cover p.row
may_come earlier (Some a) n s e p = tt

pub lines_come : (earlier : List Line) (prev : Option Said) (ns : List Numbered) → Earlier earlier prev → fault_from earlier (map line_at ns) ≡ None → AllCome prev ns
lines_come earlier prev [] e h = tt
lines_come earlier prev (n ∷ ns) e h =
    let parts = first_passes earlier (line_at n) (map line_at ns) h in
    let here : MayCome prev n.1 = may_come earlier prev n.0 n.1 e (line_passes earlier (line_at n) parts.0) in
    (here, lines_come (earlier ++ line_at n ∷ []) (Some n.1) ns (one_more earlier prev n.0 n.1 here e) parts.1)

pub lines_begin : (ns : List Numbered) → is_empty ns ≡ false → AllCome None ns → BeginsWithModel (map (λ n. n.1) ns)
lines_begin [] some h = cc some
lines_begin ((n, model_line x) ∷ ns) some h = tt
lines_begin ((n, _) ∷ ns) some h = absurd h.0

lines_behind_follow : (n : Numbered) (ns : List Numbered) → AllCome (Some n.1) ns → EachMayFollow (map (λ m. m.1) (n ∷ ns))
lines_behind_follow n [] h = tt
lines_behind_follow n (m ∷ ns) h = (h.0, lines_behind_follow m ns h.1)

pub lines_follow : (ns : List Numbered) (prev : Option Said) → AllCome prev ns → EachMayFollow (map (λ n. n.1) ns)
lines_follow [] prev h = tt
lines_follow (n ∷ ns) prev h = lines_behind_follow n ns h.1
