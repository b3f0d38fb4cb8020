-- A text that says a file has no fault.
use Rattle.std.proofs.Common.{◌≡◌, refl, sym, ◌∙◌, ap, ap₂, subst, ℕ, zero, suc, ◌+◌, ◌-◌, ◌<◌, ◌≤◌, List, [], ◌∷◌, ◌++◌, map, length, drop, Bool, true, false, ◌||◌, ◌&&◌, not, cond, Option, Some, None, ◌==◌, nat_lt, arith, length-append, eq-eqb, lit≤}
use Rattle.std.specs.Prelude.{IfSome, filter, fold, sum_by, count_by}
use Rattle.std.specs.List.{AllByRecursion, AllZip, list_any, list_all, flat_map, last_or}
use Rattle.std.specs.Bool.{then_some}
use Rattle.std.specs.Option.{option_or}
use Rattle.std.specs.Cmp.Lexicographic.{bytes_decides}
use Rattle.netlist_spec.specs.Lines.{Word, Line, logical_lines, is_empty}
use Rattle.netlist_spec.specs.Netlist.{Quantity, Port, names, latch, subckt, Name, IsName, same_name, stands_in, are_distinct, Clocking, plain, edge, Bind, File}
use Rattle.netlist_spec.specs.Statements.{BeginsWithModel, Cell, Said, model_line, inputs_line, outputs_line, clock_line, names_line, row_line, latch_line, subckt_line, end_line, bit_char, cell_char, bind_word, clocking_words, init_words, spelling, IsClocking, IsBind, IsStatement, Says, MayFollow, EachMayFollow}
use Rattle.netlist_spec.specs.Reads.{Numbered, cover_of, rows_at, models_of, model_of, model_body, statements_in, inputs_in, outputs_in, clocks_in, ports_at, latch_count_of, IsNarrow, IsWithinModelLimits, IsWithinLimits, Reads}
use Rattle.netlist_spec.specs.ReadFaults.{Kind, model_kind, inputs_kind, outputs_kind, clock_kind, names_kind, latch_kind, subckt_kind, end_kind, other_kind, row_kind, kind_of, kind_index, is_kind, last_line, is_kind_of_some, comes_after_end, comes_before_model, is_unknown_statement, has_wrong_count, has_long_name, has_bad_port_word, is_bad_latch, is_bad_row, is_mixed, is_model_again, passed_count, count_fault, line_fault, fault_from, read_fault, ReadFault, no_model, arguments, lines_behind, names_for, latch_names, parts_of, formal_part, actual_part, has_equals, is_bad_port_word, is_latch_form, is_init_word, open_inputs, open_rows, inputs_of_cover, last_word, is_row_of, is_row_of_open, is_last_word, differs_from_first, model_names, names_declared, lines_of_model, is_statement}
use Rattle.netlist_spec.proofs.OneReading.{row_kind_of, before_back, after_back}

-- the line that spells something
abbrev pub line_at : Numbered → Line
line_at n = record { number = n.0; words = spelling n.1 }

pub lines_are : (lines : List Line) (ns : List Numbered) → AllZip (λ line n. (line.number ≡ n.0) × Says line n.1) lines ns → lines ≡ map line_at ns
lines_are [] [] h = refl
lines_are [] (n ∷ ns) h = absurd h
lines_are (l ∷ ls) [] h = absurd h
lines_are (l ∷ ls) (n ∷ ns) h = λ i. record { number = h.0.0 i; words = h.0.1.0 i } ∷ lines_are ls ns h.1 i

-- ---- what a line's first word says

abbrev pub said_kind : Said → Kind
said_kind (model_line n) = model_kind
said_kind (inputs_line ps) = inputs_kind
said_kind (outputs_line ps) = outputs_kind
said_kind (clock_line ps) = clock_kind
said_kind (names_line ins out) = names_kind
said_kind (row_line cells b) = row_kind
said_kind (latch_line d q k init) = latch_kind
said_kind (subckt_line m bs) = subckt_kind
said_kind end_line = end_kind

kind_at : (n : ℕ) (s : Said) → kind_of (line_at (n, s)) ≡ said_kind s
kind_at n (model_line x) = refl
kind_at n (inputs_line ps) = refl
kind_at n (outputs_line ps) = refl
kind_at n (clock_line ps) = refl
kind_at n (names_line ins out) = refl
kind_at n (row_line [] true) = refl
kind_at n (row_line [] false) = refl
kind_at n (row_line (c ∷ cs) b) = row_kind_of c (map cell_char cs)
kind_at n (latch_line d q k init) = refl
kind_at n (subckt_line m bs) = refl
kind_at n end_line = refl

pub is_kind_at : (k : Kind) (n : ℕ) (s : Said) → is_kind k (line_at (n, s)) ≡ (kind_index (said_kind s) == kind_index k)
is_kind_at k n s = ap (λ j. kind_index j == kind_index k) (kind_at n s)

and_false : (a : Bool) → (a && false) ≡ false
and_false true = refl
and_false false = refl

pub or_both : (a b : Bool) → a ≡ false → b ≡ false → (a || b) ≡ false
or_both true b h k = cc h
or_both false b h k = k

-- ---- tests of the line alone

unknown_no : (n : ℕ) (s : Said) → is_unknown_statement (line_at (n, s)) ≡ false
unknown_no n s = is_kind_at other_kind n s ∙ go s
  where
    go : (s : Said) → (kind_index (said_kind s) == 8) ≡ false
    go (model_line x) = refl
    go (inputs_line ps) = refl
    go (outputs_line ps) = refl
    go (clock_line ps) = refl
    go (names_line ins out) = refl
    go (row_line cells b) = refl
    go (latch_line d q k init) = refl
    go (subckt_line m bs) = refl
    go end_line = refl

-- a line of rows is of no statement
pub row_is_no : (k : Kind) (n : ℕ) (cells : List Cell) (b : Bool) → (9 == kind_index k) ≡ false → is_kind k (line_at (n, row_line cells b)) ≡ false
row_is_no k n cells b h = is_kind_at k n (row_line cells b) ∙ h

pub not_empty_end : (ws : List Word) (w : Word) → is_empty (ws ++ w ∷ []) ≡ false
not_empty_end [] w = refl
not_empty_end (v ∷ ws) w = refl

count_no : (n : ℕ) (s : Said) → has_wrong_count (line_at (n, s)) ≡ false
count_no n (model_line x) = refl
count_no n (inputs_line ps) = refl
count_no n (outputs_line ps) = refl
count_no n (clock_line ps) = refl
count_no n (names_line ins out) = or_both _ _ (or_both _ _ (not_empty_end ins out) refl) refl
count_no n (row_line cells b) =
    let l : Line = line_at (n, row_line cells b) in
    or_both _ _
    (or_both _ _
    (or_both _ _
    (ap (λ k. k && not (length (arguments l) == 1)) (row_is_no model_kind n cells b refl))
    (ap (λ k. k && is_empty (arguments l)) (row_is_no names_kind n cells b refl)))
    (ap (λ k. k && is_empty (arguments l)) (row_is_no subckt_kind n cells b refl)))
    (ap (λ k. k && not (is_empty (arguments l))) (row_is_no end_kind n cells b refl))
count_no n (latch_line d q k init) = refl
count_no n (subckt_line m bs) = refl
count_no n end_line = refl

short : (n : ℕ) → n ≤ 255 → nat_lt 255 n ≡ false
short n h = grind arith

all_short : (ns : List Name) → AllByRecursion IsName ns → list_any (λ n. nat_lt 255 (length n)) ns ≡ false
all_short [] h = refl
all_short (n ∷ ns) h = or_both _ _ (short (length n) h.0.1) (all_short ns h.1)

any_append : (p : Word → Bool) (xs ys : List Word) → list_any p xs ≡ false → list_any p ys ≡ false → list_any p (xs ++ ys) ≡ false
any_append p [] ys h k = k
any_append p (x ∷ xs) ys h k = let parts = both_false (p x) _ h in or_both _ _ parts.0 (any_append p xs ys parts.1 k)
  where
    both_false : (a b : Bool) → (a || b) ≡ false → (a ≡ false) × (b ≡ false)
    both_false true b h = cc h
    both_false false b h = (refl, h)

abbrev pub is_long : Name → Bool
is_long n = nat_lt 255 (length n)

or_true : (a b : Bool) → b ≡ true → (a || b) ≡ true
or_true true b h = refl
or_true false b h = h

-- a port word has its formal and its actual as parts
pub cut_at : (f a : Name) → has_equals (f ++ 61 ∷ a) ≡ true
cut_at [] a = refl
cut_at (c ∷ cs) a = or_true (c == 61) _ (cut_at cs a)

parts_at : (b : Bind) → IsBind b → parts_of (bind_word b) ≡ b.formal ∷ b.actual ∷ []
parts_at b h =
    ap (λ e. cond e (formal_part (bind_word b) ∷ actual_part (bind_word b) ∷ []) []) (cut_at b.formal b.actual)
    ∙ ap₂ (λ f a. f ∷ a ∷ []) (before_back b.formal b.actual h.1) (after_back b.formal b.actual h.1)

binds_short : (bs : List Bind) → AllByRecursion IsBind bs → list_any is_long (flat_map parts_of (map bind_word bs)) ≡ false
binds_short [] h = refl
binds_short (b ∷ bs) h =
    any_append is_long (parts_of (bind_word b)) (flat_map parts_of (map bind_word bs))
    (ap (λ ns. list_any is_long ns) (parts_at b h.0) ∙ or_both _ _ (short (length b.formal) h.0.0.1) (or_both _ _ (short (length b.actual) h.0.2.1) refl))
    (binds_short bs h.1)

all_snoc : (P : Name → Type 0) (ns : List Name) (n : Name) → AllByRecursion P ns → P n → AllByRecursion P (ns ++ n ∷ [])
all_snoc P [] n a p = (p, tt)
all_snoc P (m ∷ ns) n a p = (a.0, all_snoc P ns n a.1 p)

latch_short : (d q : Name) (k : Clocking) (init : Option ℕ) → IsName d → IsName q → IsClocking k → list_any is_long (latch_names (d ∷ q ∷ (clocking_words k ++ init_words init))) ≡ false
latch_short d q plain None hd hq h = or_both _ _ (short (length d) hd.1) (or_both _ _ (short (length q) hq.1) refl)
latch_short d q plain (Some n) hd hq h = or_both _ _ (short (length d) hd.1) (or_both _ _ (short (length q) hq.1) refl)
latch_short d q (edge r None) None hd hq h = or_both _ _ (short (length d) hd.1) (or_both _ _ (short (length q) hq.1) refl)
latch_short d q (edge r None) (Some n) hd hq h = or_both _ _ (short (length d) hd.1) (or_both _ _ (short (length q) hq.1) refl)
latch_short d q (edge r (Some c)) None hd hq h = or_both _ _ (short (length d) hd.1) (or_both _ _ (short (length q) hq.1) (or_both _ _ (short (length c) h.0.1) refl))
latch_short d q (edge r (Some c)) (Some n) hd hq h = or_both _ _ (short (length d) hd.1) (or_both _ _ (short (length q) hq.1) (or_both _ _ (short (length c) h.0.1) refl))

long_no : (n : ℕ) (s : Said) → IsStatement s → has_long_name (line_at (n, s)) ≡ false
long_no n (model_line x) h = or_both _ _ (short (length x) h.1) refl
long_no n (inputs_line ps) h = all_short ps h
long_no n (outputs_line ps) h = all_short ps h
long_no n (clock_line ps) h = all_short ps h
long_no n (names_line ins out) h = all_short (ins ++ out ∷ []) (all_snoc IsName ins out h.0 h.1)
long_no n (row_line cells b) h = ap (λ k. list_any is_long (names_for k (arguments (line_at (n, row_line cells b))))) (kind_at n (row_line cells b))
long_no n (latch_line d q k init) h = latch_short d q k init h.0 h.1 h.2
long_no n (subckt_line m bs) h = or_both _ _ (short (length m) h.0.1) (binds_short bs h.1)
long_no n end_line h = refl

not_empty : (f : Name) → 0 < length f → is_empty f ≡ false
not_empty [] h = absurd (omega arith)
not_empty (c ∷ cs) h = refl

port_word_good : (b : Bind) → IsBind b → is_bad_port_word (bind_word b) ≡ false
port_word_good b h =
    or_both _ _
    (or_both _ _ (ap not (cut_at b.formal b.actual)) (ap is_empty (before_back b.formal b.actual h.1) ∙ not_empty b.formal h.0.0))
    (ap is_empty (after_back b.formal b.actual h.1) ∙ not_empty b.actual h.2.0)

port_words_good : (bs : List Bind) → AllByRecursion IsBind bs → list_any is_bad_port_word (map bind_word bs) ≡ false
port_words_good [] h = refl
port_words_good (b ∷ bs) h = or_both _ _ (port_word_good b h.0) (port_words_good bs h.1)

ports_no : (n : ℕ) (s : Said) → IsStatement s → has_bad_port_word (line_at (n, s)) ≡ false
ports_no n (model_line x) h = refl
ports_no n (inputs_line ps) h = refl
ports_no n (outputs_line ps) h = refl
ports_no n (clock_line ps) h = refl
ports_no n (names_line ins out) h = refl
ports_no n (row_line cells b) h = ap (λ k. k && list_any is_bad_port_word (drop 1 (arguments (line_at (n, row_line cells b))))) (row_is_no subckt_kind n cells b refl)
ports_no n (latch_line d q k init) h = refl
ports_no n (subckt_line m bs) h = port_words_good bs h.1
ports_no n end_line h = refl

init_good : (n : ℕ) → n < 4 → is_init_word ((48 + n) ∷ []) ≡ true
init_good zero h = refl
init_good (suc zero) h = refl
init_good (suc (suc zero)) h = refl
init_good (suc (suc (suc zero))) h = refl
init_good (suc (suc (suc (suc n)))) h = absurd (omega arith)

latch_form : (d q : Name) (k : Clocking) (init : Option ℕ) → IfSome init (λ n. n < 4) → is_latch_form (d ∷ q ∷ (clocking_words k ++ init_words init)) ≡ true
latch_form d q plain None h = refl
latch_form d q plain (Some n) h = init_good n h
latch_form d q (edge true c) None h = refl
latch_form d q (edge false c) None h = refl
latch_form d q (edge true c) (Some n) h = init_good n h
latch_form d q (edge false c) (Some n) h = init_good n h

latch_no : (n : ℕ) (s : Said) → IsStatement s → is_bad_latch (line_at (n, s)) ≡ false
latch_no n (model_line x) h = refl
latch_no n (inputs_line ps) h = refl
latch_no n (outputs_line ps) h = refl
latch_no n (clock_line ps) h = refl
latch_no n (names_line ins out) h = refl
latch_no n (row_line cells b) h = ap (λ k. k && not (is_latch_form (arguments (line_at (n, row_line cells b))))) (row_is_no latch_kind n cells b refl)
latch_no n (latch_line d q k init) h = ap not (latch_form d q k init h.3)
latch_no n (subckt_line m bs) h = refl
latch_no n end_line h = refl

-- ---- one line more at the end

pub any_snoc : {A : Type 0} (p : A → Bool) (xs : List A) (x : A) → list_any p (xs ++ x ∷ []) ≡ (list_any p xs || p x)
any_snoc p [] x = or_false (p x)
  where
    or_false : (a : Bool) → (a || false) ≡ a
    or_false true = refl
    or_false false = refl
any_snoc p (y ∷ ys) x = ap (λ b. p y || b) (any_snoc p ys x) ∙ assoc (p y)
  where
    assoc : (a : Bool) → (a || (list_any p ys || p x)) ≡ ((a || list_any p ys) || p x)
    assoc true = refl
    assoc false = refl

pub last_snoc : {A : Type 0} (o : Option A) (xs : List A) (x : A) → last_or o (xs ++ x ∷ []) ≡ Some x
last_snoc o [] x = refl
last_snoc o (y ∷ ys) x = last_snoc (Some y) ys x

pub filter_keeps : (p : Line → Bool) (xs : List Line) (x : Line) → p x ≡ true → filter p (xs ++ x ∷ []) ≡ filter p xs ++ x ∷ []
filter_keeps p [] x h = ap (λ b. cond b (x ∷ []) []) h
filter_keeps p (y ∷ ys) x h = ap (λ zs. cond (p y) (y ∷ zs) zs) (filter_keeps p ys x h) ∙ push (p y)
  where
    push : (b : Bool) → cond b (y ∷ (filter p ys ++ x ∷ [])) (filter p ys ++ x ∷ []) ≡ cond b (y ∷ filter p ys) (filter p ys) ++ x ∷ []
    push true = refl
    push false = refl

pub filter_drops : (p : Line → Bool) (xs : List Line) (x : Line) → p x ≡ false → filter p (xs ++ x ∷ []) ≡ filter p xs
filter_drops p [] x h = ap (λ b. cond b (x ∷ []) []) h
filter_drops p (y ∷ ys) x h = ap (λ zs. cond (p y) (y ∷ zs) zs) (filter_drops p ys x h)

pub behind_hit : (p : Line → Bool) (xs : List Line) (x : Line) → p x ≡ true → lines_behind p (xs ++ x ∷ []) ≡ []
behind_hit p [] x h = ap (λ b. cond b [] (x ∷ [])) h
behind_hit p (y ∷ ys) x h =
    ap (λ b. cond b (lines_behind p (ys ++ x ∷ [])) (cond (p y) (ys ++ x ∷ []) (y ∷ (ys ++ x ∷ [])))) (any_snoc p ys x ∙ or_true (list_any p ys) (p x) h)
    ∙ behind_hit p ys x h

pub behind_miss : (p : Line → Bool) (xs : List Line) (x : Line) → p x ≡ false → lines_behind p (xs ++ x ∷ []) ≡ lines_behind p xs ++ x ∷ []
behind_miss p [] x h = ap (λ b. cond b [] (x ∷ [])) h
behind_miss p (y ∷ ys) x h =
    ap (λ b. cond b (lines_behind p (ys ++ x ∷ [])) (cond (p y) (ys ++ x ∷ []) (y ∷ (ys ++ x ∷ [])))) (any_snoc p ys x ∙ (ap (λ b. list_any p ys || b) h ∙ or_nothing (list_any p ys)))
    ∙ go (list_any p ys) (p y) (behind_miss p ys x h)
  where
    or_nothing : (a : Bool) → (a || false) ≡ a
    or_nothing true = refl
    or_nothing false = refl

    go : (a b : Bool) → lines_behind p (ys ++ x ∷ []) ≡ lines_behind p ys ++ x ∷ [] → cond a (lines_behind p (ys ++ x ∷ [])) (cond b (ys ++ x ∷ []) (y ∷ (ys ++ x ∷ []))) ≡ cond a (lines_behind p ys) (cond b ys (y ∷ ys)) ++ x ∷ []
    go true b e = e
    go false true e = refl
    go false false e = refl

-- ---- what the lines before say of the line that may come

abbrev pub is_end : Option Said → Bool
is_end (Some end_line) = true
is_end _ = false

abbrev pub is_any : Option Said → Bool
is_any None = false
is_any (Some a) = true

abbrev pub MayCome : Option Said → Said → Type 0
MayCome None (model_line x) = Unit {0}
MayCome None _ = ⊥
MayCome (Some a) s = MayFollow a s

-- where a cover may go on: its inputs, and the last character of its first row; elsewhere no cover is open
abbrev pub IsOpen : Option Said → List Line → Type 0
IsOpen (Some (names_line ins out)) earlier = (open_inputs earlier ≡ Some (length ins)) × (open_rows earlier ≡ [])
IsOpen (Some (row_line cells last)) earlier =
    (open_inputs earlier ≡ Some (length cells)) × (first : Line) × (rest : List Line) × (open_rows earlier ≡ first ∷ rest) × (last_word first ≡ bit_char last ∷ [])
IsOpen _ earlier = open_inputs earlier ≡ None

pub record Earlier (earlier : List Line) (prev : Option Said) : Type 0 where
  pub after : is_kind_of_some end_kind (last_line earlier) ≡ is_end prev
  pub seen : list_any (is_kind model_kind) earlier ≡ is_any prev
  pub open_cover : IsOpen prev earlier

pub nothing_yet : Earlier [] None
nothing_yet = record { after = refl; seen = refl; open_cover = refl }

is_not_row : Line → Bool
is_not_row l = not (is_kind row_kind l)

pub last_word_of : (n : ℕ) (cells : List Cell) (b : Bool) → last_word (line_at (n, row_line cells b)) ≡ bit_char b ∷ []
last_word_of n [] b = refl
last_word_of n (c ∷ cs) b = refl

row_is_row : (n : ℕ) (cells : List Cell) (b : Bool) → is_kind row_kind (line_at (n, row_line cells b)) ≡ true
row_is_row n cells b = is_kind_at row_kind n (row_line cells b)

open_after_names : (earlier : List Line) (n : ℕ) (ins : List Name) (out : Name) → IsOpen (Some (names_line ins out)) (earlier ++ line_at (n, names_line ins out) ∷ [])
open_after_names earlier n ins out = (
  ap (λ ls. inputs_of_cover (last_line ls)) (filter_keeps (λ l. not (is_kind row_kind l)) earlier (line_at (n, names_line ins out)) refl)
      ∙ (ap inputs_of_cover (last_snoc None (filter (λ l. not (is_kind row_kind l)) earlier) (line_at (n, names_line ins out)))
      ∙ ap Some (let e = length-append ins (out ∷ []) in omega arith)),
  behind_hit (λ l. not (is_kind row_kind l)) earlier (line_at (n, names_line ins out)) refl,
)

inputs_stay : (earlier : List Line) (n : ℕ) (cells : List Cell) (b : Bool) → open_inputs (earlier ++ line_at (n, row_line cells b) ∷ []) ≡ open_inputs earlier
inputs_stay earlier n cells b =
    ap (λ ls. inputs_of_cover (last_line ls)) (filter_drops (λ l. not (is_kind row_kind l)) earlier (line_at (n, row_line cells b)) (ap not (row_is_row n cells b)))

rows_grow : (earlier : List Line) (n : ℕ) (cells : List Cell) (b : Bool) → open_rows (earlier ++ line_at (n, row_line cells b) ∷ []) ≡ open_rows earlier ++ line_at (n, row_line cells b) ∷ []
rows_grow earlier n cells b = behind_miss (λ l. not (is_kind row_kind l)) earlier (line_at (n, row_line cells b)) (ap not (row_is_row n cells b))

open_after_row : (earlier : List Line) (prev : Option Said) (n : ℕ) (cells : List Cell) (b : Bool) → MayCome prev (row_line cells b) → IsOpen prev earlier → IsOpen (Some (row_line cells b)) (earlier ++ line_at (n, row_line cells b) ∷ [])
open_after_row earlier None n cells b h o = absurd h
open_after_row earlier (Some (names_line ins out)) n cells b h o = (
  inputs_stay earlier n cells b ∙ (o.0 ∙ ap Some (sym h)),
  line_at (n, row_line cells b),
  [],
  rows_grow earlier n cells b ∙ ap (λ ls. ls ++ line_at (n, row_line cells b) ∷ []) o.1,
  last_word_of n cells b,
)
open_after_row earlier (Some (row_line more last)) n cells b h o = (
  inputs_stay earlier n cells b ∙ (o.0 ∙ ap Some (sym h.0)),
  o.1,
  o.2 ++ line_at (n, row_line cells b) ∷ [],
  rows_grow earlier n cells b ∙ ap (λ ls. ls ++ line_at (n, row_line cells b) ∷ []) o.3,
  o.4 ∙ ap (λ c. bit_char c ∷ []) (sym h.1),
)
open_after_row earlier (Some (model_line x)) n cells b h o = absurd h
open_after_row earlier (Some (inputs_line ps)) n cells b h o = absurd h
open_after_row earlier (Some (outputs_line ps)) n cells b h o = absurd h
open_after_row earlier (Some (clock_line ps)) n cells b h o = absurd h
open_after_row earlier (Some (latch_line d q k init)) n cells b h o = absurd h
open_after_row earlier (Some (subckt_line m bs)) n cells b h o = absurd h
open_after_row earlier (Some end_line) n cells b h o = absurd h

none_open : (earlier : List Line) (l : Line) → is_kind row_kind l ≡ false → is_kind names_kind l ≡ false → open_inputs (earlier ++ l ∷ []) ≡ None
none_open earlier l no_row no_names =
    ap (λ ls. inputs_of_cover (last_line ls)) (filter_keeps (λ k. not (is_kind row_kind k)) earlier l (ap not no_row))
    ∙ (ap inputs_of_cover (last_snoc None (filter (λ k. not (is_kind row_kind k)) earlier) l)
    ∙ ap (λ b. cond b (Some (length (arguments l) - 1)) None) no_names)

open_after : (earlier : List Line) (prev : Option Said) (n : ℕ) (s : Said) → MayCome prev s → IsOpen prev earlier → IsOpen (Some s) (earlier ++ line_at (n, s) ∷ [])
open_after earlier prev n (names_line ins out) h o = open_after_names earlier n ins out
open_after earlier prev n (row_line cells b) h o = open_after_row earlier prev n cells b h o
open_after earlier prev n (model_line x) h o = none_open earlier (line_at (n, model_line x)) refl refl
open_after earlier prev n (inputs_line ps) h o = none_open earlier (line_at (n, inputs_line ps)) refl refl
open_after earlier prev n (outputs_line ps) h o = none_open earlier (line_at (n, outputs_line ps)) refl refl
open_after earlier prev n (clock_line ps) h o = none_open earlier (line_at (n, clock_line ps)) refl refl
open_after earlier prev n (latch_line d q k init) h o = none_open earlier (line_at (n, latch_line d q k init)) refl refl
open_after earlier prev n (subckt_line m bs) h o = none_open earlier (line_at (n, subckt_line m bs)) refl refl
open_after earlier prev n end_line h o = none_open earlier (line_at (n, end_line)) refl refl

end_kind_is : (s : Said) → (kind_index (said_kind s) == 7) ≡ is_end (Some s)
end_kind_is (model_line x) = refl
end_kind_is (inputs_line ps) = refl
end_kind_is (outputs_line ps) = refl
end_kind_is (clock_line ps) = refl
end_kind_is (names_line ins out) = refl
end_kind_is (row_line cells b) = refl
end_kind_is (latch_line d q k init) = refl
end_kind_is (subckt_line m bs) = refl
end_kind_is end_line = refl

-- the first line is `.model`
first_is_model : (prev : Option Said) (n : ℕ) (s : Said) → MayCome prev s → (a : Bool) → a ≡ is_any prev → (a || is_kind model_kind (line_at (n, s))) ≡ true
first_is_model (Some p) n s h a e = ap (λ c. c || is_kind model_kind (line_at (n, s))) e
first_is_model None n (model_line x) h a e = or_true a true refl
first_is_model None n _ h a e = absurd h

pub one_more : (earlier : List Line) (prev : Option Said) (n : ℕ) (s : Said) → MayCome prev s → Earlier earlier prev → Earlier (earlier ++ line_at (n, s) ∷ []) (Some s)
one_more earlier prev n s h e =
    record {
      after = ap (is_kind_of_some end_kind) (last_snoc None earlier (line_at (n, s))) ∙ (is_kind_at end_kind n s ∙ end_kind_is s);
      seen = any_snoc (is_kind model_kind) earlier (line_at (n, s)) ∙ first_is_model prev n s h (list_any (is_kind model_kind) earlier) e.seen;
      open_cover = open_after earlier prev n s h e.open_cover;
    }

-- ---- tests that rest on the lines before

after_end_no : (earlier : List Line) (prev : Option Said) (n : ℕ) (s : Said) → MayCome prev s → is_kind_of_some end_kind (last_line earlier) ≡ is_end prev → comes_after_end earlier (line_at (n, s)) ≡ false
after_end_no earlier (Some end_line) n (model_line x) h a = and_false _
after_end_no earlier (Some end_line) n _ h a = absurd h
after_end_no earlier _ n s h a = ap (λ c. c && not (is_kind model_kind (line_at (n, s)))) a

before_model_no : (earlier : List Line) (prev : Option Said) (n : ℕ) (s : Said) → MayCome prev s → list_any (is_kind model_kind) earlier ≡ is_any prev → comes_before_model earlier (line_at (n, s)) ≡ false
before_model_no earlier (Some p) n s h a = ap (λ c. not c && not (is_kind model_kind (line_at (n, s)))) a
before_model_no earlier None n (model_line x) h a = and_false _
before_model_no earlier None n _ h a = absurd h

cell_good : (c : Cell) → (((cell_char c == 48) || (cell_char c == 49)) || (cell_char c == 45)) ≡ true
cell_good None = refl
cell_good (Some true) = refl
cell_good (Some false) = refl

and_both : (a b : Bool) → a ≡ true → b ≡ true → (a && b) ≡ true
and_both true b h k = k
and_both false b h k = h

cells_good : (cs : List Cell) → list_all (λ c. ((c == 48) || (c == 49)) || (c == 45)) (map cell_char cs) ≡ true
cells_good [] = refl
cells_good (c ∷ cs) = and_both _ _ (cell_good c) (cells_good cs)

last_good : (b : Bool) → is_last_word (bit_char b ∷ []) ≡ true
last_good true = refl
last_good false = refl

pub cell_count : (cs : List Cell) → length (map cell_char cs) ≡ length cs
cell_count [] = refl
cell_count (c ∷ cs) = ap suc (cell_count cs)

as_many : (cs : List Cell) → (length (map cell_char cs) == length cs) ≡ true
as_many cs = eq-eqb (length (map cell_char cs)) (length cs) (cell_count cs)

some_places : (n : ℕ) → nat_lt 0 (suc n) ≡ true
some_places n = grind arith

row_good : (cells : List Cell) (b : Bool) → is_row_of (length cells) (spelling (row_line cells b)) ≡ true
row_good [] b = last_good b
row_good (c ∷ cs) b = and_both _ _ (and_both _ _ (some_places (length cs)) (and_both _ _ (as_many (c ∷ cs)) (cells_good (c ∷ cs)))) (last_good b)

row_no : (earlier : List Line) (prev : Option Said) (n : ℕ) (s : Said) → MayCome prev s → IsOpen prev earlier → is_bad_row earlier (line_at (n, s)) ≡ false
row_no earlier prev n (row_line cells b) h o =
    ap (λ p. is_kind row_kind (line_at (n, row_line cells b)) && not (is_row_of_open p (spelling (row_line cells b)))) (inputs_are prev h o)
    ∙ (ap (λ c. is_kind row_kind (line_at (n, row_line cells b)) && not c) (row_good cells b) ∙ and_false _)
  where
    inputs_are : (prev : Option Said) → MayCome prev (row_line cells b) → IsOpen prev earlier → open_inputs earlier ≡ Some (length cells)
    inputs_are (Some (names_line ins out)) h o = o.0 ∙ ap Some (sym h)
    inputs_are (Some (row_line more last)) h o = o.0 ∙ ap Some (sym h.0)
    inputs_are (Some (model_line x)) h o = absurd h
    inputs_are (Some (inputs_line ps)) h o = absurd h
    inputs_are (Some (outputs_line ps)) h o = absurd h
    inputs_are (Some (clock_line ps)) h o = absurd h
    inputs_are (Some (latch_line d q k init)) h o = absurd h
    inputs_are (Some (subckt_line m bs)) h o = absurd h
    inputs_are (Some end_line) h o = absurd h
    inputs_are None h o = absurd h
row_no earlier prev n (model_line x) h o = refl
row_no earlier prev n (inputs_line ps) h o = refl
row_no earlier prev n (outputs_line ps) h o = refl
row_no earlier prev n (clock_line ps) h o = refl
row_no earlier prev n (names_line ins out) h o = refl
row_no earlier prev n (latch_line d q k init) h o = refl
row_no earlier prev n (subckt_line m bs) h o = refl
row_no earlier prev n end_line h o = refl

same_bit : (b : Bool) → same_name (bit_char b ∷ []) (bit_char b ∷ []) ≡ true
same_bit true = refl
same_bit false = refl

mixed_no : (earlier : List Line) (prev : Option Said) (n : ℕ) (s : Said) → MayCome prev s → IsOpen prev earlier → is_mixed earlier (line_at (n, s)) ≡ false
mixed_no earlier prev n (row_line cells b) h o =
    ap (λ c. is_kind row_kind (line_at (n, row_line cells b)) && c) (differs_no prev h o) ∙ and_false _
  where
    differs_no : (prev : Option Said) → MayCome prev (row_line cells b) → IsOpen prev earlier → differs_from_first (open_rows earlier) (line_at (n, row_line cells b)) ≡ false
    differs_no (Some (names_line ins out)) h o = ap (λ ls. differs_from_first ls (line_at (n, row_line cells b))) o.1
    differs_no (Some (row_line more last)) h o =
        ap (λ ls. differs_from_first ls (line_at (n, row_line cells b))) o.3
        ∙ (ap₂ (λ v w. not (same_name v w)) (o.4 ∙ ap (λ c. bit_char c ∷ []) (sym h.1)) (last_word_of n cells b) ∙ ap not (same_bit b))
    differs_no (Some (model_line x)) h o = absurd h
    differs_no (Some (inputs_line ps)) h o = absurd h
    differs_no (Some (outputs_line ps)) h o = absurd h
    differs_no (Some (clock_line ps)) h o = absurd h
    differs_no (Some (latch_line d q k init)) h o = absurd h
    differs_no (Some (subckt_line m bs)) h o = absurd h
    differs_no (Some end_line) h o = absurd h
    differs_no None h o = absurd h
mixed_no earlier prev n (model_line x) h o = refl
mixed_no earlier prev n (inputs_line ps) h o = refl
mixed_no earlier prev n (outputs_line ps) h o = refl
mixed_no earlier prev n (clock_line ps) h o = refl
mixed_no earlier prev n (names_line ins out) h o = refl
mixed_no earlier prev n (latch_line d q k init) h o = refl
mixed_no earlier prev n (subckt_line m bs) h o = refl
mixed_no earlier prev n end_line h o = refl

-- the name of a model that a line begins
abbrev names_said : Said → List Name
names_said (model_line x) = x ∷ []
names_said _ = []

again_no : (earlier : List Line) (n : ℕ) (s : Said) → AllByRecursion (λ y. stands_in y (model_names earlier) ≡ false) (names_said s) → is_model_again earlier (line_at (n, s)) ≡ false
again_no earlier n (model_line x) h = or_both _ _ h.0 refl
again_no earlier n (inputs_line ps) h = refl
again_no earlier n (outputs_line ps) h = refl
again_no earlier n (clock_line ps) h = refl
again_no earlier n (names_line ins out) h = refl
again_no earlier n (row_line cells b) h = ap (λ k. k && list_any (λ y. stands_in y (model_names earlier)) (arguments (line_at (n, row_line cells b)))) (row_is_no model_kind n cells b refl)
again_no earlier n (latch_line d q k init) h = refl
again_no earlier n (subckt_line m bs) h = refl
again_no earlier n end_line h = refl

-- ---- counts

fold_shift : {A : Type 0} (f : A → ℕ) (a : ℕ) (xs : List A) → fold (λ n x. n + f x) a xs ≡ a + sum_by f xs
fold_shift f a [] = omega arith
fold_shift f a (x ∷ xs) = let e = fold_shift f (a + f x) xs in let g = fold_shift f (0 + f x) xs in omega arith

pub sum_cons : {A : Type 0} (f : A → ℕ) (x : A) (xs : List A) → sum_by f (x ∷ xs) ≡ f x + sum_by f xs
sum_cons f x xs = let e = fold_shift f (0 + f x) xs in omega arith

pub sum_snoc : {A : Type 0} (f : A → ℕ) (xs : List A) (x : A) → sum_by f (xs ++ x ∷ []) ≡ sum_by f xs + f x
sum_snoc f [] x = omega arith
sum_snoc f (y ∷ ys) x =
    let e = sum_cons f y (ys ++ x ∷ []) in let g = sum_cons f y ys in let h = sum_snoc f ys x in omega arith

-- what one line declares
abbrev pub declares : Kind → Line → ℕ
declares k l = cond (is_kind k l) (length (arguments l)) 0

abbrev pub counts : (Line → Bool) → Line → ℕ
counts p l = cond (p l) 1 0

below : (m n : ℕ) → n ≤ m → nat_lt m n ≡ false
below m n h = grind arith

skip : {A : Type 0} (a x : Bool) (found : Option A) (rest : Option A) → a ≡ false → cond (a && x) found rest ≡ rest
skip true x found rest h = cc h
skip false x found rest h = refl

skip_small : {A : Type 0} (a x : Bool) (found : Option A) (rest : Option A) → x ≡ false → cond (a && x) found rest ≡ rest
skip_small true true found rest h = cc h
skip_small true false found rest h = refl
skip_small false x found rest h = refl

port_count : (n : ℕ) (ps : List Name) → length (ports_at n ps) ≡ length ps
port_count n [] = refl
port_count n (p ∷ ps) = ap suc (port_count n ps)

-- the counts of the lines before and of the lines that are left are within the limits
pub record Room (earlier : List Line) (rest : List Numbered) : Type 0 where
  pub inputs : names_declared inputs_kind (lines_of_model earlier) + length (flat_map inputs_in (model_body rest)) ≤ 131072
  pub outputs : names_declared outputs_kind (lines_of_model earlier) + length (flat_map outputs_in (model_body rest)) ≤ 131072
  pub clocks : names_declared clock_kind (lines_of_model earlier) + length (flat_map clocks_in (model_body rest)) ≤ 131072
  pub latches : count_by (is_kind latch_kind) (lines_of_model earlier) + sum_by (λ s. latch_count_of s.what) (statements_in (model_body rest)) ≤ 131072
  pub statements : count_by is_statement earlier + (length (statements_in (model_body rest)) + sum_by (λ m. length m.statements) (models_of rest)) ≤ 2000000
  pub covers : AllByRecursion (λ s. IsNarrow s.what) (statements_in (model_body rest))
  pub later : AllByRecursion IsWithinModelLimits (models_of rest)

-- what a line adds to the counts of its model
behind_line : (earlier : List Line) (n : ℕ) (s : Said) → is_kind model_kind (line_at (n, s)) ≡ false → lines_of_model (earlier ++ line_at (n, s) ∷ []) ≡ lines_of_model earlier ++ line_at (n, s) ∷ []
behind_line earlier n s h = behind_miss (is_kind model_kind) earlier (line_at (n, s)) h

pub declared_more : (k : Kind) (earlier : List Line) (n : ℕ) (s : Said) → is_kind model_kind (line_at (n, s)) ≡ false → names_declared k (lines_of_model (earlier ++ line_at (n, s) ∷ [])) ≡ names_declared k (lines_of_model earlier) + declares k (line_at (n, s))
declared_more k earlier n s h = ap (names_declared k) (behind_line earlier n s h) ∙ sum_snoc (declares k) (lines_of_model earlier) (line_at (n, s))

pub counted_more : (p : Line → Bool) (earlier : List Line) (n : ℕ) (s : Said) → is_kind model_kind (line_at (n, s)) ≡ false → count_by p (lines_of_model (earlier ++ line_at (n, s) ∷ [])) ≡ count_by p (lines_of_model earlier) + counts p (line_at (n, s))
counted_more p earlier n s h = ap (count_by p) (behind_line earlier n s h) ∙ sum_snoc (counts p) (lines_of_model earlier) (line_at (n, s))

pub all_counted_more : (p : Line → Bool) (earlier : List Line) (l : Line) → count_by p (earlier ++ l ∷ []) ≡ count_by p earlier + counts p l
all_counted_more p earlier l = sum_snoc (counts p) earlier l

all_small : (a b c d e f : Bool) → a ≡ false → b ≡ false → c ≡ false → d ≡ false → e ≡ false → f ≡ false
    → cond a (Some Quantity.cover_inputs) (cond b (Some Quantity.model_inputs) (cond c (Some Quantity.model_outputs) (cond d (Some Quantity.model_clocks) (cond e (Some Quantity.model_latches) (cond f (Some Quantity.file_statements) None))))) ≡ None
all_small false false false false false false ha hb hc hd he hf = refl
all_small true b c d e f ha hb hc hd he hf = cc ha
all_small false true c d e f ha hb hc hd he hf = cc hb
all_small false false true d e f ha hb hc hd he hf = cc hc
all_small false false false true e f ha hb hc hd he hf = cc hd
all_small false false false false true f ha hb hc hd he hf = cc he
all_small false false false false false true ha hb hc hd he hf = cc hf

and_first : (a x : Bool) → a ≡ false → (a && x) ≡ false
and_first true x h = cc h
and_first false x h = refl

and_second : (a x : Bool) → x ≡ false → (a && x) ≡ false
and_second true x h = h
and_second false x h = refl

abbrev pub IsOther : Said → Type 0
IsOther (model_line x) = ⊥
IsOther _ = Unit {0}

pub other_kind_no : (n : ℕ) (s : Said) → IsOther s → is_kind model_kind (line_at (n, s)) ≡ false
other_kind_no n (model_line x) h = absurd h
other_kind_no n (inputs_line ps) h = refl
other_kind_no n (outputs_line ps) h = refl
other_kind_no n (clock_line ps) h = refl
other_kind_no n (names_line ins out) h = refl
other_kind_no n (row_line cells b) h = row_is_no model_kind n cells b refl
other_kind_no n (latch_line d q k init) h = refl
other_kind_no n (subckt_line m bs) h = refl
other_kind_no n end_line h = refl

pub body_step : (n : ℕ) (s : Said) (rest : List Numbered) → IsOther s → model_body ((n, s) ∷ rest) ≡ (n, s) ∷ model_body rest
body_step n (model_line x) rest h = absurd h
body_step n (inputs_line ps) rest h = refl
body_step n (outputs_line ps) rest h = refl
body_step n (clock_line ps) rest h = refl
body_step n (names_line ins out) rest h = refl
body_step n (row_line cells b) rest h = refl
body_step n (latch_line d q k init) rest h = refl
body_step n (subckt_line m bs) rest h = refl
body_step n end_line rest h = refl

pub models_step : (n : ℕ) (s : Said) (rest : List Numbered) → IsOther s → models_of ((n, s) ∷ rest) ≡ models_of rest
models_step n (model_line x) rest h = absurd h
models_step n (inputs_line ps) rest h = refl
models_step n (outputs_line ps) rest h = refl
models_step n (clock_line ps) rest h = refl
models_step n (names_line ins out) rest h = refl
models_step n (row_line cells b) rest h = refl
models_step n (latch_line d q k init) rest h = refl
models_step n (subckt_line m bs) rest h = refl
models_step n end_line rest h = refl

row_declares : (k : Kind) (n : ℕ) (cells : List Cell) (b : Bool) → (9 == kind_index k) ≡ false → declares k (line_at (n, row_line cells b)) ≡ 0
row_declares k n cells b h = ap (λ c. cond c (length (arguments (line_at (n, row_line cells b)))) 0) (row_is_no k n cells b h)

pub inputs_said : (n : ℕ) (s : Said) → declares inputs_kind (line_at (n, s)) ≡ length (inputs_in (n, s))
inputs_said n (model_line x) = refl
inputs_said n (inputs_line ps) = sym (port_count n ps)
inputs_said n (outputs_line ps) = refl
inputs_said n (clock_line ps) = refl
inputs_said n (names_line ins out) = refl
inputs_said n (row_line cells b) = row_declares inputs_kind n cells b refl
inputs_said n (latch_line d q k init) = refl
inputs_said n (subckt_line m bs) = refl
inputs_said n end_line = refl

pub outputs_said : (n : ℕ) (s : Said) → declares outputs_kind (line_at (n, s)) ≡ length (outputs_in (n, s))
outputs_said n (model_line x) = refl
outputs_said n (inputs_line ps) = refl
outputs_said n (outputs_line ps) = sym (port_count n ps)
outputs_said n (clock_line ps) = refl
outputs_said n (names_line ins out) = refl
outputs_said n (row_line cells b) = row_declares outputs_kind n cells b refl
outputs_said n (latch_line d q k init) = refl
outputs_said n (subckt_line m bs) = refl
outputs_said n end_line = refl

pub clocks_said : (n : ℕ) (s : Said) → declares clock_kind (line_at (n, s)) ≡ length (clocks_in (n, s))
clocks_said n (model_line x) = refl
clocks_said n (inputs_line ps) = refl
clocks_said n (outputs_line ps) = refl
clocks_said n (clock_line ps) = sym (port_count n ps)
clocks_said n (names_line ins out) = refl
clocks_said n (row_line cells b) = row_declares clock_kind n cells b refl
clocks_said n (latch_line d q k init) = refl
clocks_said n (subckt_line m bs) = refl
clocks_said n end_line = refl

row_counts : (k : Kind) (n : ℕ) (cells : List Cell) (b : Bool) → (9 == kind_index k) ≡ false → counts (is_kind k) (line_at (n, row_line cells b)) ≡ 0
row_counts k n cells b h = ap (λ c. cond c 1 0) (row_is_no k n cells b h)

row_no_statement : (n : ℕ) (cells : List Cell) (b : Bool) → is_statement (line_at (n, row_line cells b)) ≡ false
row_no_statement n cells b = or_both _ _ (or_both _ _ (row_is_no names_kind n cells b refl) (row_is_no latch_kind n cells b refl)) (row_is_no subckt_kind n cells b refl)

pub latches_said : (n : ℕ) (s : Said) (rest : List Numbered) → sum_by (λ t. latch_count_of t.what) (statements_in ((n, s) ∷ rest)) ≡ counts (is_kind latch_kind) (line_at (n, s)) + sum_by (λ t. latch_count_of t.what) (statements_in rest)
latches_said n (model_line x) rest = omega arith
latches_said n (inputs_line ps) rest = omega arith
latches_said n (outputs_line ps) rest = omega arith
latches_said n (clock_line ps) rest = omega arith
latches_said n (names_line ins out) rest = sum_cons (λ t. latch_count_of t.what) (record { line = n; what = names ins out (cover_of (rows_at rest)) }) (statements_in rest)
latches_said n (row_line cells b) rest = let e = row_counts latch_kind n cells b refl in omega arith
latches_said n (latch_line d q k init) rest = sum_cons (λ t. latch_count_of t.what) (record { line = n; what = latch d q k init }) (statements_in rest)
latches_said n (subckt_line m bs) rest = sum_cons (λ t. latch_count_of t.what) (record { line = n; what = subckt m bs }) (statements_in rest)
latches_said n end_line rest = omega arith

pub statements_said : (n : ℕ) (s : Said) (rest : List Numbered) → length (statements_in ((n, s) ∷ rest)) ≡ counts is_statement (line_at (n, s)) + length (statements_in rest)
statements_said n (model_line x) rest = omega arith
statements_said n (inputs_line ps) rest = omega arith
statements_said n (outputs_line ps) rest = omega arith
statements_said n (clock_line ps) rest = omega arith
statements_said n (names_line ins out) rest = omega arith
statements_said n (row_line cells b) rest = let e : counts is_statement (line_at (n, row_line cells b)) ≡ 0 = ap (λ c. cond c 1 0) (row_no_statement n cells b) in omega arith
statements_said n (latch_line d q k init) rest = omega arith
statements_said n (subckt_line m bs) rest = omega arith
statements_said n end_line rest = omega arith

covers_said : (n : ℕ) (s : Said) (rest : List Numbered) → AllByRecursion (λ t. IsNarrow t.what) (statements_in ((n, s) ∷ rest)) → AllByRecursion (λ t. IsNarrow t.what) (statements_in rest)
covers_said n (model_line x) rest a = a
covers_said n (inputs_line ps) rest a = a
covers_said n (outputs_line ps) rest a = a
covers_said n (clock_line ps) rest a = a
covers_said n (names_line ins out) rest a = a.1
covers_said n (row_line cells b) rest a = a
covers_said n (latch_line d q k init) rest a = a.1
covers_said n (subckt_line m bs) rest a = a.1
covers_said n end_line rest a = a

port_room : (k : Kind) (f : Numbered → List Port) (earlier : List Line) (n : ℕ) (s : Said) (rest : List Numbered) → IsOther s → declares k (line_at (n, s)) ≡ length (f (n, s))
    → names_declared k (lines_of_model earlier) + length (flat_map f (model_body ((n, s) ∷ rest))) ≤ 131072
    → names_declared k (lines_of_model (earlier ++ line_at (n, s) ∷ [])) + length (flat_map f (model_body rest)) ≤ 131072
port_room k f earlier n s rest o d h =
    let e : names_declared k (lines_of_model (earlier ++ line_at (n, s) ∷ [])) ≡ names_declared k (lines_of_model earlier) + declares k (line_at (n, s)) = declared_more k earlier n s (other_kind_no n s o) in
    let g : length (flat_map f (model_body ((n, s) ∷ rest))) ≡ length (f (n, s)) + length (flat_map f (model_body rest)) =
    ap (λ b. length (flat_map f b)) (body_step n s rest o) ∙ length-append (f (n, s)) (flat_map f (model_body rest)) in
    omega arith

room_other : (earlier : List Line) (n : ℕ) (s : Said) (rest : List Numbered) → IsOther s → Room earlier ((n, s) ∷ rest) → Room (earlier ++ line_at (n, s) ∷ []) rest
room_other earlier n s rest o r =
    record {
      inputs = port_room inputs_kind inputs_in earlier n s rest o (inputs_said n s) r.inputs;
      outputs = port_room outputs_kind outputs_in earlier n s rest o (outputs_said n s) r.outputs;
      clocks = port_room clock_kind clocks_in earlier n s rest o (clocks_said n s) r.clocks;
      latches =
          let e : count_by (is_kind latch_kind) (lines_of_model (earlier ++ line_at (n, s) ∷ [])) ≡ count_by (is_kind latch_kind) (lines_of_model earlier) + counts (is_kind latch_kind) (line_at (n, s)) = counted_more (is_kind latch_kind) earlier n s (other_kind_no n s o) in
          let g : sum_by (λ t. latch_count_of t.what) (statements_in (model_body ((n, s) ∷ rest))) ≡ counts (is_kind latch_kind) (line_at (n, s)) + sum_by (λ t. latch_count_of t.what) (statements_in (model_body rest)) =
          ap (λ b. sum_by (λ t. latch_count_of t.what) (statements_in b)) (body_step n s rest o) ∙ latches_said n s (model_body rest) in
          let h = r.latches in
          omega arith;
      statements =
          let e : count_by is_statement (earlier ++ line_at (n, s) ∷ []) ≡ count_by is_statement earlier + counts is_statement (line_at (n, s)) = all_counted_more is_statement earlier (line_at (n, s)) in
          let g : length (statements_in (model_body ((n, s) ∷ rest))) ≡ counts is_statement (line_at (n, s)) + length (statements_in (model_body rest)) =
          ap (λ b. length (statements_in b)) (body_step n s rest o) ∙ statements_said n s (model_body rest) in
          let m : sum_by (λ m. length m.statements) (models_of ((n, s) ∷ rest)) ≡ sum_by (λ m. length m.statements) (models_of rest) = ap (sum_by (λ m. length m.statements)) (models_step n s rest o) in
          let h = r.statements in
          omega arith;
      covers = covers_said n s (model_body rest) (subst (λ b. AllByRecursion (λ t. IsNarrow t.what) (statements_in b)) (body_step n s rest o) r.covers);
      later = subst (AllByRecursion IsWithinModelLimits) (models_step n s rest o) r.later;
    }

pub fresh_lines : (earlier : List Line) (n : ℕ) (x : Name) → lines_of_model (earlier ++ line_at (n, model_line x) ∷ []) ≡ []
fresh_lines earlier n x = behind_hit (is_kind model_kind) earlier (line_at (n, model_line x)) refl

room_model : (earlier : List Line) (n : ℕ) (x : Name) (rest : List Numbered) → Room earlier ((n, model_line x) ∷ rest) → Room (earlier ++ line_at (n, model_line x) ∷ []) rest
room_model earlier n x rest r =
    record {
      inputs = let e : names_declared inputs_kind (lines_of_model (earlier ++ line_at (n, model_line x) ∷ [])) ≡ 0 = ap (names_declared inputs_kind) (fresh_lines earlier n x) in let h = r.later.0.inputs in omega arith;
      outputs = let e : names_declared outputs_kind (lines_of_model (earlier ++ line_at (n, model_line x) ∷ [])) ≡ 0 = ap (names_declared outputs_kind) (fresh_lines earlier n x) in let h = r.later.0.outputs in omega arith;
      clocks = let e : names_declared clock_kind (lines_of_model (earlier ++ line_at (n, model_line x) ∷ [])) ≡ 0 = ap (names_declared clock_kind) (fresh_lines earlier n x) in let h = r.later.0.clocks in omega arith;
      latches = let e : count_by (is_kind latch_kind) (lines_of_model (earlier ++ line_at (n, model_line x) ∷ [])) ≡ 0 = ap (count_by (is_kind latch_kind)) (fresh_lines earlier n x) in let h = r.later.0.latches in omega arith;
      statements =
          let e : count_by is_statement (earlier ++ line_at (n, model_line x) ∷ []) ≡ count_by is_statement earlier + 0 = all_counted_more is_statement earlier (line_at (n, model_line x)) in
          let g : sum_by (λ m. length m.statements) (models_of ((n, model_line x) ∷ rest)) ≡ length (statements_in (model_body rest)) + sum_by (λ m. length m.statements) (models_of rest) =
          sum_cons (λ m. length m.statements) (model_of n x (model_body rest)) (models_of rest) in
          let h : count_by is_statement earlier + (0 + sum_by (λ m. length m.statements) (models_of ((n, model_line x) ∷ rest))) ≤ 2000000 = r.statements in
          omega arith;
      covers = r.later.0.covers;
      later = r.later.1;
    }

-- no count is passed
cover_small : (n : ℕ) (s : Said) (rest : List Numbered) → IsOther s → AllByRecursion (λ t. IsNarrow t.what) (statements_in (model_body ((n, s) ∷ rest))) → (is_kind names_kind (line_at (n, s)) && nat_lt 16 (length (arguments (line_at (n, s))) - 1)) ≡ false
cover_small n (model_line x) rest o a = absurd o
cover_small n (inputs_line ps) rest o a = refl
cover_small n (outputs_line ps) rest o a = refl
cover_small n (clock_line ps) rest o a = refl
cover_small n (names_line ins out) rest o a =
    let e : length (ins ++ out ∷ []) ≡ length ins + 1 = length-append ins (out ∷ []) in
    let h : length ins ≤ 16 = a.0 in
    below 16 (length (ins ++ out ∷ []) - 1) (omega arith)
cover_small n (row_line cells b) rest o a = and_first _ _ (row_is_no names_kind n cells b refl)
cover_small n (latch_line d q k init) rest o a = refl
cover_small n (subckt_line m bs) rest o a = refl
cover_small n end_line rest o a = refl

port_small : (k : Kind) (f : Numbered → List Port) (earlier : List Line) (n : ℕ) (s : Said) (rest : List Numbered) → IsOther s → declares k (line_at (n, s)) ≡ length (f (n, s))
    → names_declared k (lines_of_model earlier) + length (flat_map f (model_body ((n, s) ∷ rest))) ≤ 131072
    → nat_lt 131072 (names_declared k (lines_of_model earlier ++ line_at (n, s) ∷ [])) ≡ false
port_small k f earlier n s rest o d h =
    let e : names_declared k (lines_of_model earlier ++ line_at (n, s) ∷ []) ≡ names_declared k (lines_of_model earlier) + declares k (line_at (n, s)) = sum_snoc (declares k) (lines_of_model earlier) (line_at (n, s)) in
    let g : length (flat_map f (model_body ((n, s) ∷ rest))) ≡ length (f (n, s)) + length (flat_map f (model_body rest)) =
    ap (λ b. length (flat_map f b)) (body_step n s rest o) ∙ length-append (f (n, s)) (flat_map f (model_body rest)) in
    below 131072 (names_declared k (lines_of_model earlier ++ line_at (n, s) ∷ [])) (omega arith)

latch_small : (earlier : List Line) (n : ℕ) (s : Said) (rest : List Numbered) → IsOther s → Room earlier ((n, s) ∷ rest) → nat_lt 131072 (count_by (is_kind latch_kind) (lines_of_model earlier ++ line_at (n, s) ∷ [])) ≡ false
latch_small earlier n s rest o r =
    let e : count_by (is_kind latch_kind) (lines_of_model earlier ++ line_at (n, s) ∷ []) ≡ count_by (is_kind latch_kind) (lines_of_model earlier) + counts (is_kind latch_kind) (line_at (n, s)) = sum_snoc (counts (is_kind latch_kind)) (lines_of_model earlier) (line_at (n, s)) in
    let g : sum_by (λ t. latch_count_of t.what) (statements_in (model_body ((n, s) ∷ rest))) ≡ counts (is_kind latch_kind) (line_at (n, s)) + sum_by (λ t. latch_count_of t.what) (statements_in (model_body rest)) =
    ap (λ b. sum_by (λ t. latch_count_of t.what) (statements_in b)) (body_step n s rest o) ∙ latches_said n s (model_body rest) in
    let h = r.latches in
    below 131072 (count_by (is_kind latch_kind) (lines_of_model earlier ++ line_at (n, s) ∷ [])) (omega arith)

statement_small : (earlier : List Line) (n : ℕ) (s : Said) (rest : List Numbered) → IsOther s → Room earlier ((n, s) ∷ rest) → nat_lt 2000000 (count_by is_statement (earlier ++ line_at (n, s) ∷ [])) ≡ false
statement_small earlier n s rest o r =
    let e : count_by is_statement (earlier ++ line_at (n, s) ∷ []) ≡ count_by is_statement earlier + counts is_statement (line_at (n, s)) = all_counted_more is_statement earlier (line_at (n, s)) in
    let g : length (statements_in (model_body ((n, s) ∷ rest))) ≡ counts is_statement (line_at (n, s)) + length (statements_in (model_body rest)) =
    ap (λ b. length (statements_in b)) (body_step n s rest o) ∙ statements_said n s (model_body rest) in
    let h = r.statements in
    below 2000000 (count_by is_statement (earlier ++ line_at (n, s) ∷ [])) (omega arith)

counts_other : (earlier : List Line) (n : ℕ) (s : Said) (rest : List Numbered) → IsOther s → Room earlier ((n, s) ∷ rest) → passed_count earlier (line_at (n, s)) ≡ None
counts_other earlier n s rest o r =
    all_small _ _ _ _ _ _ (cover_small n s rest o r.covers)
    (and_second _ _ (port_small inputs_kind inputs_in earlier n s rest o (inputs_said n s) r.inputs))
    (and_second _ _ (port_small outputs_kind outputs_in earlier n s rest o (outputs_said n s) r.outputs))
    (and_second _ _ (port_small clock_kind clocks_in earlier n s rest o (clocks_said n s) r.clocks))
    (and_second _ _ (latch_small earlier n s rest o r))
    (and_second _ _ (statement_small earlier n s rest o r))

counts_no : (earlier : List Line) (n : ℕ) (s : Said) (rest : List Numbered) → Room earlier ((n, s) ∷ rest) → passed_count earlier (line_at (n, s)) ≡ None
counts_no earlier n (model_line x) rest r = all_small _ _ _ _ _ _ refl refl refl refl refl refl
counts_no earlier n (inputs_line ps) rest r = counts_other earlier n (inputs_line ps) rest tt r
counts_no earlier n (outputs_line ps) rest r = counts_other earlier n (outputs_line ps) rest tt r
counts_no earlier n (clock_line ps) rest r = counts_other earlier n (clock_line ps) rest tt r
counts_no earlier n (names_line ins out) rest r = counts_other earlier n (names_line ins out) rest tt r
counts_no earlier n (row_line cells b) rest r = counts_other earlier n (row_line cells b) rest tt r
counts_no earlier n (latch_line d q k init) rest r = counts_other earlier n (latch_line d q k init) rest tt r
counts_no earlier n (subckt_line m bs) rest r = counts_other earlier n (subckt_line m bs) rest tt r
counts_no earlier n end_line rest r = counts_other earlier n end_line rest tt r

room_step : (earlier : List Line) (n : ℕ) (s : Said) (rest : List Numbered) → Room earlier ((n, s) ∷ rest) → Room (earlier ++ line_at (n, s) ∷ []) rest
room_step earlier n (model_line x) rest r = room_model earlier n x rest r
room_step earlier n (inputs_line ps) rest r = room_other earlier n (inputs_line ps) rest tt r
room_step earlier n (outputs_line ps) rest r = room_other earlier n (outputs_line ps) rest tt r
room_step earlier n (clock_line ps) rest r = room_other earlier n (clock_line ps) rest tt r
room_step earlier n (names_line ins out) rest r = room_other earlier n (names_line ins out) rest tt r
room_step earlier n (row_line cells b) rest r = room_other earlier n (row_line cells b) rest tt r
room_step earlier n (latch_line d q k init) rest r = room_other earlier n (latch_line d q k init) rest tt r
room_step earlier n (subckt_line m bs) rest r = room_other earlier n (subckt_line m bs) rest tt r
room_step earlier n end_line rest r = room_other earlier n end_line rest tt r

-- ---- the names of the models that are left

abbrev pub left_names : List Numbered → List Name
left_names rest = map (λ m. m.name) (models_of rest)

abbrev pub Unused : List Line → List Name → Type 0
Unused earlier ns = AllByRecursion (λ y. stands_in y (model_names earlier) ≡ false) ns

head_unused : (earlier : List Line) (n : ℕ) (s : Said) (rest : List Numbered) → Unused earlier (left_names ((n, s) ∷ rest)) → AllByRecursion (λ y. stands_in y (model_names earlier) ≡ false) (names_said s)
head_unused earlier n (model_line x) rest u = (u.0, tt)
head_unused earlier n (inputs_line ps) rest u = tt
head_unused earlier n (outputs_line ps) rest u = tt
head_unused earlier n (clock_line ps) rest u = tt
head_unused earlier n (names_line ins out) rest u = tt
head_unused earlier n (row_line cells b) rest u = tt
head_unused earlier n (latch_line d q k init) rest u = tt
head_unused earlier n (subckt_line m bs) rest u = tt
head_unused earlier n end_line rest u = tt

pub both_absent : (p : Name → Bool) (xs ys : List Name) → list_any p (xs ++ ys) ≡ false → (list_any p xs ≡ false) × (list_any p ys ≡ false)
both_absent p [] ys h = (refl, h)
both_absent p (x ∷ xs) ys h =
    let parts = first_absent (p x) _ h in
    let rest = both_absent p xs ys parts.1 in
    (or_both _ _ parts.0 rest.0, rest.1)
  where
    first_absent : (a b : Bool) → (a || b) ≡ false → (a ≡ false) × (b ≡ false)
    first_absent true b h = cc h
    first_absent false b h = (refl, h)

flat_absent : (f : Line → List Name) (p : Name → Bool) (xs : List Line) (l : Line) → list_any p (flat_map f xs) ≡ false → list_any p (f l) ≡ false → list_any p (flat_map f (xs ++ l ∷ [])) ≡ false
flat_absent f p [] l h k = any_append p (f l) [] k refl
flat_absent f p (x ∷ xs) l h k =
    let parts = both_absent p (f x) (flat_map f xs) h in
    any_append p (f x) (flat_map f (xs ++ l ∷ [])) parts.0 (flat_absent f p xs l parts.1 k)

-- what a line adds to the names of the models
abbrev pub new_names : Line → List Name
new_names l = cond (is_kind model_kind l) (arguments l) []

still_unused : (earlier : List Line) (l : Line) (ns : List Name) → Unused earlier ns → AllByRecursion (λ y. stands_in y (new_names l) ≡ false) ns → Unused (earlier ++ l ∷ []) ns
still_unused earlier l [] u k = tt
still_unused earlier l (y ∷ ns) u k = (flat_absent new_names (same_name y) earlier l u.0 k.0, still_unused earlier l ns u.1 k.1)

nothing_new : (l : Line) (ns : List Name) → is_kind model_kind l ≡ false → AllByRecursion (λ y. stands_in y (new_names l) ≡ false) ns
nothing_new l [] h = tt
nothing_new l (y ∷ ns) h = (ap (λ c. stands_in y (cond c (arguments l) [])) h, nothing_new l ns h)

pub other_way : (x y : Name) → same_name x y ≡ false → same_name y x ≡ false
other_way x y h = go (same_name y x) refl
  where
    go : (b : Bool) → same_name y x ≡ b → b ≡ false
    go true e = absurd (clash (same_name x x) ((bytes_decides x x).1 refl) (ap (same_name x) (sym ((bytes_decides y x).0 e)) ∙ h))
      where
        clash : (c : Bool) → c ≡ true → c ≡ false → ⊥
        clash true t f = cc f
        clash false t f = cc t
    go false e = refl

one_new : (n : ℕ) (x : Name) (ns : List Name) → stands_in x ns ≡ false → AllByRecursion (λ y. stands_in y (new_names (line_at (n, model_line x))) ≡ false) ns
one_new n x [] h = tt
one_new n x (y ∷ ns) h =
    let parts = first_absent (same_name x y) _ h in
    (or_both _ _ (other_way x y parts.0) refl, one_new n x ns parts.1)
  where
    first_absent : (a b : Bool) → (a || b) ≡ false → (a ≡ false) × (b ≡ false)
    first_absent true b h = cc h
    first_absent false b h = (refl, h)

abbrev pub Names : List Line → List Numbered → Type 0
Names earlier rest = Unused earlier (left_names rest) × (are_distinct (left_names rest) ≡ true)

names_other : (earlier : List Line) (n : ℕ) (s : Said) (rest : List Numbered) → IsOther s → Names earlier ((n, s) ∷ rest) → Names (earlier ++ line_at (n, s) ∷ []) rest
names_other earlier n s rest o h =
    let same : left_names ((n, s) ∷ rest) ≡ left_names rest = ap (map (λ m. m.name)) (models_step n s rest o) in (
      still_unused earlier (line_at (n, s)) (left_names rest) (subst (Unused earlier) same h.0) (nothing_new (line_at (n, s)) (left_names rest) (other_kind_no n s o)),
      ap are_distinct (sym same) ∙ h.1,
    )

names_model : (earlier : List Line) (n : ℕ) (x : Name) (rest : List Numbered) → Names earlier ((n, model_line x) ∷ rest) → Names (earlier ++ line_at (n, model_line x) ∷ []) rest
names_model earlier n x rest h =
    let parts = both_hold (not (stands_in x (left_names rest))) (are_distinct (left_names rest)) h.1 in
    (still_unused earlier (line_at (n, model_line x)) (left_names rest) h.0.1 (one_new n x (left_names rest) (turn _ parts.0)), parts.1)
  where
    both_hold : (a b : Bool) → (a && b) ≡ true → (a ≡ true) × (b ≡ true)
    both_hold true b h = (refl, h)
    both_hold false b h = cc h

    turn : (a : Bool) → not a ≡ true → a ≡ false
    turn true h = cc h
    turn false h = refl

names_step : (earlier : List Line) (n : ℕ) (s : Said) (rest : List Numbered) → Names earlier ((n, s) ∷ rest) → Names (earlier ++ line_at (n, s) ∷ []) rest
names_step earlier n (model_line x) rest h = names_model earlier n x rest h
names_step earlier n (inputs_line ps) rest h = names_other earlier n (inputs_line ps) rest tt h
names_step earlier n (outputs_line ps) rest h = names_other earlier n (outputs_line ps) rest tt h
names_step earlier n (clock_line ps) rest h = names_other earlier n (clock_line ps) rest tt h
names_step earlier n (names_line ins out) rest h = names_other earlier n (names_line ins out) rest tt h
names_step earlier n (row_line cells b) rest h = names_other earlier n (row_line cells b) rest tt h
names_step earlier n (latch_line d q k init) rest h = names_other earlier n (latch_line d q k init) rest tt h
names_step earlier n (subckt_line m bs) rest h = names_other earlier n (subckt_line m bs) rest tt h
names_step earlier n end_line rest h = names_other earlier n end_line rest tt h

-- ---- all lines

none_if : (b : Bool) (f : ReadFault) (rest : Option ReadFault) → b ≡ false → rest ≡ None → option_or (then_some b f) rest ≡ None
none_if true f rest h e = cc h
none_if false f rest h e = e

line_is_good : (earlier : List Line) (prev : Option Said) (n : ℕ) (s : Said) (rest : List Numbered) → MayCome prev s → IsStatement s → Earlier earlier prev → Room earlier ((n, s) ∷ rest) → Names earlier ((n, s) ∷ rest) → line_fault earlier (line_at (n, s)) ≡ None
line_is_good earlier prev n s rest h good e r free =
    none_if _ _ _ (after_end_no earlier prev n s h e.after)
    (none_if _ _ _ (before_model_no earlier prev n s h e.seen)
    (none_if _ _ _ (unknown_no n s)
    (none_if _ _ _ (count_no n s)
    (none_if _ _ _ (long_no n s good)
    (none_if _ _ _ (ports_no n s good)
    (none_if _ _ _ (latch_no n s good)
    (none_if _ _ _ (row_no earlier prev n s h e.open_cover)
    (none_if _ _ _ (mixed_no earlier prev n s h e.open_cover)
    (none_if _ _ _ (again_no earlier n s (head_unused earlier n s rest free.0))
    (ap (count_fault n) (counts_no earlier n s rest r)))))))))))

abbrev pub AllCome : Option Said → List Numbered → Type 0
AllCome prev [] = Unit {0}
AllCome prev (n ∷ ns) = MayCome prev n.1 × AllCome (Some n.1) ns

come_after : (n : Numbered) (ns : List Numbered) → EachMayFollow (map (λ m. m.1) (n ∷ ns)) → AllCome (Some n.1) ns
come_after n [] h = tt
come_after n (m ∷ ns) h = (h.0, come_after m ns h.1)

two_none : (a b : Option ReadFault) → a ≡ None → b ≡ None → option_or a b ≡ None
two_none None b e f = f
two_none (Some x) b e f = cc e

lines_are_good : (earlier : List Line) (prev : Option Said) (rest : List Numbered) → AllCome prev rest → AllByRecursion (λ m. IsStatement m.1) rest → Earlier earlier prev → Room earlier rest → Names earlier rest → fault_from earlier (map line_at rest) ≡ None
lines_are_good earlier prev [] h good e r free = refl
lines_are_good earlier prev (n ∷ ns) h good e r free =
    two_none _ _ (line_is_good earlier prev n.0 n.1 ns h.0 good.0 e r free)
    (lines_are_good (earlier ++ line_at n ∷ []) (Some n.1) ns h.1 good.1 (one_more earlier prev n.0 n.1 h.0 e) (room_step earlier n.0 n.1 ns r) (names_step earlier n.0 n.1 ns free))

all_good : (lines : List Line) (ns : List Numbered) → AllZip (λ line n. (line.number ≡ n.0) × Says line n.1) lines ns → AllByRecursion (λ m. IsStatement m.1) ns
all_good [] [] h = tt
all_good [] (n ∷ ns) h = absurd h
all_good (l ∷ ls) [] h = absurd h
all_good (l ∷ ls) (n ∷ ns) h = (h.0.1.1, all_good ls ns h.1)

all_unused : (ns : List Name) → Unused [] ns
all_unused [] = tt
all_unused (n ∷ ns) = (refl, all_unused ns)

first_lines : (ns : List Numbered) (file : File) → BeginsWithModel (map (λ m. m.1) ns) → EachMayFollow (map (λ m. m.1) ns) → AllByRecursion (λ m. IsStatement m.1) ns → file.models ≡ models_of ns → are_distinct (map (λ m. m.name) file.models) ≡ true → IsWithinLimits file
    → cond (is_empty (map line_at ns)) (Some (no_model 0)) (fault_from [] (map line_at ns)) ≡ None
first_lines [] file b o g m d l = absurd b
first_lines ((n, model_line x) ∷ ns) file b o g m d l =
    lines_are_good [] None ((n, model_line x) ∷ ns) (tt, come_after (n, model_line x) ns o) g nothing_yet
    (record {
      inputs = lit≤ tt;
      outputs = lit≤ tt;
      clocks = lit≤ tt;
      latches = lit≤ tt;
      statements = let h : sum_by (λ m. length m.statements) (models_of ((n, model_line x) ∷ ns)) ≤ 2000000 = subst (λ ms. sum_by (λ m. length m.statements) ms ≤ 2000000) m l.statements in omega arith;
      covers = tt;
      later = subst (AllByRecursion IsWithinModelLimits) m l.models;
    })
    (all_unused (left_names ((n, model_line x) ∷ ns)), ap (λ ms. are_distinct (map (λ m. m.name) ms)) (sym m) ∙ d)
first_lines ((n, _) ∷ ns) file b o g m d l = absurd b

-- A text that says a file has no fault.
pub reads_no_fault : (bytes : List ℕ) (file : File) → Reads bytes file → read_fault bytes ≡ None
reads_no_fault bytes file r =
    ap (λ lines. cond (is_empty lines) (Some (no_model 0)) (fault_from [] lines)) (lines_are (logical_lines bytes) r.lines r.cases)
    ∙ first_lines r.lines file r.begins r.order (all_good (logical_lines bytes) r.lines r.cases) r.models r.distinct r.limits
