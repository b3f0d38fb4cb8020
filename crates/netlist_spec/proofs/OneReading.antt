-- A text says at most one file.
use Rattle.std.proofs.Common.{◌≡◌, ◌≢◌, refl, sym, ◌∙◌, ap, ap₂, ℕ, ◌+◌, List, [], ◌∷◌, ◌++◌, map, codes, Bool, true, false, ◌||◌, cond, Option, Some, None, ◌==◌, arith}
use Rattle.std.specs.Prelude.{IfSome}
use Rattle.std.specs.List.{AllByRecursion, AllZip, list_any}
use Rattle.std.specs.Cmp.Lexicographic.{bytes_decides}
use Rattle.netlist_spec.specs.Lines.{Word, Line, logical_lines}
use Rattle.netlist_spec.specs.Netlist.{Name, IsName, same_name, Clocking, plain, edge, Bind, File}
use Rattle.netlist_spec.specs.Statements.{Cell, Said, model_line, inputs_line, outputs_line, clock_line, names_line, row_line, latch_line, subckt_line, end_line, bit_char, cell_char, edge_word, control_word, bind_word, row_words, spelling, IsClocking, IsBind, IsStatement, Says}
use Rattle.netlist_spec.specs.Reads.{Numbered, models_of, Reads}
use Rattle.netlist_spec.specs.ReadFaults.{row_kind, word_kind, formal_part, actual_part}
use Rattle.netlist_spec.specs.Said.{all_but_last, last_of, word_bit, char_cell, word_control, word_rises, word_init, word_bind, said_by, said_of, declared_lines, declared_file}

-- ---- reading back what was spelled

pub front_back : (ws : List Word) (w : Word) → all_but_last (ws ++ w ∷ []) ≡ ws
front_back [] w = refl
front_back (v ∷ []) w = refl
front_back (v ∷ u ∷ ws) w = λ i. v ∷ front_back (u ∷ ws) w i

pub last_back : (ws : List Word) (w : Word) → last_of (ws ++ w ∷ []) ≡ w
last_back [] w = refl
last_back (v ∷ []) w = refl
last_back (v ∷ u ∷ ws) w = last_back (u ∷ ws) w

bit_back : (b : Bool) → word_bit (bit_char b ∷ []) ≡ b
bit_back true = refl
bit_back false = refl

cell_back : (c : Cell) → char_cell (cell_char c) ≡ c
cell_back None = refl
cell_back (Some true) = refl
cell_back (Some false) = refl

cells_back : (cs : List Cell) → map char_cell (map cell_char cs) ≡ cs
cells_back [] = refl
cells_back (c ∷ cs) = λ i. cell_back c i ∷ cells_back cs i

pub row_kind_of : (c : Cell) (w : Word) → word_kind (cell_char c ∷ w) ≡ row_kind
row_kind_of None w = refl
row_kind_of (Some true) w = refl
row_kind_of (Some false) w = refl

row_back : (n : ℕ) (cs : List Cell) (b : Bool) → said_of (record { number = n; words = row_words cs b }) ≡ row_line cs b
row_back n [] true = refl
row_back n [] false = refl
row_back n (c ∷ cs) b =
    ap (λ k. said_by k ((bit_char b ∷ []) ∷ []) (map cell_char (c ∷ cs) ∷ (bit_char b ∷ []) ∷ [])) (row_kind_of c (map cell_char cs))
    ∙ ap₂ row_line (cells_back (c ∷ cs)) (bit_back b)

is_not : (n : Name) → n ≢ codes "NIL" → (b : Bool) → same_name n (codes "NIL") ≡ b → b ≡ false
is_not n h true e = absurd (h ((bytes_decides n (codes "NIL")).0 e))
is_not n h false e = refl

control_back : (c : Option Name) → IfSome c (λ n. IsName n × (n ≢ codes "NIL")) → word_control (control_word c) ≡ c
control_back None h = refl
control_back (Some n) h = ap (λ b. cond b None (Some n)) (is_not n h.1 _ refl)

edge_back : (r : Bool) → word_rises (edge_word r) ≡ r
edge_back true = refl
edge_back false = refl

init_back : (n : ℕ) → word_init ((48 + n) ∷ []) ≡ n
init_back n = omega arith

latch_back : (n : ℕ) (d q : Name) (k : Clocking) (init : Option ℕ) → IsClocking k → said_of (record { number = n; words = spelling (latch_line d q k init) }) ≡ latch_line d q k init
latch_back l d q plain None h = refl
latch_back l d q plain (Some n) h = ap (λ i. latch_line d q plain (Some i)) (init_back n)
latch_back l d q (edge r c) None h = ap₂ (λ s e. latch_line d q (edge s e) None) (edge_back r) (control_back c h)
latch_back l d q (edge r c) (Some n) h =
    ap₂ (λ s e. latch_line d q (edge s e) (Some (word_init ((48 + n) ∷ [])))) (edge_back r) (control_back c h)
    ∙ ap (λ i. latch_line d q (edge r c) (Some i)) (init_back n)

pub no_equals : (c : ℕ) (cs : List ℕ) → list_any (λ k. k == 61) (c ∷ cs) ≡ false → ((c == 61) ≡ false) × (list_any (λ k. k == 61) cs ≡ false)
no_equals c cs h = go (c == 61) h
  where
    go : (b : Bool) → (b || list_any (λ k. k == 61) cs) ≡ false → (b ≡ false) × (list_any (λ k. k == 61) cs ≡ false)
    go true h = cc h
    go false h = (refl, h)

pub before_back : (f a : Name) → list_any (λ k. k == 61) f ≡ false → formal_part (f ++ 61 ∷ a) ≡ f
before_back [] a h = refl
before_back (c ∷ cs) a h =
    let parts = no_equals c cs h in
    ap (λ b. cond b [] (c ∷ formal_part (cs ++ 61 ∷ a))) parts.0 ∙ ap (λ f. c ∷ f) (before_back cs a parts.1)

pub after_back : (f a : Name) → list_any (λ k. k == 61) f ≡ false → actual_part (f ++ 61 ∷ a) ≡ a
after_back [] a h = refl
after_back (c ∷ cs) a h =
    let parts = no_equals c cs h in
    ap (λ b. cond b (cs ++ 61 ∷ a) (actual_part (cs ++ 61 ∷ a))) parts.0 ∙ after_back cs a parts.1

binds_back : (bs : List Bind) → AllByRecursion IsBind bs → map word_bind (map bind_word bs) ≡ bs
binds_back [] h = refl
binds_back (b ∷ bs) h =
    λ i. record { formal = before_back b.formal b.actual h.0.1 i; actual = after_back b.formal b.actual h.0.1 i } ∷ binds_back bs h.1 i

pub said_back : (l : ℕ) (said : Said) → IsStatement said → said_of (record { number = l; words = spelling said }) ≡ said
said_back l (model_line n) h = refl
said_back l (inputs_line ps) h = refl
said_back l (outputs_line ps) h = refl
said_back l (clock_line ps) h = refl
said_back l (names_line ins out) h = ap₂ names_line (front_back ins out) (last_back ins out)
said_back l (row_line cells b) h = row_back l cells b
said_back l (latch_line d q k init) h = latch_back l d q k init h.2
said_back l (subckt_line m bs) h = ap (subckt_line m) (binds_back bs h.1)
said_back l end_line h = refl

-- a line says one thing, and so do all lines
lines_back : (lines : List Line) (said : List Numbered) → AllZip (λ line n. (line.number ≡ n.0) × Says line n.1) lines said → declared_lines lines ≡ said
lines_back [] [] h = refl
lines_back [] (n ∷ ns) h = absurd h
lines_back (l ∷ ls) [] h = absurd h
lines_back (l ∷ ls) (n ∷ ns) h =
    λ i. (h.0.0 i, (ap (λ ws. said_of (record { number = l.number; words = ws })) h.0.1.0 ∙ said_back l.number n.1 h.0.1.1) i) ∷ lines_back ls ns h.1 i

-- the file that a text says, if it says any, is the one that its logical lines declare
pub reads_reading : (bytes : List ℕ) (file : File) → Reads bytes file → declared_file (logical_lines bytes) ≡ file
reads_reading bytes file r =
    λ i. record { models = (ap models_of (lines_back (logical_lines bytes) r.lines r.cases) ∙ sym r.models) i }

pub one_reading : (bytes : List ℕ) (file other : File) → Reads bytes file → Reads bytes other → file ≡ other
one_reading bytes file other r s = sym (reads_reading bytes file r) ∙ reads_reading bytes other s
