-- The line numbers of a file that is read never fall.
use Rattle.std.proofs.Common.{◌≡◌, refl, sym, subst, ℕ, ◌+◌, ◌≤◌, List, [], ◌∷◌, ◌++◌, map, filter, Bool, true, false, cond, Option, None, ◌==◌, arith}
use Rattle.std.specs.Prelude.{IfSome}
use Rattle.std.specs.List.{AllZip, flat_map, slice_split}
use Rattle.netlist_spec.specs.Lines.{Word, Line, words, without_comment, trimmed, without_last, ends_with_backslash, joined, logical_from, logical_lines}
use Rattle.netlist_spec.specs.Netlist.{Name, Port}
use Rattle.netlist_spec.specs.Statements.{Said, model_line, inputs_line, outputs_line, clock_line, names_line, row_line, latch_line, subckt_line, end_line, Says}
use Rattle.netlist_spec.specs.Reads.{Numbered, model_body, ports_at, inputs_in, outputs_in, clocks_in, statements_in, model_of, models_of}
use Rattle.netlist_spec.specs.FileRules.{NeverFall, HasLines, first_line, HaveLines}

-- numbers that begin later begin later than an earlier number too
weaker : (low late : ℕ) (high : Option ℕ) (ns : List ℕ) → low ≤ late → NeverFall late high ns → NeverFall low high ns
weaker low late high [] h k = tt
weaker low late high (n ∷ ns) h k = let e = k.0 in (omega arith, k.1, k.2)

-- ---- logical lines

abbrev numbers : List Line → List ℕ
numbers ls = map (λ l. l.number) ls

joined_up : (n : ℕ) (ws : List Word) (rest : List Line) → NeverFall (n + 1) None (numbers rest) → NeverFall n None (numbers (joined n ws rest))
joined_up n ws [] h = (omega arith, tt, tt)
joined_up n ws (l ∷ ls) h = let e = h.0 in (omega arith, tt, weaker n l.number None (numbers ls) (omega arith) h.2)

line_up : (n : ℕ) (ws vs : List Word) (rest : List Line) (b : Bool) → NeverFall (n + 1) None (numbers rest)
    → NeverFall n None (numbers (cond b (joined n ws rest) (record { number = n; words = vs } ∷ rest)))
line_up n ws vs rest true h = joined_up n ws rest h
line_up n ws vs rest false h = (omega arith, tt, weaker n (n + 1) None (numbers rest) (omega arith) h)

lines_up : (n : ℕ) (ls : List (List ℕ)) → NeverFall n None (numbers (logical_from n ls))
lines_up n [] = tt
lines_up n (l ∷ ls) =
    let text = trimmed (without_comment l) in
    line_up n (words (without_last text)) (words text) (logical_from (n + 1) ls) (ends_with_backslash text) (lines_up (n + 1) ls)

kept_case : (low : ℕ) (l : Line) (ls : List Line) (b : Bool) → low ≤ l.number → NeverFall l.number None (numbers ls) → NeverFall low None (numbers (cond b (l ∷ ls) ls))
kept_case low l ls true h k = (h, tt, k)
kept_case low l ls false h k = weaker low l.number None (numbers ls) h k

kept_up : (test : Line → Bool) (low : ℕ) (ls : List Line) → NeverFall low None (numbers ls) → NeverFall low None (numbers (filter test ls))
kept_up test low [] h = tt
kept_up test low (l ∷ ls) h = kept_case low l (filter test ls) (test l) h.0 (kept_up test l.number ls h.2)

logical_lines_up : (bytes : List ℕ) → NeverFall 1 None (numbers (logical_lines bytes))
logical_lines_up bytes = kept_up _ 1 (logical_from 1 (slice_split (λ b. b == 10) bytes)) (lines_up 1 (slice_split (λ b. b == 10) bytes))

-- ---- what the lines say

abbrev Climb : ℕ → List Numbered → Type 0
Climb low ls = NeverFall low None (map (λ n. n.0) ls)

same_numbers : (lines : List Line) (ns : List Numbered) → AllZip (λ line n. (line.number ≡ n.0) × Says line n.1) lines ns → map (λ n. n.0) ns ≡ numbers lines
same_numbers [] [] h = refl
same_numbers [] (n ∷ ns) h = absurd h
same_numbers (l ∷ ls) [] h = absurd h
same_numbers (l ∷ ls) (n ∷ ns) h = λ i. sym h.0.0 i ∷ same_numbers ls ns h.1 i

pub said_up : (bytes : List ℕ) (ns : List Numbered) → AllZip (λ line n. (line.number ≡ n.0) × Says line n.1) (logical_lines bytes) ns → Climb 1 ns
said_up bytes ns h = subst (NeverFall 1 None) (sym (same_numbers (logical_lines bytes) ns h)) (logical_lines_up bytes)

-- the line of the next model
abbrev next_line : List Numbered → Option ℕ
next_line ls = first_line (models_of ls)

before_next : (low : ℕ) (ls : List Numbered) → Climb low ls → IfSome (next_line ls) (λ h. low ≤ h)
before_next low [] h = tt
before_next low ((n, model_line x) ∷ ls) h = h.0
before_next low ((n, inputs_line ps) ∷ ls) h = before_next low ls (weaker low n None _ h.0 h.2)
before_next low ((n, outputs_line ps) ∷ ls) h = before_next low ls (weaker low n None _ h.0 h.2)
before_next low ((n, clock_line ps) ∷ ls) h = before_next low ls (weaker low n None _ h.0 h.2)
before_next low ((n, names_line ins out) ∷ ls) h = before_next low ls (weaker low n None _ h.0 h.2)
before_next low ((n, row_line cells b) ∷ ls) h = before_next low ls (weaker low n None _ h.0 h.2)
before_next low ((n, latch_line d q c i) ∷ ls) h = before_next low ls (weaker low n None _ h.0 h.2)
before_next low ((n, subckt_line m bs) ∷ ls) h = before_next low ls (weaker low n None _ h.0 h.2)
before_next low ((n, end_line) ∷ ls) h = before_next low ls (weaker low n None _ h.0 h.2)

abbrev port_lines : List Port → List ℕ
port_lines ps = map (λ p. p.line) ps

-- the ports of one line, and those of later lines
ports_up : (n low : ℕ) (high : Option ℕ) (ps : List Name) (more : List Port) → low ≤ n → IfSome high (λ h. n ≤ h) → NeverFall n high (port_lines more)
    → NeverFall low high (port_lines (ports_at n ps ++ more))
ports_up n low high [] more h k u = weaker low n high (port_lines more) h u
ports_up n low high (p ∷ ps) more h k u = (h, k, ports_up n n high ps more (omega arith) k u)

-- for inputs, outputs and clocks: which ports a line declares
module _ (f : Numbered → List Port) (g : Said → List Name) (declares : (n : ℕ) (s : Said) → f (n, s) ≡ ports_at n (g s)) where
  line_ports : (low n : ℕ) (s : Said) (ls : List Numbered) → Climb low ((n, s) ∷ ls)
      → NeverFall n (next_line ls) (port_lines (flat_map f (model_body ls)))
      → NeverFall low (next_line ls) (port_lines (f (n, s) ++ flat_map f (model_body ls)))
  line_ports low n s ls h u =
      subst (λ ps. NeverFall low (next_line ls) (port_lines (ps ++ flat_map f (model_body ls)))) (sym (declares n s))
      (ports_up n low (next_line ls) (g s) (flat_map f (model_body ls)) h.0 (before_next n ls h.2) u)

  model_ports : (low : ℕ) (ls : List Numbered) → Climb low ls → NeverFall low (next_line ls) (port_lines (flat_map f (model_body ls)))
  model_ports low [] h = tt
  model_ports low ((n, model_line x) ∷ ls) h = tt
  model_ports low ((n, inputs_line ps) ∷ ls) h = line_ports low n (inputs_line ps) ls h (model_ports n ls h.2)
  model_ports low ((n, outputs_line ps) ∷ ls) h = line_ports low n (outputs_line ps) ls h (model_ports n ls h.2)
  model_ports low ((n, clock_line ps) ∷ ls) h = line_ports low n (clock_line ps) ls h (model_ports n ls h.2)
  model_ports low ((n, names_line ins out) ∷ ls) h = line_ports low n (names_line ins out) ls h (model_ports n ls h.2)
  model_ports low ((n, row_line cells b) ∷ ls) h = line_ports low n (row_line cells b) ls h (model_ports n ls h.2)
  model_ports low ((n, latch_line d q c i) ∷ ls) h = line_ports low n (latch_line d q c i) ls h (model_ports n ls h.2)
  model_ports low ((n, subckt_line m bs) ∷ ls) h = line_ports low n (subckt_line m bs) ls h (model_ports n ls h.2)
  model_ports low ((n, end_line) ∷ ls) h = line_ports low n end_line ls h (model_ports n ls h.2)

abbrev input_words : Said → List Name
input_words (inputs_line ps) = ps
input_words _ = []

abbrev output_words : Said → List Name
output_words (outputs_line ps) = ps
output_words _ = []

abbrev clock_words : Said → List Name
clock_words (clock_line ps) = ps
clock_words _ = []

inputs_declared : (n : ℕ) (s : Said) → inputs_in (n, s) ≡ ports_at n (input_words s)
inputs_declared n (inputs_line ps) = refl
inputs_declared n _ = refl

outputs_declared : (n : ℕ) (s : Said) → outputs_in (n, s) ≡ ports_at n (output_words s)
outputs_declared n (outputs_line ps) = refl
outputs_declared n _ = refl

clocks_declared : (n : ℕ) (s : Said) → clocks_in (n, s) ≡ ports_at n (clock_words s)
clocks_declared n (clock_line ps) = refl
clocks_declared n _ = refl

model_statements : (low : ℕ) (ls : List Numbered) → Climb low ls → NeverFall low (next_line ls) (map (λ s. s.line) (statements_in (model_body ls)))
model_statements low [] h = tt
model_statements low ((n, model_line x) ∷ ls) h = tt
model_statements low ((n, inputs_line ps) ∷ ls) h = weaker low n (next_line ls) _ h.0 (model_statements n ls h.2)
model_statements low ((n, outputs_line ps) ∷ ls) h = weaker low n (next_line ls) _ h.0 (model_statements n ls h.2)
model_statements low ((n, clock_line ps) ∷ ls) h = weaker low n (next_line ls) _ h.0 (model_statements n ls h.2)
model_statements low ((n, names_line ins out) ∷ ls) h = (h.0, before_next n ls h.2, model_statements n ls h.2)
model_statements low ((n, row_line cells b) ∷ ls) h = weaker low n (next_line ls) _ h.0 (model_statements n ls h.2)
model_statements low ((n, latch_line d q c i) ∷ ls) h = (h.0, before_next n ls h.2, model_statements n ls h.2)
model_statements low ((n, subckt_line m bs) ∷ ls) h = (h.0, before_next n ls h.2, model_statements n ls h.2)
model_statements low ((n, end_line) ∷ ls) h = weaker low n (next_line ls) _ h.0 (model_statements n ls h.2)

model_lines : (n : ℕ) (x : Name) (ls : List Numbered) → Climb n ls → HasLines (next_line ls) (model_of n x (model_body ls))
model_lines n x ls h =
    record {
      own = before_next n ls h;
      inputs = model_ports inputs_in input_words inputs_declared n ls h;
      outputs = model_ports outputs_in output_words outputs_declared n ls h;
      clocks = model_ports clocks_in clock_words clocks_declared n ls h;
      statements = model_statements n ls h;
    }

pub models_have_lines : (low : ℕ) (ls : List Numbered) → Climb low ls → HaveLines (models_of ls)
models_have_lines low [] h = tt
models_have_lines low ((n, model_line x) ∷ ls) h = (model_lines n x ls h.2, models_have_lines n ls h.2)
models_have_lines low ((n, inputs_line ps) ∷ ls) h = models_have_lines n ls h.2
models_have_lines low ((n, outputs_line ps) ∷ ls) h = models_have_lines n ls h.2
models_have_lines low ((n, clock_line ps) ∷ ls) h = models_have_lines n ls h.2
models_have_lines low ((n, names_line ins out) ∷ ls) h = models_have_lines n ls h.2
models_have_lines low ((n, row_line cells b) ∷ ls) h = models_have_lines n ls h.2
models_have_lines low ((n, latch_line d q c i) ∷ ls) h = models_have_lines n ls h.2
models_have_lines low ((n, subckt_line m bs) ∷ ls) h = models_have_lines n ls h.2
models_have_lines low ((n, end_line) ∷ ls) h = models_have_lines n ls h.2
