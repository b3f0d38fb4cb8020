-- The steps of the reader of a stimulus.
use Rattle.std.proofs.Common.{◌≡◌, ◌<◌, ◌≤◌, ◌+◌, ◌*◌, ℕ, suc, true, false, cond, List, [], ◌∷◌, ◌++◌, length, refl, sym, ap, ◌∙◌, arith, Option, None, Some, append-nil, append_assoc}
use Rattle.std.specs.Prelude.{Result, Ok, Err, nat_lt}
use Rattle.netlist_spec.specs.Lines.{plain_lines}
use Rattle.netlist_spec.specs.SourceRun.{Bits, Stream}
use Rattle.stimulus_spec.specs.Stimulus.{stimulus_row, with_row, stimulus_from, stimulus_of}
use Rattle.imp_text.specs.Reading.{Reading}
use Rattle.imp_text.specs.Tokens.{words_at}
use Rattle.imp_text.specs.declared.token.Token.{Token}
use Rattle.sim_text.specs.Rows.{rows, IsPushed}
use Rattle.sim_text.proofs.RowLemmas.{row_length, rows_more, length_more}

-- some rows before those that follow them
abbrev before : Stream → Result Stream ℕ → Result Stream ℕ
before rs (Ok xs) = Ok (rs ++ xs)
before rs (Err n) = Err n

-- The lines so far are the rows that the bits are cut into, and the others are left.
pub record IsSoFar (bytes : List ℕ) (inputs : ℕ) (reading : Reading) (cycles : ℕ) (bits : Bits) : Type 0 where
  pub source : reading.source ≡ bytes
  pub few : cycles ≤ 1000000
  pub width : length bits ≡ cycles * inputs
  pub goes_on : stimulus_of inputs bytes ≡ before (rows inputs cycles bits) (stimulus_from inputs cycles reading.left)

-- the next line, by the words that were copied
pub record IsNext (old new : Reading) (n : ℕ) (tokens copied : List Token) : Type 0 where
  pub left : old.left ≡ record { number = n; words = words_at old.source tokens } ∷ new.left
  pub source : new.source ≡ old.source
  pub copy : copied ≡ tokens

before_nothing : (r : Result Stream ℕ) → r ≡ before [] r
before_nothing (Ok xs) = refl
before_nothing (Err n) = refl

before_row : (rs : Stream) (x : Bits) (n : ℕ) (r : Result Stream ℕ) → before rs (with_row n (Some x) r) ≡ before (rs ++ x ∷ []) r
before_row rs x n (Ok xs) = ap Ok (sym (append_assoc rs (x ∷ []) xs))
before_row rs x n (Err k) = refl

less : (c : ℕ) → c < 1000000 → nat_lt c 1000000 ≡ true
less c h = grind (arith, h)

not_less : (c : ℕ) → 1000000 ≤ c → nat_lt c 1000000 ≡ false
not_less c h = grind (arith, h)

pub so_far_at_start : (bytes : List ℕ) (inputs : ℕ) (reading : Reading) → reading ≡ record { source = bytes; left = plain_lines bytes } → IsSoFar bytes inputs reading 0 []
so_far_at_start bytes inputs reading e = record {
  source = ap (λ (r : Reading). r.source) e;
  few = omega arith;
  width = omega arith;
  goes_on = before_nothing (stimulus_of inputs bytes) ∙ ap (λ (r : Reading). before [] (stimulus_from inputs 0 r.left)) (sym e);
}

-- what the rows from the next line on are
from_next : (bytes : List ℕ) (inputs : ℕ) (old new : Reading) (c : ℕ) (bits : Bits) (n : ℕ) (tokens copied : List Token) → IsSoFar bytes inputs old c bits → IsNext old new n tokens copied → stimulus_of inputs bytes ≡ before (rows inputs c bits) (stimulus_from inputs c (record { number = n; words = words_at bytes copied } ∷ new.left))
from_next bytes inputs old new c bits n tokens copied is next =
    let words : words_at old.source tokens ≡ words_at bytes copied = ap (λ s. words_at s tokens) is.source ∙ ap (words_at bytes) (sym next.copy) in
    is.goes_on ∙ ap (λ ls. before (rows inputs c bits) (stimulus_from inputs c ls)) (next.left ∙ ap (λ ws. record { number = n; words = ws } ∷ new.left) words)

within : (bytes : List ℕ) (inputs : ℕ) (old new : Reading) (c : ℕ) (bits : Bits) (n : ℕ) (tokens copied : List Token) (row : Option Bits) → IsSoFar bytes inputs old c bits → IsNext old new n tokens copied → c < 1000000 → stimulus_row inputs (words_at bytes copied) ≡ row → stimulus_of inputs bytes ≡ before (rows inputs c bits) (with_row n row (stimulus_from inputs (c + 1) new.left))
within bytes inputs old new c bits n tokens copied row is next few e =
    from_next bytes inputs old new c bits n tokens copied is next
    ∙ (ap (λ b. before (rows inputs c bits) (cond b (with_row n (stimulus_row inputs (words_at bytes copied)) (stimulus_from inputs (c + 1) new.left)) (Err n))) (less c few)
    ∙ ap (λ o. before (rows inputs c bits) (with_row n o (stimulus_from inputs (c + 1) new.left))) e)

-- one more cycle
pub so_far_more : (bytes : List ℕ) (inputs : ℕ) (old new : Reading) (c : ℕ) (bits more : Bits) (n : ℕ) (tokens copied : List Token) → IsSoFar bytes inputs old c bits → IsNext old new n tokens copied → c < 1000000 → IsPushed true (stimulus_row inputs (words_at bytes copied)) bits more → IsSoFar bytes inputs new (c + 1) more
so_far_more bytes inputs old new c bits more n tokens copied is next few pushed = go (stimulus_row inputs (words_at bytes copied)) refl pushed
  where
    go : (row : Option Bits) → stimulus_row inputs (words_at bytes copied) ≡ row → IsPushed true row bits more → IsSoFar bytes inputs new (c + 1) more
    go None e h = absurd h
    go (Some x) e h =
        let fits = row_length inputs (words_at bytes copied) x e in
        let one_more : c + 1 ≡ suc c = omega arith in
        let cut : rows inputs c bits ++ x ∷ [] ≡ rows inputs (c + 1) more = sym (ap (λ k. rows inputs k more) one_more ∙ (ap (rows inputs (suc c)) h ∙ rows_more inputs c bits x is.width fits)) in
        record {
          source = next.source ∙ is.source;
          few = omega arith;
          width = ap length h ∙ length_more inputs c bits x is.width fits;
          goes_on = within bytes inputs old new c bits n tokens copied (Some x) is next few e
              ∙ (before_row (rows inputs c bits) x n (stimulus_from inputs (c + 1) new.left)
              ∙ ap (λ rs. before rs (stimulus_from inputs (c + 1) new.left)) cut);
        }

-- a line that is no row
pub row_fails : (bytes : List ℕ) (inputs : ℕ) (old new : Reading) (c : ℕ) (bits more : Bits) (n : ℕ) (tokens copied : List Token) → IsSoFar bytes inputs old c bits → IsNext old new n tokens copied → c < 1000000 → IsPushed false (stimulus_row inputs (words_at bytes copied)) bits more → stimulus_of inputs bytes ≡ Err n
row_fails bytes inputs old new c bits more n tokens copied is next few none = within bytes inputs old new c bits n tokens copied None is next few none

-- a line behind the last cycle that there may be
pub line_is_past : (bytes : List ℕ) (inputs : ℕ) (old new : Reading) (c : ℕ) (bits : Bits) (n : ℕ) (tokens copied : List Token) → IsSoFar bytes inputs old c bits → IsNext old new n tokens copied → 1000000 ≤ c → stimulus_of inputs bytes ≡ Err n
line_is_past bytes inputs old new c bits n tokens copied is next past =
    from_next bytes inputs old new c bits n tokens copied is next
    ∙ ap (λ b. before (rows inputs c bits) (cond b (with_row n (stimulus_row inputs (words_at bytes copied)) (stimulus_from inputs (c + 1) new.left)) (Err n))) (not_less c past)

-- behind the last line
pub rows_at_end : (bytes : List ℕ) (inputs : ℕ) (reading : Reading) (c : ℕ) (bits : Bits) → IsSoFar bytes inputs reading c bits → reading.left ≡ [] → stimulus_of inputs bytes ≡ Ok (rows inputs c bits)
rows_at_end bytes inputs reading c bits is left =
    is.goes_on ∙ (ap (λ ls. before (rows inputs c bits) (stimulus_from inputs c ls)) left ∙ ap Ok (append-nil (rows inputs c bits)))
