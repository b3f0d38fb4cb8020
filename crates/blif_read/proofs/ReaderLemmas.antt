-- The steps of the reader.
use Rattle.std.proofs.Common.{◌≡◌, ◌<◌, ◌≤◌, ◌+◌, ◌^◌, ℕ, Bool, true, false, cond, ◌||◌, List, [], ◌∷◌, ◌++◌, length, refl, sym, ap, ◌∙◌, arith, Option, None, Some, append-nil, subst, length-append}
use Rattle.std.specs.List.{AllByRecursion, list_any}
use Rattle.std.proofs.lemmas.Bool.{both_ways, not-false}
use Rattle.std.proofs.lemmas.List.{length-map}
use Rattle.netlist_spec.specs.Lines.{Word, Line, is_empty, logical_lines}
use Rattle.netlist_spec.specs.ReadFaults.{ReadFault, no_model, Kind, model_kind, kind_of, is_kind, arguments, fault_from, read_fault, model_names}
use Rattle.netlist_spec.proofs.FirstFault.{first_passes, text_fault_here, text_without_lines, text_has_no_fault}
use Rattle.netlist_spec.proofs.LineWords.{lines_have_words}
use Rattle.netlist_spec.proofs.SaidLines.{HasWords}
use Rattle.netlist_spec.proofs.Passes.{line_passes}
use denote.Ref.{Bor}
use Rattle.imp_text.specs.Reading.{Reading}
use Rattle.imp_text.specs.Tokens.{words_at}
use Rattle.imp_text.specs.declared.token.Token.{Token}
use Rattle.blif_read.specs.declared.summary.Summary.{Summary}
use Rattle.blif_read.specs.LineTests.{HasByte, words_in}
use Rattle.blif_read.specs.Faults.{IsFault}
use Rattle.blif_read.specs.Summaries.{fault_by, Summarizes}
use Rattle.blif_read.proofs.SummaryLemmas.{fault_is}
use Rattle.blif_read.proofs.FewWords.{word_count, word_count-append, few_in_text}

-- The lines so far have no fault and are summarized, and the others are left.
pub record IsSoFar (bytes : List ℕ) (reading : Reading) (s : Summary) : Type 0 where
  pub source : reading.source ≡ bytes
  pub earlier : List Line
  pub split : logical_lines bytes ≡ earlier ++ reading.left
  pub none : fault_from [] earlier ≡ None
  pub known : Summarizes earlier s

-- a line that fails
pub so_far_fails : (bytes : List ℕ) (old new : Reading) (s : Summary) (k : Kind) (l : Line) (fault : Option ReadFault) → IsSoFar bytes old s → old.left ≡ l ∷ new.left → kind_of l ≡ k → IsFault (fault_by s k l) fault → IsFault (read_fault bytes) fault
so_far_fails bytes old new s k l None is first e fails = tt
so_far_fails bytes old new s k l (Some f) is first e fails =
    text_fault_here bytes is.earlier l new.left f (is.split ∙ ap (λ ls. is.earlier ++ ls) first) is.none (fault_is is.earlier s k l e is.known ∙ fails)

-- the words of the next line
word_at_place : (earlier : List Line) (l : Line) (rest : List Line) → AllByRecursion HasWords (earlier ++ l ∷ rest) → HasWords l
word_at_place [] l rest h = h.0
word_at_place (k ∷ earlier) l rest h = word_at_place earlier l rest h.1

some_length : (ws : List Word) → is_empty ws ≡ false → 0 < length ws
some_length [] h = cc h
some_length (w ∷ ws) h = omega arith

pub next_words : (bytes : List ℕ) (old : Reading) (s : Summary) (l : Line) (rest : List Line) → IsSoFar bytes old s → old.left ≡ l ∷ rest → (0 < length l.words) × AllByRecursion HasByte l.words
next_words bytes old s l rest is first =
    let P : List Line → Type 0 = AllByRecursion HasWords in
    let has = word_at_place is.earlier l rest (subst P (is.split ∙ ap (λ ls. is.earlier ++ ls) first) (lines_have_words bytes)) in
    (some_length l.words has.some, has.bytes)

-- there are few models
few_names : (earlier : List Line) → length (model_names earlier) ≤ word_count earlier
few_names [] = omega arith
few_names (l ∷ earlier) = go (is_kind model_kind l) (few_names earlier)
  where
    fewer : (ws : List Word) → length (arguments (record { number = 0; words = ws })) ≤ length ws
    fewer [] = omega arith
    fewer (w ∷ ws) = omega arith

    go : (b : Bool) → length (model_names earlier) ≤ word_count earlier → length (cond b (arguments l) [] ++ model_names earlier) ≤ length l.words + word_count earlier
    go true h = omega (arith, h, fewer l.words, length-append (arguments l) (model_names earlier))
    go false h = omega (arith, h)

pub few_models : (bytes : List ℕ) (old : Reading) (s : Summary) (l : Line) (rest : List Line) → length bytes < 2 ^ 32 → IsSoFar bytes old s → old.left ≡ l ∷ rest → length s.models < 2 ^ 31
few_models bytes old s l rest short is first =
    let all : word_count (logical_lines bytes) ≡ word_count is.earlier + (length l.words + word_count rest)
    = ap word_count (is.split ∙ ap (λ ls. is.earlier ++ ls) first) ∙ word_count-append is.earlier (l ∷ rest) in
    let few : length (model_names is.earlier) ≤ word_count is.earlier = few_names is.earlier in
    let same : length s.models ≡ length (model_names is.earlier) = ap length is.known.models in
    let some : 0 < length l.words = (next_words bytes old s l rest is first).0 in
    omega (arith, all, few, same, some, few_in_text bytes, short)

-- Behind the last line.

-- lines without a fault begin with a model
begins_with_model : (lines : List Line) → is_empty lines ≡ false → fault_from [] lines ≡ None → list_any (is_kind model_kind) lines ≡ true
begins_with_model [] some none = cc some
begins_with_model (l ∷ lines) some none =
    let first = line_passes [] l (first_passes [] l lines none).0 in
    ap (λ b. b || list_any (is_kind model_kind) lines) (not-false (is_kind model_kind l) first.before_model)

pub no_model_at_end : (bytes : List ℕ) (reading : Reading) (s : Summary) → IsSoFar bytes reading s → reading.left ≡ [] → s.has_model ≡ false → read_fault bytes ≡ Some (no_model 0)
no_model_at_end bytes reading s is left model = go is.earlier (is.split ∙ (ap (λ ls. is.earlier ++ ls) left ∙ append-nil is.earlier)) is.none (sym is.known.has_model ∙ model)
  where
    go : (earlier : List Line) → logical_lines bytes ≡ earlier → fault_from [] earlier ≡ None → list_any (is_kind model_kind) earlier ≡ false → read_fault bytes ≡ Some (no_model 0)
    go [] e none absent = text_without_lines bytes e
    go (l ∷ ls) e none absent = absurd (both_ways _ absent (begins_with_model (l ∷ ls) refl none))

pub no_fault_at_end : (bytes : List ℕ) (reading : Reading) (s : Summary) → IsSoFar bytes reading s → reading.left ≡ [] → s.has_model ≡ true → read_fault bytes ≡ None
no_fault_at_end bytes reading s is left model = go is.earlier (is.split ∙ (ap (λ ls. is.earlier ++ ls) left ∙ append-nil is.earlier)) is.none (sym is.known.has_model ∙ model)
  where
    go : (earlier : List Line) → logical_lines bytes ≡ earlier → fault_from [] earlier ≡ None → list_any (is_kind model_kind) earlier ≡ true → read_fault bytes ≡ None
    go [] e none some = cc some
    go (l ∷ ls) e none some = text_has_no_fault bytes l ls e none

-- the next line, by the words that are lent
pub next_line_is : (bytes : List ℕ) (old new : Reading) (tokens copied : List Token) (filled lent : List (Bor Word)) (n : ℕ) → old.source ≡ bytes → old.left ≡ record { number = n; words = words_at old.source tokens } ∷ new.left → copied ≡ tokens → words_in filled ≡ words_at bytes copied → lent ≡ filled → old.left ≡ record { number = n; words = words_in lent } ∷ new.left
next_line_is bytes old new tokens copied filled lent n source first copy fill lend =
    let words : words_at old.source tokens ≡ words_in lent = ap (λ s. words_at s tokens) source ∙ (ap (words_at bytes) (sym copy) ∙ (sym fill ∙ ap words_in (sym lend))) in
    first ∙ ap (λ ws. record { number = n; words = ws } ∷ new.left) words

pub some_words : (lent : List (Bor Word)) → 0 < length (words_in lent) → 0 < length lent
some_words lent some = omega (arith, some, length-map lent (λ (w : Bor Word). w.now))
