-- The first line that fails a test decides, and what is behind it is not asked.
use Rattle.std.proofs.Common.{◌≡◌, refl, sym, ◌∙◌, ap, ℕ, List, [], ◌∷◌, ◌++◌, Bool, true, false, cond, Option, Some, None, append_assoc, append-nil}
use Rattle.std.specs.Option.{option_or}
use Rattle.netlist_spec.specs.Lines.{Line, is_empty, logical_lines}
use Rattle.netlist_spec.specs.ReadFaults.{ReadFault, no_model, line_fault, fault_from, read_fault}

or_none : (a b : Option ReadFault) → option_or a b ≡ None → (a ≡ None) × (b ≡ None)
or_none None b h = (refl, h)
or_none (Some f) b h = cc h

or_some : (a b : Option ReadFault) (f : ReadFault) → a ≡ Some f → option_or a b ≡ Some f
or_some None b f h = cc h
or_some (Some g) b f h = h

-- what a text without a fault tells of its first line, and of the lines behind it
pub first_passes : (earlier : List Line) (l : Line) (ls : List Line) → fault_from earlier (l ∷ ls) ≡ None → (line_fault earlier l ≡ None) × (fault_from (earlier ++ l ∷ []) ls ≡ None)
first_passes earlier l ls h = or_none (line_fault earlier l) (fault_from (earlier ++ l ∷ []) ls) h

-- Behind lines without a fault the rest decides.
pub fault_behind : (earlier lines rest : List Line) → fault_from earlier lines ≡ None → fault_from earlier (lines ++ rest) ≡ fault_from (earlier ++ lines) rest
fault_behind earlier [] rest h = ap (λ ls. fault_from ls rest) (sym (append-nil earlier))
fault_behind earlier (l ∷ ls) rest h =
    let parts = first_passes earlier l ls h in
    ap (λ f. option_or f (fault_from (earlier ++ l ∷ []) (ls ++ rest))) parts.0
    ∙ (fault_behind (earlier ++ l ∷ []) ls rest parts.1 ∙ ap (λ k. fault_from k rest) (append_assoc earlier (l ∷ []) ls))

-- One line more that passes leaves the lines without a fault.
pub still_no_fault : (earlier : List Line) (l : Line) → fault_from [] earlier ≡ None → line_fault earlier l ≡ None → fault_from [] (earlier ++ l ∷ []) ≡ None
still_no_fault earlier l before here = fault_behind [] earlier (l ∷ []) before ∙ ap (λ f. option_or f None) here

-- The first line that fails decides.
pub fault_here : (earlier : List Line) (l : Line) (rest : List Line) (f : ReadFault) → fault_from [] earlier ≡ None → line_fault earlier l ≡ Some f → fault_from [] (earlier ++ l ∷ rest) ≡ Some f
fault_here earlier l rest f before here = fault_behind [] earlier (l ∷ rest) before ∙ or_some (line_fault earlier l) (fault_from (earlier ++ l ∷ []) rest) f here

-- ---- of a text

some_behind : (earlier : List Line) (l : Line) (rest : List Line) → is_empty (earlier ++ l ∷ rest) ≡ false
some_behind [] l rest = refl
some_behind (k ∷ earlier) l rest = refl

pub text_fault_here : (bytes : List ℕ) (earlier : List Line) (l : Line) (rest : List Line) (f : ReadFault) → logical_lines bytes ≡ earlier ++ l ∷ rest → fault_from [] earlier ≡ None → line_fault earlier l ≡ Some f → read_fault bytes ≡ Some f
text_fault_here bytes earlier l rest f cut before here =
    ap (λ ls. cond (is_empty ls) (Some (no_model 0)) (fault_from [] ls)) cut
    ∙ (ap (λ b. cond b (Some (no_model 0)) (fault_from [] (earlier ++ l ∷ rest))) (some_behind earlier l rest) ∙ fault_here earlier l rest f before here)

pub text_without_lines : (bytes : List ℕ) → logical_lines bytes ≡ [] → read_fault bytes ≡ Some (no_model 0)
text_without_lines bytes cut = ap (λ ls. cond (is_empty ls) (Some (no_model 0)) (fault_from [] ls)) cut

pub text_has_no_fault : (bytes : List ℕ) (l : Line) (rest : List Line) → logical_lines bytes ≡ l ∷ rest → fault_from [] (l ∷ rest) ≡ None → read_fault bytes ≡ None
text_has_no_fault bytes l rest cut none = ap (λ ls. cond (is_empty ls) (Some (no_model 0)) (fault_from [] ls)) cut ∙ none

-- what a text without a fault tells of its lines
pub no_fault_tells : (bytes : List ℕ) → read_fault bytes ≡ None → (is_empty (logical_lines bytes) ≡ false) × (fault_from [] (logical_lines bytes) ≡ None)
no_fault_tells bytes h = go (is_empty (logical_lines bytes)) (fault_from [] (logical_lines bytes)) h
  where
    go : (b : Bool) (f : Option ReadFault) → cond b (Some (no_model 0)) f ≡ None → (b ≡ false) × (f ≡ None)
    go true f h = cc h
    go false f h = (refl, h)
