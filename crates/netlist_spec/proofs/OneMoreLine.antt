-- What the tests ask of the lines before, when one line more is before.
use Rattle.std.proofs.Common.{◌≡◌, refl, sym, ◌∙◌, ap, ◌+◌, List, [], ◌∷◌, ◌++◌, Bool, true, false, ◌||◌, not, cond, append_assoc, append-nil, Some, None, filter}
use Rattle.std.specs.Prelude.{count_by}
use Rattle.std.specs.List.{list_any}
use Rattle.netlist_spec.specs.Lines.{Line}
use Rattle.netlist_spec.specs.ReadFaults.{Kind, model_kind, end_kind, row_kind, is_kind, last_line, is_kind_of_some, open_inputs, open_rows, inputs_of_cover, lines_of_model, model_names, names_declared}
use Rattle.netlist_spec.proofs.NoFault.{any_snoc, last_snoc, filter_keeps, filter_drops, behind_hit, behind_miss, sum_snoc, declares, counts, new_names}

-- whether the line before is `.end`
pub end_before : (earlier : List Line) (l : Line) → is_kind_of_some end_kind (last_line (earlier ++ l ∷ [])) ≡ is_kind end_kind l
end_before earlier l = ap (is_kind_of_some end_kind) (last_snoc None earlier l)

-- whether a `.model` is before
pub model_before : (earlier : List Line) (l : Line) → list_any (is_kind model_kind) (earlier ++ l ∷ []) ≡ (list_any (is_kind model_kind) earlier || is_kind model_kind l)
model_before earlier l = any_snoc (is_kind model_kind) earlier l

-- A row leaves the inputs of the cover that is open, and each other line sets them.
pub inputs_open : (earlier : List Line) (l : Line) → open_inputs (earlier ++ l ∷ []) ≡ cond (is_kind row_kind l) (open_inputs earlier) (inputs_of_cover (Some l))
inputs_open earlier l = go (is_kind row_kind l) refl
  where
    go : (b : Bool) → is_kind row_kind l ≡ b → open_inputs (earlier ++ l ∷ []) ≡ cond b (open_inputs earlier) (inputs_of_cover (Some l))
    go true e = ap (λ ls. inputs_of_cover (last_line ls)) (filter_drops (λ k. not (is_kind row_kind k)) earlier l (ap not e))
    go false e =
        ap (λ ls. inputs_of_cover (last_line ls)) (filter_keeps (λ k. not (is_kind row_kind k)) earlier l (ap not e))
        ∙ ap inputs_of_cover (last_snoc None (filter (λ k. not (is_kind row_kind k)) earlier) l)

-- A row joins the rows of the cover that is open, and each other line ends them.
pub rows_open : (earlier : List Line) (l : Line) → open_rows (earlier ++ l ∷ []) ≡ cond (is_kind row_kind l) (open_rows earlier ++ l ∷ []) []
rows_open earlier l = go (is_kind row_kind l) refl
  where
    go : (b : Bool) → is_kind row_kind l ≡ b → open_rows (earlier ++ l ∷ []) ≡ cond b (open_rows earlier ++ l ∷ []) []
    go true e = behind_miss (λ k. not (is_kind row_kind k)) earlier l (ap not e)
    go false e = behind_hit (λ k. not (is_kind row_kind k)) earlier l (ap not e)

-- A `.model` begins its lines, and each other line joins them.
pub model_lines : (earlier : List Line) (l : Line) → lines_of_model (earlier ++ l ∷ []) ≡ cond (is_kind model_kind l) [] (lines_of_model earlier ++ l ∷ [])
model_lines earlier l = go (is_kind model_kind l) refl
  where
    go : (b : Bool) → is_kind model_kind l ≡ b → lines_of_model (earlier ++ l ∷ []) ≡ cond b [] (lines_of_model earlier ++ l ∷ [])
    go true e = behind_hit (is_kind model_kind) earlier l e
    go false e = behind_miss (is_kind model_kind) earlier l e

-- the names of the models before
pub models_before : (earlier : List Line) (l : Line) → model_names (earlier ++ l ∷ []) ≡ model_names earlier ++ new_names l
models_before [] l = append-nil (new_names l)
models_before (k ∷ earlier) l = ap (λ ns. new_names k ++ ns) (models_before earlier l) ∙ sym (append_assoc (new_names k) (model_names earlier) (new_names l))

-- the names that some lines declare, and how many of them pass a test
pub declared_before : (k : Kind) (lines : List Line) (l : Line) → names_declared k (lines ++ l ∷ []) ≡ names_declared k lines + declares k l
declared_before k lines l = sum_snoc (declares k) lines l

pub counted_before : (p : Line → Bool) (lines : List Line) (l : Line) → count_by p (lines ++ l ∷ []) ≡ count_by p lines + counts p l
counted_before p lines l = sum_snoc (counts p) lines l
