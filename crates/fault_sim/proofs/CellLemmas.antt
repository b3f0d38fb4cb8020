-- Cells by number.
use Rattle.std.proofs.Common.{◌≡◌, ◌≢◌, refl, sym, ◌∙◌, ap, subst, ℕ, zero, suc, ◌+◌, ◌<◌, List, [], ◌∷◌, ◌++◌, map, take, length, Bool, false, ◌||◌, get_or, set, slice_get, Option, None, Some, arith, inl, inr, ◌⊎◌}
use Rattle.std.specs.Prelude.{MatchOption, IfSome, IfNone}
use Rattle.std.specs.List.{AllByRecursion}
use Rattle.std.proofs.lemmas.List.{length-set, get_or-set_same, get_or-set_other, map-append, take_more}
use Rattle.netlist_spec.specs.Netlist.{Name, same_name, stands_in}
use Rattle.netlist_spec.proofs.OneValue.{fails_first}
use Rattle.imp_text.specs.declared.names.NameId.{NameId}
use Rattle.imp_text.proofs.NamesLemmas.{stands_in-append, slice_get_last, slice_get-append_left}
use Rattle.blif_read.specs.View.{name_at}
use Rattle.line_order.proofs.MarkLemmas.{apart}
use Rattle.fault_sim.specs.declared.cells.CellId.{CellId}
use Rattle.fault_sim.specs.Cells.{AreCells}

same_or_other : (j k : ℕ) → (j ≡ k) ⊎ (j ≢ k)
same_or_other j k = grind arith

abbrev Known : List Name → Name → Option CellId → Type 0
Known ns n o = MatchOption o (stands_in n ns ≡ false) (λ (c : CellId). slice_get ns c.0 ≡ Some n)

-- One more cell.
pub cell_noted : (all cells : List Name) (by_net : List (Option CellId)) (id : NameId) (cell : CellId) → id.0 < length by_net → AreCells all cells by_net → cell.0 ≡ length cells → AreCells all (cells ++ name_at all id ∷ []) (set by_net id.0 (Some cell))
cell_noted all cells by_net id cell inside a e =
    record { distinct = a.distinct; each_net = length-set by_net id.0 (Some cell) ∙ a.each_net; cell = λ k h. at k h (same_or_other k id.0) }
  where
    within : id.0 < length all
    within = subst (λ (l : ℕ). id.0 < l) a.each_net inside

    kept : (n : Name) (o : Option CellId) → same_name n (name_at all id) ≡ false → Known cells n o → Known (cells ++ name_at all id ∷ []) n o
    kept n None other h = stands_in-append n cells (name_at all id ∷ []) ∙ (ap (λ (b : Bool). b || (same_name n (name_at all id) || false)) h ∙ ap (λ (b : Bool). b || false) other)
    kept n (Some c) other h = slice_get-append_left cells (name_at all id ∷ []) c.0 n h

    at : (k : ℕ) → k < length all → (k ≡ id.0) ⊎ (k ≢ id.0) → Known (cells ++ name_at all id ∷ []) (get_or all k []) (get_or (set by_net id.0 (Some cell)) k None)
    at k h (inl f) =
        let own : get_or (set by_net id.0 (Some cell)) k None ≡ Some cell = ap (λ j. get_or (set by_net id.0 (Some cell)) j None) f ∙ get_or-set_same by_net id.0 (Some cell) None inside in
        subst (λ o. Known (cells ++ name_at all id ∷ []) (get_or all k []) o) (sym own)
        (ap (slice_get (cells ++ name_at all id ∷ [])) e ∙ (slice_get_last cells (name_at all id) ∙ ap (λ j. Some (get_or all j [])) (sym f)))
    at k h (inr other) =
        subst (λ o. Known (cells ++ name_at all id ∷ []) (get_or all k []) o) (sym (get_or-set_other by_net id.0 k (Some cell) None other))
        (kept (get_or all k []) (get_or by_net k None) (apart all k id.0 a.distinct h within other) (a.cell k h))

-- a name that is none of all is no cell
pub no_cell : (all : List Name) (n : Name) (ids : List NameId) → AllByRecursion (λ (id : NameId). id.0 < length all) ids → stands_in n all ≡ false → stands_in n (map (name_at all) ids) ≡ false
no_cell all n [] w h = refl
no_cell all n (id ∷ ids) w h = ap (λ (b : Bool). b || stands_in n (map (name_at all) ids)) (stands_at all id.0 w.0 h) ∙ no_cell all n ids w.1 h
  where
    stands_at : (ns : List Name) (k : ℕ) → k < length ns → stands_in n ns ≡ false → same_name n (get_or ns k []) ≡ false
    stands_at [] k g f = absurd (omega arith)
    stands_at (m ∷ ns) zero g f = (fails_first _ _ f).0
    stands_at (m ∷ ns) (suc k) g f = stands_at ns k (omega arith) (fails_first _ _ f).1

pub found_at : (all : List Name) (k : ℕ) (n : Name) → slice_get all k ≡ Some n → (get_or all k [] ≡ n) × (k < length all)
found_at [] k n h = absurd (cc h)
found_at (m ∷ ns) zero n h = (cc h, omega arith)
found_at (m ∷ ns) (suc k) n h = let r = found_at ns k n h in (r.0, let b : k < length ns = r.1 in omega arith)

-- ---- the cell of a net

default_none : {A : Type 0} (os : List (Option A)) (k : ℕ) (o : Option A) → k < length os → o ≡ get_or os k o → get_or os k None ≡ o
default_none [] k o h e = absurd (omega arith)
default_none (x ∷ os) zero o h e = sym e
default_none (x ∷ os) (suc k) o h e = default_none os k o (omega arith) e

told : (all cells : List Name) (by_net : List (Option CellId)) (a : AreCells all cells by_net) (k : ℕ) (o : Option CellId) (n : Name) → k < length by_net → o ≡ get_or by_net k o → slice_get all k ≡ Some n → Known cells n o
told all cells by_net a k o n h e s =
    let f = found_at all k n s in
    subst (λ (m : Name). Known cells m o) f.0 (subst (λ (p : Option CellId). Known cells (get_or all k []) p) (default_none by_net k o h e) (a.cell k f.1))

pub told_place : (all cells : List Name) (by_net : List (Option CellId)) (a : AreCells all cells by_net) (k : ℕ) (o : Option CellId) (n : Name) → k < length by_net → o ≡ get_or by_net k o → slice_get all k ≡ Some n → IfSome o (λ (c : CellId). slice_get cells c.0 ≡ Some n)
told_place all cells by_net a k o n h e s = at o (told all cells by_net a k o n h e s)
  where
    at : (p : Option CellId) → Known cells n p → IfSome p (λ (c : CellId). slice_get cells c.0 ≡ Some n)
    at None t = tt
    at (Some c) t = t

pub told_absent : (all cells : List Name) (by_net : List (Option CellId)) (a : AreCells all cells by_net) (k : ℕ) (o : Option CellId) (n : Name) → k < length by_net → o ≡ get_or by_net k o → slice_get all k ≡ Some n → IfNone o (stands_in n cells ≡ false)
told_absent all cells by_net a k o n h e s = at o (told all cells by_net a k o n h e s)
  where
    at : (p : Option CellId) → Known cells n p → IfNone p (stands_in n cells ≡ false)
    at None t = t
    at (Some c) t = tt

-- the cells so far
pub cells_more : (all : List Name) (cells : List NameId) (i : ℕ) (d : NameId) → i < length cells → map (name_at all) (take (i + 1) cells) ≡ map (name_at all) (take i cells) ++ name_at all (get_or cells i d) ∷ []
cells_more all cells i d h = ap (map (name_at all)) (take_more cells i d h) ∙ map-append (name_at all) (take i cells) (get_or cells i d ∷ [])

pub count_so_far : (all : List Name) (cells : List NameId) (i : ℕ) → i < length cells → i ≡ length (map (name_at all) (take i cells))
count_so_far all [] i h = absurd (omega arith)
count_so_far all (x ∷ cells) zero h = refl
count_so_far all (x ∷ cells) (suc i) h = ap suc (count_so_far all cells i (omega arith))
