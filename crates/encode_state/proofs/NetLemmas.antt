-- The nets that latches show, by numbers and by names.
use Rattle.std.proofs.Common.{◌≡◌, refl, sym, ◌∙◌, ap, ℕ, ◌<◌, ◌+◌, List, [], ◌∷◌, ◌++◌, length, map, take, get_or, append-nil, All, Option, None, Some, arith}
use Rattle.std.specs.Prelude.{filter_map}
use Rattle.std.specs.List.{cons_option}
use Rattle.std.proofs.lemmas.List.{take_more}
use Rattle.std.proofs.lemmas.List.Elements.{filter_map-append, All-cons, All-head, All-tail, All-nil}
use Rattle.imp_text.specs.declared.names.NameId.{NameId}
use Rattle.netlist_spec.specs.Netlist.{Name, Located as NamedLocated}
use Rattle.netlist_spec.specs.Models.{Latch as NamedLatch, as_latch}
use Rattle.blif_read.specs.declared.file.Located.{Located}
use Rattle.blif_read.specs.declared.file.Statement.{Statement}
use Rattle.blif_read.specs.declared.file.Statement.TheVariants.{Names, Latch, Subckt}
use Rattle.blif_read.specs.Ids.{ids_in}
use Rattle.blif_read.specs.View.{located_of, name_at, statement_of}
use Rattle.encode_state.specs.Nets.{shown_id}

-- one more element
pub found_some : {X Y : Type 0} (h : X → Option Y) (xs : List X) (i : ℕ) (x : X) (y : Y) (ids new : List Y) → i < length xs → x ≡ get_or xs i x → h x ≡ Some y → new ≡ ids ++ y ∷ [] → ids ≡ filter_map h (take i xs) → new ≡ filter_map h (take (i + 1) xs)
found_some {Y = Y} h xs i x y ids new inside is at last before =
    last ∙ (ap (λ (l : List Y). l ++ y ∷ []) before ∙ sym (ap (filter_map h) (take_more xs i x inside) ∙ (filter_map-append h (take i xs) (get_or xs i x ∷ []) ∙ ap (λ (o : Option Y). filter_map h (take i xs) ++ cons_option o []) (ap h (sym is) ∙ at))))

pub found_none : {X Y : Type 0} (h : X → Option Y) (xs : List X) (i : ℕ) (x : X) (ids new : List Y) → i < length xs → x ≡ get_or xs i x → h x ≡ None → new ≡ ids → ids ≡ filter_map h (take i xs) → new ≡ filter_map h (take (i + 1) xs)
found_none {Y = Y} h xs i x ids new inside is at last before =
    last ∙ (before ∙ sym (ap (filter_map h) (take_more xs i x inside) ∙ (filter_map-append h (take i xs) (get_or xs i x ∷ []) ∙ (ap (λ (o : Option Y). filter_map h (take i xs) ++ cons_option o []) (ap h (sym is) ∙ at) ∙ append-nil (filter_map h (take i xs))))))

-- the latches among some statements
abbrev pub latches_in : List Name → List Located → List NamedLatch
latches_in all ss = filter_map (λ (s : NamedLocated). as_latch s.what) (map (located_of all) ss)

shown_next : (all : List Name) (s : Statement) (ids : List NameId) (ls : List NamedLatch) → map (name_at all) ids ≡ map (λ l. l.q) ls → map (name_at all) (cons_option (shown_id s) ids) ≡ map (λ l. l.q) (cons_option (as_latch (statement_of all s)) ls)
shown_next all (Names ins out cover) ids ls e = e
shown_next all (Latch d q clocking init) ids ls e = ap (λ (ns : List Name). name_at all q ∷ ns) e
shown_next all (Subckt model binds) ids ls e = e

pub shown_names : (all : List Name) (ss : List Located) → map (name_at all) (filter_map (λ (s : Located). shown_id s.what) ss) ≡ map (λ l. l.q) (latches_in all ss)
shown_names all [] = refl
shown_names all (s ∷ ss) = shown_next all s.what (filter_map (λ (s : Located). shown_id s.what) ss) (latches_in all ss) (shown_names all ss)

shown_one : (P : NameId → Type 0) (s : Statement) (ids : List NameId) → All P (ids_in s) → All P ids → All P (cons_option (shown_id s) ids)
shown_one P (Names ins out cover) ids a b = b
shown_one P (Latch d q clocking init) ids a b = All-cons P q ids (a 1 q (omega arith)) b
shown_one P (Subckt model binds) ids a b = b

pub shown_within : (P : NameId → Type 0) (ss : List Located) → All (λ (s : Located). All P (ids_in s.what)) ss → All P (filter_map (λ (s : Located). shown_id s.what) ss)
shown_within P [] a = All-nil P
shown_within P (s ∷ ss) a =
    shown_one P s.what (filter_map (λ (s : Located). shown_id s.what) ss) (All-head (λ (s : Located). All P (ids_in s.what)) s ss a) (shown_within P ss (All-tail (λ (s : Located). All P (ids_in s.what)) s ss a))
