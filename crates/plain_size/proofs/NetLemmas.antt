-- The nets that latches store, by numbers and by names.
use Rattle.std.proofs.Common.{◌≡◌, refl, sym, ◌∙◌, ap, ℕ, ◌<◌, ◌+◌, List, [], ◌∷◌, ◌++◌, length, map, take, get_or, append-nil, All, Option, None, Some, arith}
use Rattle.std.specs.Prelude.{filter_map}
use Rattle.std.specs.List.{cons_option}
use Rattle.std.proofs.lemmas.List.{take_more}
use Rattle.std.proofs.lemmas.List.Elements.{filter_map-append, All-cons, All-head, All-tail, All-nil}
use Rattle.imp_text.specs.declared.names.NameId.{NameId}
use Rattle.netlist_spec.specs.Netlist.{Name, Located as NamedLocated}
use Rattle.netlist_spec.specs.Models.{Latch as NamedLatch, as_latch}
use Rattle.blif_read.specs.declared.file.Located.{Located}
use Rattle.blif_read.specs.declared.file.Statement.{Statement}
use Rattle.blif_read.specs.declared.file.Statement.TheVariants.{Names, Latch, Subckt}
use Rattle.blif_read.specs.Ids.{ids_in}
use Rattle.blif_read.specs.View.{located_of, name_at, statement_of}
use Rattle.encode_state.proofs.NetLemmas.{latches_in}
use Rattle.plain_size.specs.Nets.{stored_id}

stored_next : (all : List Name) (s : Statement) (ids : List NameId) (ls : List NamedLatch) → map (name_at all) ids ≡ map (λ l. l.d) ls → map (name_at all) (cons_option (stored_id s) ids) ≡ map (λ l. l.d) (cons_option (as_latch (statement_of all s)) ls)
stored_next all (Names ins out cover) ids ls e = e
stored_next all (Latch d q clocking init) ids ls e = ap (λ (ns : List Name). name_at all d ∷ ns) e
stored_next all (Subckt model binds) ids ls e = e

pub stored_names : (all : List Name) (ss : List Located) → map (name_at all) (filter_map (λ (s : Located). stored_id s.what) ss) ≡ map (λ l. l.d) (latches_in all ss)
stored_names all [] = refl
stored_names all (s ∷ ss) = stored_next all s.what (filter_map (λ (s : Located). stored_id s.what) ss) (latches_in all ss) (stored_names all ss)

stored_one : (P : NameId → Type 0) (s : Statement) (ids : List NameId) → All P (ids_in s) → All P ids → All P (cons_option (stored_id s) ids)
stored_one P (Names ins out cover) ids a b = b
stored_one P (Latch d q clocking init) ids a b = All-cons P d ids (a 0 d (omega arith)) b
stored_one P (Subckt model binds) ids a b = b

pub stored_within : (P : NameId → Type 0) (ss : List Located) → All (λ (s : Located). All P (ids_in s.what)) ss → All P (filter_map (λ (s : Located). stored_id s.what) ss)
stored_within P [] a = All-nil P
stored_within P (s ∷ ss) a =
    stored_one P s.what (filter_map (λ (s : Located). stored_id s.what) ss) (All-head (λ (s : Located). All P (ids_in s.what)) s ss a) (stored_within P ss (All-tail (λ (s : Located). All P (ids_in s.what)) s ss a))
