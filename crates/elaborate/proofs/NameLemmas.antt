-- What was read of a model's names, ports and latches, by name in place of number.
use Rattle.std.proofs.Common.{◌≡◌, refl, sym, ◌∙◌, ap, ℕ, suc, ◌+◌, ◌<◌, ◌≤◌, List, [], ◌∷◌, ◌++◌, map, filter_map, take, length, get_or, Option, None, Bool, true, false, cond, All, arith}
use Rattle.std.proofs.lemmas.List.{take_more, length-map}
use Rattle.std.proofs.lemmas.List.Elements.{recursion_from_All, All-from_recursion, filter_map-append}
use Rattle.std.proofs.lemmas.List.Sums.{sum_by-cons, count_by-le-length}
use Rattle.std.specs.Prelude.{count_by}
use Rattle.std.specs.List.{AllByRecursion, cons_option}
use Rattle.netlist_spec.specs.Netlist.{Name, Model, Located}
use Rattle.netlist_spec.specs.Placed.{port_names}
use Rattle.netlist_spec.specs.Models.{Latch as ModelLatch, as_latch, latches_of, latch_outputs, is_unknown, unknown_inits}
use Rattle.imp_text.specs.declared.names.NameId.{NameId}
use Rattle.blif_read.specs.declared.file.Port.{Port as ReadPort}
use Rattle.blif_read.specs.declared.file.Located.{Located as ReadLocated}
use Rattle.blif_read.specs.declared.file.Clocking.{Clocking as ReadClocking}
use Rattle.blif_read.specs.declared.file.Statement.{Statement as ReadStatement}
use Rattle.blif_read.specs.declared.file.Statement.TheVariants.{Names, Latch, Subckt}
use Rattle.blif_read.specs.Ids.{IsIdOf, ids_in}
use Rattle.blif_read.specs.View.{name_at, port_of, located_of, statement_of, clocking_of}
use Rattle.elaborate.specs.Numbers.{shown_by, shown_id, has_unknown_init}

-- ---- line by line

filter_map_next : {A B : Type 0} (f : A → Option B) (xs : List A) (i : ℕ) (d : A) → i < length xs → filter_map f (take (i + 1) xs) ≡ filter_map f (take i xs) ++ cons_option (f (get_or xs i d)) []
filter_map_next f xs i d h = ap (filter_map f) (take_more xs i d h) ∙ filter_map-append f (take i xs) (get_or xs i d ∷ [])

-- what a line gives
pub given_next : {B : Type 0} (f : ReadLocated → Option B) (ss : List ReadLocated) (i : ℕ) (s : ReadLocated) (o : Option B) → i < length ss → s ≡ get_or ss i s → f s ≡ o
    → filter_map f (take (i + 1) ss) ≡ filter_map f (take i ss) ++ cons_option o []
given_next f ss i s o h is e = filter_map_next f ss i s h ∙ ap (λ p. filter_map f (take i ss) ++ cons_option p []) (ap f (sym is) ∙ e)

pub no_output : (s : ReadStatement) → ((d q : NameId) (clocking : ReadClocking) (init : Option ℕ) → s ≡ Latch d q clocking init → ⊥) → shown_by s ≡ None
no_output (Names ins out cover) none = refl
no_output (Latch d q clocking init) none = absurd (none d q clocking init refl)
no_output (Subckt model binds) none = refl

-- ---- ports and latches by number

pub port_names_are : (ns : List Name) (ps : List ReadPort) → map (name_at ns) (map (λ (p : ReadPort). p.name) ps) ≡ port_names (map (port_of ns) ps)
port_names_are ns [] = refl
port_names_are ns (p ∷ ps) = ap (λ (rest : List Name). name_at ns p.name ∷ rest) (port_names_are ns ps)

abbrev latches_in : List Name → List ReadLocated → List ModelLatch
latches_in ns ss = filter_map (λ (s : Located). as_latch s.what) (map (located_of ns) ss)

one_shown : (ns : List Name) (s : ReadStatement) (ids : List NameId) (ls : List ModelLatch) → map (name_at ns) ids ≡ map (λ l. l.q) ls → map (name_at ns) (cons_option (shown_by s) ids) ≡ map (λ l. l.q) (cons_option (as_latch (statement_of ns s)) ls)
one_shown ns (Names ins out cover) ids ls e = e
one_shown ns (Latch d q clocking init) ids ls e = ap (λ (rest : List Name). name_at ns q ∷ rest) e
one_shown ns (Subckt model binds) ids ls e = e

pub shown_are : (ns : List Name) (ss : List ReadLocated) → map (name_at ns) (filter_map shown_id ss) ≡ map (λ l. l.q) (latches_in ns ss)
shown_are ns [] = refl
shown_are ns (s ∷ ss) = one_shown ns s.what (filter_map shown_id ss) (latches_in ns ss) (shown_are ns ss)

one_id : (ns : List Name) (s : ReadStatement) (ids : List NameId) → AllByRecursion (IsIdOf ns) (ids_in s) → AllByRecursion (IsIdOf ns) ids → AllByRecursion (IsIdOf ns) (cons_option (shown_by s) ids)
one_id ns (Names ins out cover) ids a b = b
one_id ns (Latch d q clocking init) ids a b = (a.1.0, b)
one_id ns (Subckt model binds) ids a b = b

shown_within : (ns : List Name) (ss : List ReadLocated) → AllByRecursion (λ s. All (IsIdOf ns) (ids_in s.what)) ss → AllByRecursion (IsIdOf ns) (filter_map shown_id ss)
shown_within ns [] a = tt
shown_within ns (s ∷ ss) a = one_id ns s.what (filter_map shown_id ss) (recursion_from_All (IsIdOf ns) (ids_in s.what) a.0) (shown_within ns ss a.1)

pub shown_ids : (ns : List Name) (ss : List ReadLocated) → All (λ (s : ReadLocated). All (IsIdOf ns) (ids_in s.what)) ss → All (IsIdOf ns) (filter_map shown_id ss)
shown_ids ns ss a = All-from_recursion (IsIdOf ns) (filter_map shown_id ss) (shown_within ns ss (recursion_from_All (λ (s : ReadLocated). All (IsIdOf ns) (ids_in s.what)) ss a))

ports_within : (ns : List Name) (ps : List ReadPort) → AllByRecursion (λ p. IsIdOf ns p.name) ps → AllByRecursion (IsIdOf ns) (map (λ (p : ReadPort). p.name) ps)
ports_within ns [] a = tt
ports_within ns (p ∷ ps) a = (a.0, ports_within ns ps a.1)

pub port_ids_within : (ns : List Name) (ps : List ReadPort) → All (λ (p : ReadPort). IsIdOf ns p.name) ps → All (IsIdOf ns) (map (λ (p : ReadPort). p.name) ps)
port_ids_within ns ps a = All-from_recursion (IsIdOf ns) (map (λ (p : ReadPort). p.name) ps) (ports_within ns ps (recursion_from_All (λ (p : ReadPort). IsIdOf ns p.name) ps a))

-- ---- unknown inits

count_cons : {A : Type 0} (p : A → Bool) (x : A) (xs : List A) → count_by p (x ∷ xs) ≡ cond (p x) (suc (count_by p xs)) (count_by p xs)
count_cons p x xs = sum_by-cons (λ y. cond (p y) 1 0) x xs ∙ one (p x) (count_by p xs)
  where
    one : (b : Bool) (n : ℕ) → cond b 1 0 + n ≡ cond b (suc n) n
    one true n = omega arith
    one false n = omega arith

one_unknown : (ns : List Name) (s : ReadStatement) (n : ℕ) (ls : List ModelLatch) → n ≡ count_by (λ l. is_unknown l.init) ls
    → cond (has_unknown_init s) (suc n) n ≡ count_by (λ l. is_unknown l.init) (cons_option (as_latch (statement_of ns s)) ls)
one_unknown ns (Names ins out cover) n ls e = e
one_unknown ns (Latch d q clocking init) n ls e =
    ap (λ (k : ℕ). cond (is_unknown init) (suc k) k) e
    ∙ sym (count_cons (λ (l : ModelLatch). is_unknown l.init) (record { d = name_at ns d; q = name_at ns q; clocking = clocking_of ns clocking; init = init }) ls)
one_unknown ns (Subckt model binds) n ls e = e

pub unknown_are : (ns : List Name) (ss : List ReadLocated) → count_by (λ (s : ReadLocated). has_unknown_init s.what) ss ≡ count_by (λ l. is_unknown l.init) (latches_in ns ss)
unknown_are ns [] = refl
unknown_are ns (s ∷ ss) = count_cons (λ (x : ReadLocated). has_unknown_init x.what) s ss ∙ one_unknown ns s.what (count_by (λ (x : ReadLocated). has_unknown_init x.what) ss) (latches_in ns ss) (unknown_are ns ss)

-- no more than there are latches
pub few_unknown : (m : Model) → unknown_inits m ≤ length (latch_outputs m)
few_unknown m =
    let a = count_by-le-length (λ (l : ModelLatch). is_unknown l.init) (latches_of m) in
    let b = length-map (latches_of m) (λ (l : ModelLatch). l.q) in
    omega arith
