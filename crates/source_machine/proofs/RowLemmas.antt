-- Latches by the numbers of their names.
use Rattle.std.proofs.Common.{◌≡◌, refl, sym, ◌∙◌, ap, ap₂, subst, ℕ, ◌+◌, ◌<◌, List, [], ◌∷◌, ◌++◌, map, filter_map, take, get_or, length, Bool, true, Option, None, All, arith}
use Rattle.std.proofs.lemmas.List.{take_more}
use Rattle.std.proofs.lemmas.List.Elements.{recursion_from_All, All-from_recursion, filter_map-append}
use Rattle.std.specs.List.{AllByRecursion, cons_option}
use Rattle.netlist_spec.specs.Netlist.{Name, are_distinct, Located}
use Rattle.netlist_spec.specs.Models.{Latch as ModelLatch, as_latch, latch_inputs, init_bit, init_bits, output_nets}
use Rattle.netlist_spec.specs.Gates.{LatchRow}
use Rattle.imp_text.specs.declared.names.NameId.{NameId}
use Rattle.blif_read.specs.declared.file.Port.{Port as ReadPort}
use Rattle.blif_read.specs.declared.file.Located.{Located as ReadLocated}
use Rattle.blif_read.specs.declared.file.Model.{Model as ReadModel}
use Rattle.blif_read.specs.declared.file.Clocking.{Clocking as ReadClocking}
use Rattle.blif_read.specs.declared.file.Statement.{Statement as ReadStatement}
use Rattle.blif_read.specs.declared.file.Statement.TheVariants.{Names, Latch, Subckt}
use Rattle.blif_read.specs.Ids.{IsIdOf, ids_in, HasIds}
use Rattle.blif_read.specs.View.{name_at, located_of, statement_of, model_of, port_of}
use Rattle.lowering.specs.Nets.{net_in}
use Rattle.model_lowering.proofs.NetIn.{name_has_place}
use Rattle.source_machine.specs.Rows.{shown_by, shown_id, row_by, row_for}

-- ---- line by line

filter_map_next : {A B : Type 0} (f : A → Option B) (xs : List A) (i : ℕ) (d : A) → i < length xs → filter_map f (take (i + 1) xs) ≡ filter_map f (take i xs) ++ cons_option (f (get_or xs i d)) []
filter_map_next f xs i d h = ap (filter_map f) (take_more xs i d h) ∙ filter_map-append f (take i xs) (get_or xs i d ∷ [])

-- what a line gives
pub given_next : {B : Type 0} (f : ReadLocated → Option B) (ss : List ReadLocated) (i : ℕ) (s : ReadLocated) (o : Option B) → i < length ss → s ≡ get_or ss i s → f s ≡ o
    → filter_map f (take (i + 1) ss) ≡ filter_map f (take i ss) ++ cons_option o []
given_next f ss i s o h is e = filter_map_next f ss i s h ∙ ap (λ p. filter_map f (take i ss) ++ cons_option p []) (ap f (sym is) ∙ e)

pub no_output : (s : ReadStatement) → ((d q : NameId) (clocking : ReadClocking) (init : Option ℕ) → s ≡ Latch d q clocking init → ⊥) → shown_by s ≡ None
no_output (Names ins out cover) none = refl
no_output (Latch d q clocking init) none = absurd (none d q clocking init refl)
no_output (Subckt model binds) none = refl

pub no_row : (table : List ℕ) (s : ReadStatement) → ((d q : NameId) (clocking : ReadClocking) (init : Option ℕ) → s ≡ Latch d q clocking init → ⊥) → row_by table s ≡ None
no_row table (Names ins out cover) none = refl
no_row table (Latch d q clocking init) none = absurd (none d q clocking init refl)
no_row table (Subckt model binds) none = refl

-- the number of what a latch stores
pub stores_name : (m : ReadModel) (ids : HasIds m) (ss : List ReadLocated) → ss ≡ m.statements.items → (i : ℕ) (s : ReadLocated) → i < length ss → s ≡ get_or ss i s
    → (d q : NameId) (clocking : ReadClocking) (init : Option ℕ) → s.what ≡ Latch d q clocking init → d.0 < length m.names
stores_name m ids ss same i s h is d q clocking init e =
    let here : All (IsIdOf m.names) (ids_in s.what)
    = subst (λ (x : ReadLocated). All (IsIdOf m.names) (ids_in x.what)) (sym is)
    (subst (λ (l : List ReadLocated). All (λ (x : ReadLocated). All (IsIdOf m.names) (ids_in x.what)) l) (sym same) ids.statements i s h) in
    (subst (λ (x : ReadStatement). All (IsIdOf m.names) (ids_in x)) e here) 0 d (omega arith)

-- ---- whole lists

abbrev latches_in : List Name → List ReadLocated → List ModelLatch
latches_in ns ss = filter_map (λ (s : Located). as_latch s.what) (map (located_of ns) ss)

one_shown : (ns : List Name) (s : ReadStatement) (ids : List NameId) (ls : List ModelLatch) → map (name_at ns) ids ≡ map (λ l. l.q) ls → map (name_at ns) (cons_option (shown_by s) ids) ≡ map (λ l. l.q) (cons_option (as_latch (statement_of ns s)) ls)
one_shown ns (Names ins out cover) ids ls e = e
one_shown ns (Latch d q clocking init) ids ls e = ap (λ (rest : List Name). name_at ns q ∷ rest) e
one_shown ns (Subckt model binds) ids ls e = e

pub shown_are : (ns : List Name) (ss : List ReadLocated) → map (name_at ns) (filter_map shown_id ss) ≡ map (λ l. l.q) (latches_in ns ss)
shown_are ns [] = refl
shown_are ns (s ∷ ss) = one_shown ns s.what (filter_map shown_id ss) (latches_in ns ss) (shown_are ns ss)

one_id : (ns : List Name) (s : ReadStatement) (ids : List NameId) → AllByRecursion (IsIdOf ns) (ids_in s) → AllByRecursion (IsIdOf ns) ids → AllByRecursion (IsIdOf ns) (cons_option (shown_by s) ids)
one_id ns (Names ins out cover) ids a b = b
one_id ns (Latch d q clocking init) ids a b = (a.1.0, b)
one_id ns (Subckt model binds) ids a b = b

shown_within : (ns : List Name) (ss : List ReadLocated) → AllByRecursion (λ s. All (IsIdOf ns) (ids_in s.what)) ss → AllByRecursion (IsIdOf ns) (filter_map shown_id ss)
shown_within ns [] a = tt
shown_within ns (s ∷ ss) a = one_id ns s.what (filter_map shown_id ss) (recursion_from_All (IsIdOf ns) (ids_in s.what) a.0) (shown_within ns ss a.1)

pub shown_ids : (ns : List Name) (ss : List ReadLocated) → All (λ (s : ReadLocated). All (IsIdOf ns) (ids_in s.what)) ss → All (IsIdOf ns) (filter_map shown_id ss)
shown_ids ns ss a = All-from_recursion (IsIdOf ns) (filter_map shown_id ss) (shown_within ns ss (recursion_from_All (λ (s : ReadLocated). All (IsIdOf ns) (ids_in s.what)) ss a))

-- ---- rows

module _ (ns : List Name) (table : List ℕ) (distinct : are_distinct ns ≡ true) where
  -- by the number as by the name
  by_name : (id : NameId) → IsIdOf ns id → get_or table id.0 0 ≡ net_in ns table (name_at ns id)
  by_name id within = ap (λ (k : ℕ). get_or table k 0) (sym (name_has_place ns id distinct within))

  one_stored : (s : ReadStatement) (rows : List LatchRow) (ls : List ModelLatch) → AllByRecursion (IsIdOf ns) (ids_in s) → map (λ r. r.d) rows ≡ map (net_in ns table) (map (λ l. l.d) ls)
      → map (λ r. r.d) (cons_option (row_by table s) rows) ≡ map (net_in ns table) (map (λ l. l.d) (cons_option (as_latch (statement_of ns s)) ls))
  one_stored (Names ins out cover) rows ls a e = e
  one_stored (Latch d q clocking init) rows ls a e = ap₂ (λ (k : ℕ) (rest : List ℕ). k ∷ rest) (by_name d a.0) e
  one_stored (Subckt model binds) rows ls a e = e

  stored_each : (ss : List ReadLocated) → AllByRecursion (λ s. All (IsIdOf ns) (ids_in s.what)) ss → map (λ r. r.d) (filter_map (row_for table) ss) ≡ map (net_in ns table) (map (λ l. l.d) (latches_in ns ss))
  stored_each [] a = refl
  stored_each (s ∷ ss) a = one_stored s.what (filter_map (row_for table) ss) (latches_in ns ss) (recursion_from_All (IsIdOf ns) (ids_in s.what) a.0) (stored_each ss a.1)

  one_init : (s : ReadStatement) (rows : List LatchRow) (ls : List ModelLatch) → map (λ r. r.init) rows ≡ map (λ l. init_bit l.init) ls
      → map (λ r. r.init) (cons_option (row_by table s) rows) ≡ map (λ l. init_bit l.init) (cons_option (as_latch (statement_of ns s)) ls)
  one_init (Names ins out cover) rows ls e = e
  one_init (Latch d q clocking init) rows ls e = ap (λ (rest : List Bool). init_bit init ∷ rest) e
  one_init (Subckt model binds) rows ls e = e

  init_each : (ss : List ReadLocated) → map (λ r. r.init) (filter_map (row_for table) ss) ≡ map (λ l. init_bit l.init) (latches_in ns ss)
  init_each [] = refl
  init_each (s ∷ ss) = one_init s.what (filter_map (row_for table) ss) (latches_in ns ss) (init_each ss)

  ports_each : (ps : List ReadPort) → AllByRecursion (λ (p : ReadPort). IsIdOf ns p.name) ps → map (λ (p : ReadPort). get_or table p.name.0 0) ps ≡ map (net_in ns table) (map (λ p. p.name) (map (port_of ns) ps))
  ports_each [] a = refl
  ports_each (p ∷ ps) a = ap₂ (λ (k : ℕ) (rest : List ℕ). k ∷ rest) (by_name p.name a.0) (ports_each ps a.1)

module _ (m : ReadModel) (ids : HasIds m) (table : List ℕ) (distinct : are_distinct m.names ≡ true) where
  pub rows_store : (rows : List LatchRow) → rows ≡ filter_map (row_for table) m.statements.items → map (net_in m.names table) (latch_inputs (model_of m)) ≡ map (λ r. r.d) rows
  rows_store rows e =
      sym (ap (map (λ (r : LatchRow). r.d)) e ∙ stored_each m.names table distinct m.statements.items (recursion_from_All (λ (s : ReadLocated). All (IsIdOf m.names) (ids_in s.what)) m.statements.items ids.statements))

  pub rows_begin : (rows : List LatchRow) → rows ≡ filter_map (row_for table) m.statements.items → map (λ r. r.init) rows ≡ init_bits (model_of m)
  rows_begin rows e = ap (map (λ (r : LatchRow). r.init)) e ∙ init_each m.names table distinct m.statements.items

  pub outputs_are : map (λ (p : ReadPort). get_or table p.name.0 0) m.outputs.items ≡ map (net_in m.names table) (output_nets (model_of m))
  outputs_are = ports_each m.names table distinct m.outputs.items (recursion_from_All (λ (p : ReadPort). IsIdOf m.names p.name) m.outputs.items ids.outputs)
