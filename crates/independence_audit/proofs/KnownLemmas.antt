-- What is known of the nets of a model.
use Rattle.std.proofs.Common.{◌≡◌, refl, sym, ◌∙◌, ap, ap₂, subst, ℕ, zero, suc, ◌+◌, ◌^◌, ◌<◌, ◌≤◌, List, [], ◌∷◌, length, map, filter_map, get_or, Option, Some, None, All, arith}
use Rattle.std.specs.List.{AllByRecursion, cons_option}
use Rattle.netlist_spec.specs.Netlist.{Name, names, latch, subckt, Statement as SpecStatement, Model as SpecModel}
use Rattle.netlist_spec.specs.Models.{Latch as SpecLatch, as_latch, gates_of, output_nets, latch_inputs, latch_outputs}
use Rattle.netlist_spec.specs.CellBits.{IsBitOf, IsGateBit, latch_bit, output_bit}
use Rattle.imp_text.specs.declared.names.NameId.{NameId}
use Rattle.blif_read.specs.declared.file.Located.{Located}
use Rattle.blif_read.specs.declared.file.Port.{Port}
use Rattle.netlist_spec.specs.Placed.{port_names}
use Rattle.line_order.proofs.MarkLemmas.{all_of}
use Rattle.blif_read.specs.declared.file.Statement.{Statement}
use Rattle.blif_read.specs.declared.file.Statement.TheVariants.{Names, Latch, Subckt}
use Rattle.blif_read.specs.Ids.{IsIdOf, ids_in}
use Rattle.blif_read.specs.View.{name_at, port_of, located_of, statement_of}
use Rattle.audit_laws.specs.FirstBits.{FirstBits, AreFirstBits, named_bits, no_bit, own_bits, latch_bits}
use Rattle.audit_laws.specs.Along.{IsBitAlong, AreInOrder, bits_along}
use Rattle.audit_laws.proofs.FirstBits.{moved, latch_are}
use Rattle.audit_laws.proofs.Along.{all_along, kept_along}
use Rattle.independence_audit.specs.declared.kept.Kept.{Kept}
use Rattle.independence_audit.specs.Kept.{Keeps}
use Rattle.independence_audit.specs.Known.{input_of, output_of, bits_kept, IsKnown, HasTables}
use Rattle.independence_audit.specs.declared.known.Known.{Known}
use Rattle.independence_audit.proofs.TableLemmas.{keeps_long}

-- ---- names in place of numbers

module _ (all : List Name) where
  one_stored_named : (what : Statement) (ids : List NameId) (ls : List SpecLatch) → map (name_at all) ids ≡ map (λ l. l.d) ls → map (name_at all) (cons_option (input_of what) ids) ≡ map (λ l. l.d) (cons_option (as_latch (statement_of all what)) ls)
  one_stored_named (Names ins out cover) ids ls h = h
  one_stored_named (Latch d q clocking init) ids ls h = ap (λ ns. name_at all d ∷ ns) h
  one_stored_named (Subckt model binds) ids ls h = h

  pub stored_named : (ss : List Located) → map (name_at all) (filter_map (λ (s : Located). input_of s.what) ss) ≡ map (λ l. l.d) (filter_map (λ s. as_latch s.what) (map (located_of all) ss))
  stored_named [] = refl
  stored_named (s ∷ ss) = one_stored_named s.what (filter_map (λ (s : Located). input_of s.what) ss) (filter_map (λ s. as_latch s.what) (map (located_of all) ss)) (stored_named ss)

  one_shown_named : (what : Statement) (ids : List NameId) (ls : List SpecLatch) → map (name_at all) ids ≡ map (λ l. l.q) ls → map (name_at all) (cons_option (output_of what) ids) ≡ map (λ l. l.q) (cons_option (as_latch (statement_of all what)) ls)
  one_shown_named (Names ins out cover) ids ls h = h
  one_shown_named (Latch d q clocking init) ids ls h = ap (λ ns. name_at all q ∷ ns) h
  one_shown_named (Subckt model binds) ids ls h = h

  pub shown_named : (ss : List Located) → map (name_at all) (filter_map (λ (s : Located). output_of s.what) ss) ≡ map (λ l. l.q) (filter_map (λ s. as_latch s.what) (map (located_of all) ss))
  shown_named [] = refl
  shown_named (s ∷ ss) = one_shown_named s.what (filter_map (λ (s : Located). output_of s.what) ss) (filter_map (λ s. as_latch s.what) (map (located_of all) ss)) (shown_named ss)

  later_within : (s : Located) (ss : List Located) → All (λ (x : Located). All (IsIdOf all) (ids_in x.what)) (s ∷ ss) → All (λ (x : Located). All (IsIdOf all) (ids_in x.what)) ss
  later_within s ss h = λ k d g. h (suc k) d (omega arith)

  pub stored_within : (ss : List Located) → All (λ (x : Located). All (IsIdOf all) (ids_in x.what)) ss → AllByRecursion (IsIdOf all) (filter_map (λ (s : Located). input_of s.what) ss)
  stored_within [] h = tt
  stored_within (s ∷ ss) h = one s.what (h 0 s (omega arith)) (stored_within ss (later_within s ss h))
    where
      one : (what : Statement) → All (IsIdOf all) (ids_in what) → AllByRecursion (IsIdOf all) (filter_map (λ (s : Located). input_of s.what) ss) → AllByRecursion (IsIdOf all) (cons_option (input_of what) (filter_map (λ (s : Located). input_of s.what) ss))
      one (Names ins out cover) h a = a
      one (Latch d q clocking init) h a = (h 0 d (omega arith), a)
      one (Subckt model binds) h a = a

  pub shown_within : (ss : List Located) → All (λ (x : Located). All (IsIdOf all) (ids_in x.what)) ss → AllByRecursion (IsIdOf all) (filter_map (λ (s : Located). output_of s.what) ss)
  shown_within [] h = tt
  shown_within (s ∷ ss) h = one s.what (h 0 s (omega arith)) (shown_within ss (later_within s ss h))
    where
      one : (what : Statement) → All (IsIdOf all) (ids_in what) → AllByRecursion (IsIdOf all) (filter_map (λ (s : Located). output_of s.what) ss) → AllByRecursion (IsIdOf all) (cons_option (output_of what) (filter_map (λ (s : Located). output_of s.what) ss))
      one (Names ins out cover) h a = a
      one (Latch d q clocking init) h a = (h 1 q (omega arith), a)
      one (Subckt model binds) h a = a

pub given_few : (f : Located → Option NameId) (ss : List Located) → length (filter_map f ss) ≤ length ss
given_few f [] = omega arith
given_few f (s ∷ ss) = one (f s) (given_few f ss)
  where
    one : (o : Option NameId) → length (filter_map f ss) ≤ length ss → length (cons_option o (filter_map f ss)) ≤ length (s ∷ ss)
    one None h = omega arith
    one (Some id) h = omega arith

pub ports_named : (all : List Name) (ports : List Port) → map (name_at all) (map (λ (p : Port). p.name) ports) ≡ port_names (map (port_of all) ports)
ports_named all [] = refl
ports_named all (p ∷ ps) = ap (λ ns. name_at all p.name ∷ ns) (ports_named all ps)

pub ports_within : (all : List Name) (ports : List Port) → All (λ (p : Port). IsIdOf all p.name) ports → AllByRecursion (IsIdOf all) (map (λ (p : Port). p.name) ports)
ports_within all [] h = tt
ports_within all (p ∷ ps) h = (h 0 p (omega arith), ports_within all ps (λ k d g. h (suc k) d (omega arith)))

pub ids_ready : (n : ℕ) (all : List Name) (xs ys : List NameId) → n ≡ length all → xs ≡ ys → AllByRecursion (IsIdOf all) ys → All (λ (id : NameId). id.0 < n) xs
ids_ready n all xs ys e f a = subst (λ k. All (λ (id : NameId). id.0 < k) xs) (sym e) (subst (All (IsIdOf all)) (sym f) (all_of (IsIdOf all) ys a))

pub few_ids : (xs ys : List NameId) (most : ℕ) → xs ≡ ys → length ys ≤ most → most ≤ 2000000 → length xs < 2 ^ 32
few_ids xs ys most e h g = let l : length xs ≡ length ys = ap length e in omega arith

pub names_few : (ports : List Port) → length (map (λ (p : Port). p.name) ports) ≤ length ports
names_few [] = omega arith
names_few (p ∷ ps) = let h = names_few ps in omega arith

pub has_tables : (m : SpecModel) (known : Known) → IsKnown m known → HasTables (length m.names) known
has_tables m known k =
    record {
      gates = keeps_long m.names known.gates.items _ k.gates;
      latches = keeps_long m.names known.latches.items _ k.latches;
      outputs = k.outputs.each_name;
      cells = k.cells.each_name;
    }

-- ---- tables

pub keeps_own : (m : SpecModel) (table : List Kept) (stored outputs : List Name) → stored ≡ latch_inputs m → outputs ≡ output_nets m
    → Keeps m.names table (λ n. named_bits output_bit 0 outputs n (named_bits latch_bit 0 stored n no_bit)) → Keeps m.names table (bits_along m [])
keeps_own m table stored outputs e f k =
    record { distinct = k.distinct; entries = k.entries ∙ ap₂ (λ (o s : List Name). map (λ n. named_bits output_bit 0 o n (named_bits latch_bit 0 s n no_bit)) m.names) f e }

pub keeps_latches : (m : SpecModel) (table : List Kept) (shown outputs : List Name) → shown ≡ latch_outputs m → outputs ≡ output_nets m
    → Keeps m.names table (λ n. named_bits output_bit 0 outputs n (named_bits latch_bit 0 shown n no_bit)) → Keeps m.names table (latch_bits m)
keeps_latches m table shown outputs e f k =
    record { distinct = k.distinct; entries = k.entries ∙ ap₂ (λ (o s : List Name). map (λ n. named_bits output_bit 0 o n (named_bits latch_bit 0 s n no_bit)) m.names) f e }

-- What is kept of a cell are its first bits.
pub kept_are : (m : SpecModel) → AreInOrder (gates_of m) → (s : SpecStatement) → AreFirstBits (IsBitOf m s) (bits_kept m s)
kept_are m order (names ins out cover) =
    moved (IsBitAlong m (gates_of m) out) (IsGateBit m out) (λ x h. (all_along m out x order).0 h) (λ x h. (all_along m out x order).1 h) (bits_along m (gates_of m) out) (kept_along m (gates_of m) out)
kept_are m order (latch d q clocking init) = latch_are m q
kept_are m order (subckt model binds) = λ x h. h
