-- What is told of cells.
use Rattle.std.proofs.Common.{◌≡◌, refl, sym, ◌∙◌, ap, ap₂, subst, ℕ, zero, suc, ◌+◌, ◌<◌, ◌≤◌, List, [], ◌∷◌, ◌++◌, length, map, take, drop, get_or, slice_get, Bool, true, false, cond, Option, Some, None, All, arith, add-one, drop-cons, append_assoc}
use Rattle.std.specs.Prelude.{find, nat_lt}
use Rattle.std.specs.List.{AllByRecursion, AllZip, flat_map}
use Rattle.std.proofs.lemmas.List.{take_more, map-append, take-append-drop}
use Rattle.netlist_spec.specs.Netlist.{Name, Cover, names, Statement as SpecStatement, Model as SpecModel, File}
use Rattle.netlist_spec.specs.Models.{gates_of}
use Rattle.netlist_spec.specs.Ordered.{driven_by}
use Rattle.netlist_spec.specs.Placed.{port_names}
use Rattle.netlist_spec.specs.CellBits.{Bit, output_bit, is_rail_name, HasOneBit, IsIndependentCell, cells_of, output_read, Finding, wide, unused, shared, reads_output, FindsOf, IsFinding}
use Rattle.netlist_spec.proofs.OneValue.{All_append}
use Rattle.line_order.proofs.MarkLemmas.{each_of}
use Rattle.gate_net.specs.Bit.{bit_of}
use Rattle.gate_net.specs.declared.words.Bit.{Bit as MachineBit}
use Rattle.imp_text.specs.declared.names.NameId.{NameId}
use Rattle.blif_read.specs.declared.file.Located.{Located}
use Rattle.blif_read.specs.declared.file.Statement.{Statement}
use Rattle.blif_read.specs.declared.file.Statement.TheVariants.{Names, Latch, Subckt}
use Rattle.blif_read.specs.declared.file.Model.{Model}
use Rattle.blif_read.specs.declared.file.Port.{Port}
use Rattle.blif_read.specs.View.{name_at, port_of, located_of, statement_of, model_of}
use Rattle.audit_laws.specs.FirstBits.{FirstBits, AreFirstBits, one_bit}
use Rattle.audit_laws.specs.Along.{AreInOrder}
use Rattle.audit_laws.specs.OnePass.{IsNoSubckt, names_rail, is_rail, finding_of, finding_of_bits}
use Rattle.audit_laws.proofs.Findings.{kept_decide}
use Rattle.independence_audit.specs.declared.types.Audit.{Audit}
use Rattle.independence_audit.specs.declared.types.Audit.TheVariants.{Independent, Wide, Unused, Shared, OutputRead}
use Rattle.independence_audit.specs.Audited.{IsAudit, cell_name}
use Rattle.independence_audit.specs.Told.{finding_in, IsFound}
use Rattle.independence_audit.specs.Known.{bits_kept}
use Rattle.independence_audit.proofs.KnownLemmas.{kept_are}

-- ---- the first name that passes a test

cond_none : (c : Bool) (x : Name) (o : Option Name) → cond c (Some x) o ≡ None → (c ≡ false) × (o ≡ None)
cond_none true x o e = cc e
cond_none false x o e = (refl, e)

module _ (p : Name → Bool) (f : NameId → Name) where
  pub none_more : (ids : List NameId) (i : ℕ) (d : NameId) → i < length ids → find p (map f (take i ids)) ≡ None → p (f (get_or ids i d)) ≡ false → find p (map f (take (i + 1) ids)) ≡ None
  none_more ids i d h a b = ap (λ n. find p (map f (take n ids))) (add-one i) ∙ at ids i h a b
    where
      at : (ys : List NameId) (j : ℕ) → j < length ys → find p (map f (take j ys)) ≡ None → p (f (get_or ys j d)) ≡ false → find p (map f (take (suc j) ys)) ≡ None
      at [] j h a b = absurd (omega arith)
      at (y ∷ ys) zero h a b = ap (λ c. cond c (Some (f y)) None) b
      at (y ∷ ys) (suc j) h a b =
          let parts = cond_none (p (f y)) (f y) (find p (map f (take j ys))) a in
          ap (λ c. cond c (Some (f y)) (find p (map f (take (suc j) ys)))) parts.0 ∙ at ys j (omega arith) parts.1 b

  pub found_here : (ids : List NameId) (i : ℕ) (d : NameId) → i < length ids → find p (map f (take i ids)) ≡ None → p (f (get_or ids i d)) ≡ true → find p (map f ids) ≡ Some (f (get_or ids i d))
  found_here [] i d h a b = absurd (omega arith)
  found_here (y ∷ ys) zero d h a b = ap (λ c. cond c (Some (f y)) (find p (map f ys))) b
  found_here (y ∷ ys) (suc i) d h a b =
      let parts = cond_none (p (f y)) (f y) (find p (map f (take i ys))) a in
      ap (λ c. cond c (Some (f y)) (find p (map f ys))) parts.0 ∙ found_here ys i d (omega arith) parts.1 b

-- ---- wide cells

is_past : (n : ℕ) → 2 < n → nat_lt 2 n ≡ true
is_past n h = grind arith

is_not_past : (n : ℕ) → n ≤ 2 → nat_lt 2 n ≡ false
is_not_past n h = grind arith

pub wide_found : (m : SpecModel) (ins : List Name) (out : Name) (cover : Cover) (kept : FirstBits) → 2 < length ins → finding_of m (names ins out cover) kept ≡ Some (wide out)
wide_found m ins out cover kept h = ap (λ b. cond b (Some (wide out)) (finding_of_bits m out (output_read m (names ins out cover)) kept)) (is_past (length ins) h)

pub narrow_found : (m : SpecModel) (ins : List Name) (out : Name) (cover : Cover) (kept : FirstBits) → length ins ≤ 2 → finding_of m (names ins out cover) kept ≡ finding_of_bits m out (output_read m (names ins out cover)) kept
narrow_found m ins out cover kept h = ap (λ b. cond b (Some (wide out)) (finding_of_bits m out (output_read m (names ins out cover)) kept)) (is_not_past (length ins) h)

-- ---- cells by number

abbrev pub cells_in : List Name → List Located → List SpecStatement
cells_in all ss = map (λ (s : Located). statement_of all s.what) ss

pub cells_are : (all : List Name) (ss : List Located) → map (λ s. s.what) (map (located_of all) ss) ≡ cells_in all ss
cells_are all [] = refl
cells_are all (s ∷ ss) = ap (λ cs. statement_of all s.what ∷ cs) (cells_are all ss)

module _ (all : List Name) where
  first_cell : (what : Statement) (rest : List Name) → IsNoSubckt (statement_of all what) → driven_by (statement_of all what) ≡ get_or (driven_by (statement_of all what) ++ rest) 0 [] ∷ []
  first_cell (Names ins out cover) rest h = refl
  first_cell (Latch d q clocking init) rest h = refl
  first_cell (Subckt model binds) rest h = cc h

  later_cell : (what : Statement) (rest : List Name) (i : ℕ) → IsNoSubckt (statement_of all what) → get_or (driven_by (statement_of all what) ++ rest) (suc i) [] ≡ get_or rest i []
  later_cell (Names ins out cover) rest i h = refl
  later_cell (Latch d q clocking init) rest i h = refl
  later_cell (Subckt model binds) rest i h = cc h

  -- Where there is no `.subckt` each statement is the cell of its number.
  pub cell_at : (ss : List Located) → AllByRecursion (λ s. IsNoSubckt s) (cells_in all ss) → (i : ℕ) (d : Located) → i < length ss
      → driven_by (statement_of all (get_or ss i d).what) ≡ get_or (flat_map (λ s. driven_by s.what) (map (located_of all) ss)) i [] ∷ []
  cell_at [] a i d h = absurd (omega arith)
  cell_at (s ∷ ss) a zero d h = first_cell s.what (flat_map (λ s. driven_by s.what) (map (located_of all) ss)) a.0
  cell_at (s ∷ ss) a (suc i) d h = cell_at ss a.1 i d (omega arith) ∙ ap (λ n. n ∷ []) (sym (later_cell s.what (flat_map (λ s. driven_by s.what) (map (located_of all) ss)) i a.0))

  pub no_subckt_at : (ss : List Located) → AllByRecursion (λ s. IsNoSubckt s) (cells_in all ss) → (i : ℕ) (d : Located) → i < length ss → IsNoSubckt (statement_of all (get_or ss i d).what)
  no_subckt_at [] a i d h = absurd (omega arith)
  no_subckt_at (s ∷ ss) a zero d h = a.0
  no_subckt_at (s ∷ ss) a (suc i) d h = no_subckt_at ss a.1 i d (omega arith)

  pub cells_more : (ss : List Located) (i : ℕ) (d : Located) → i < length ss → cells_in all (take (i + 1) ss) ≡ cells_in all (take i ss) ++ statement_of all (get_or ss i d).what ∷ []
  cells_more ss i d h = ap (cells_in all) (take_more ss i d h) ∙ map-append (λ (s : Located). statement_of all s.what) (take i ss) (get_or ss i d ∷ [])

  pub cells_split : (ss : List Located) (i : ℕ) (d : Located) → i < length ss → cells_in all ss ≡ cells_in all (take i ss) ++ statement_of all (get_or ss i d).what ∷ cells_in all (drop (suc i) ss)
  cells_split ss i d h =
      ap (cells_in all) (sym (ap (λ rest. take i ss ++ rest) (sym (drop-cons ss i d h)) ∙ take-append-drop i ss))
      ∙ map-append (λ (s : Located). statement_of all s.what) (take i ss) (get_or ss i d ∷ drop (suc i) ss)

-- ---- cells so far

pub record AreFine (m : SpecModel) (cells : List SpecStatement) (bits : List Bit) : Type 0 where
  pub one_each : AllZip (λ s bit. HasOneBit m s bit) cells bits
  pub fine : AllByRecursion (IsIndependentCell m) cells

zip_more : {A B : Type 0} (R : A → B → Type 0) (xs : List A) (ys : List B) (x : A) (y : B) → AllZip R xs ys → R x y → AllZip R (xs ++ x ∷ []) (ys ++ y ∷ [])
zip_more R [] [] x y a r = (r, tt)
zip_more R [] (b ∷ ys) x y a r = absurd a
zip_more R (z ∷ xs) [] x y a r = absurd a
zip_more R (z ∷ xs) (b ∷ ys) x y a r = (a.0, zip_more R xs ys x y a.1 r)

module _ (m : SpecModel) (order : AreInOrder (gates_of m)) (s : SpecStatement) (is_cell : IsNoSubckt s) where
  -- one more cell that serves one bit
  pub one_more_fine : (cells : List SpecStatement) (bits : List Bit) (bit : Bit) → AreFine m cells bits → finding_of m s (bits_kept m s) ≡ None → bits_kept m s ≡ one_bit bit → AreFine m (cells ++ s ∷ []) (bits ++ bit ∷ [])
  one_more_fine cells bits bit a none one =
      let decided = kept_decide m s (bits_kept m s) is_cell (kept_are m order s) in
      record {
        one_each = zip_more (λ s bit. HasOneBit m s bit) cells bits s bit a.one_each (decided.0 bit one);
        fine = All_append (IsIndependentCell m) cells (s ∷ []) a.fine (decided.2 none, tt);
      }

  -- the first finding
  pub first_found : (before after : List SpecStatement) → cells_of m ≡ before ++ s ∷ after → AllByRecursion (IsIndependentCell m) before → (finding : Finding) → finding_of m s (bits_kept m s) ≡ Some finding → IsFinding m finding
  first_found before after split fine finding e =
      let decided = kept_decide m s (bits_kept m s) is_cell (kept_are m order s) in
      record { before = before; cell = s; after = after; split = split; found = decided.4 finding e; none_before = fine }

pub found_is : (file : File) (m : SpecModel) (audit : Audit) (o : Option Finding) → IsFound audit → finding_in m audit ≡ o → ((f : Finding) → o ≡ Some f → IsFinding m f) → IsAudit file m audit
found_is file m (Independent bits) o f e h = absurd f
found_is file m (Wide cell) o f e h = h (wide (cell_name m cell)) (sym e)
found_is file m (Unused cell) o f e h = h (unused (cell_name m cell)) (sym e)
found_is file m (Shared cell one other) o f e h = h (shared (cell_name m cell) (bit_of one) (bit_of other)) (sym e)
found_is file m (OutputRead net cell) o f e h = h (reads_output (name_at m.names net) (cell_name m cell)) (sym e)

-- ---- rails

past_end : (xs : List Name) (i : ℕ) → length xs ≤ i → slice_get xs i ≡ None
past_end [] i h = refl
past_end (x ∷ xs) zero h = absurd (omega arith)
past_end (x ∷ xs) (suc i) h = past_end xs i (omega arith)

output_at : (all : List Name) (ports : List Port) (i : ℕ) (d : Port) → i < length ports → slice_get (port_names (map (port_of all) ports)) i ≡ Some (name_at all (get_or ports i d).name)
output_at all [] i d h = absurd (omega arith)
output_at all (p ∷ ports) zero d h = refl
output_at all (p ∷ ports) (suc i) d h = output_at all ports i d (omega arith)

outputs_long : (all : List Name) (ports : List Port) → length (port_names (map (port_of all) ports)) ≡ length ports
outputs_long all [] = refl
outputs_long all (p ∷ ports) = ap suc (outputs_long all ports)

name_is : (all : List Name) (k : ℕ) (n : Name) → slice_get all k ≡ Some n → get_or all k [] ≡ n
name_is [] k n h = absurd (cc h)
name_is (m ∷ ns) zero n h = cc h
name_is (m ∷ ns) (suc k) n h = name_is ns k n h

pub no_rail_past : (m : Model) (i : ℕ) → length m.outputs.items ≤ i → is_rail (model_of m) (output_bit i) ≡ false
no_rail_past m i h = let long = outputs_long m.names m.outputs.items in ap names_rail (past_end (port_names (map (port_of m.names) m.outputs.items)) i (omega arith))

pub rail_at : (m : Model) (i : ℕ) (d : Port) (n : Name) → i < length m.outputs.items → slice_get m.names (get_or m.outputs.items i d).name.0 ≡ Some n → is_rail (model_of m) (output_bit i) ≡ is_rail_name n
rail_at m i d n h e = ap names_rail (output_at m.names m.outputs.items i d h) ∙ ap is_rail_name (name_is m.names (get_or m.outputs.items i d).name.0 n e)

pub free_cells : (m : Model) → All IsNoSubckt (cells_of (model_of m)) → AllByRecursion (λ s. IsNoSubckt s) (cells_in m.names m.statements.items)
free_cells m h = subst (AllByRecursion IsNoSubckt) (cells_are m.names m.statements.items) (each_of IsNoSubckt (cells_of (model_of m)) h)
