-- One pass over an ordered file finds what an audit finds.
use Rattle.std.proofs.Common.{◌≡◌, refl, sym, ◌∙◌, ap, subst, ℕ, List, [], ◌∷◌, ◌++◌, map, Option, Some, None}
use Rattle.std.specs.Prelude.{filter_map}
use Rattle.std.specs.List.{AllByRecursion, cons_option}
use Rattle.std.specs.Option.{option_or}
use Rattle.netlist_spec.specs.Netlist.{Statement, names, latch, subckt, Located, Model, File}
use Rattle.netlist_spec.specs.Models.{Gate, as_gate, gates_of}
use Rattle.netlist_spec.specs.FileRules.{NeverFall, HaveLines, IsFile}
use Rattle.netlist_spec.specs.Ordered.{IsOrdered}
use Rattle.netlist_spec.specs.CellBits.{Bit, IsBitOf, IsGateBit, HasOneBit, IsIndependentCell, cells_of, Finding, FindsOf}
use Rattle.netlist_spec.proofs.OneValue.{none_both}
use Rattle.audit_laws.specs.FirstBits.{one_bit, AreFirstBits}
use Rattle.audit_laws.specs.Along.{IsBitAlong, AreInOrder, bits_along}
use Rattle.audit_laws.specs.OnePass.{gates_among_cells, cell_bits, finding_of, first_finding, IsNoSubckt, AuditsInOnePass}
use Rattle.audit_laws.proofs.FirstBits.{moved, latch_are}
use Rattle.audit_laws.proofs.GateOrder.{model_in_order, cells_are_no_subckt, no_fault_of}
use Rattle.audit_laws.proofs.Along.{along_later, kept_along}
use Rattle.audit_laws.proofs.Findings.{decides, has_one, one_kept_of}

gates_of_cells : (ss : List Located) → filter_map (λ s. as_gate s.what) ss ≡ gates_among_cells (map (λ s. s.what) ss)
gates_of_cells [] = refl
gates_of_cells (s ∷ ss) = ap (cons_option (as_gate s.what)) (gates_of_cells ss)

cons_front : (o : Option Gate) (xs ys : List Gate) → cons_option o (xs ++ ys) ≡ cons_option o xs ++ ys
cons_front None xs ys = refl
cons_front (Some g) xs ys = refl

gates_in_parts : (before rest : List Statement) → gates_among_cells (before ++ rest) ≡ gates_among_cells before ++ gates_among_cells rest
gates_in_parts [] rest = refl
gates_in_parts (s ∷ before) rest = ap (cons_option (as_gate s)) (gates_in_parts before rest) ∙ cons_front (as_gate s) (gates_among_cells before) (gates_among_cells rest)

module _ (m : Model) (order : AreInOrder (gates_of m)) where
  pub cell_kept : (before : List Statement) (s : Statement) (later : List Statement) → cells_of m ≡ before ++ s ∷ later → AreFirstBits (IsBitOf m s) (cell_bits m later s)
  cell_kept before (names ins out cover) later e =
      let split : gates_of m ≡ gates_among_cells before ++ record { ins = ins; out = out; cover = cover } ∷ gates_among_cells later =
      gates_of_cells m.statements ∙ (ap gates_among_cells e ∙ gates_in_parts before (names ins out cover ∷ later)) in
      let is : (x : Bit) → IsBitAlong m (gates_among_cells later) out x → IsGateBit m out x =
      λ x h. (along_later m (gates_among_cells before) (record { ins = ins; out = out; cover = cover }) (gates_among_cells later) x order split).0 h in
      let back : (x : Bit) → IsGateBit m out x → IsBitAlong m (gates_among_cells later) out x =
      λ x h. (along_later m (gates_among_cells before) (record { ins = ins; out = out; cover = cover }) (gates_among_cells later) x order split).1 h in
      moved (IsBitAlong m (gates_among_cells later) out) (IsGateBit m out) is back (bits_along m (gates_among_cells later) out) (kept_along m (gates_among_cells later) out)
  cell_kept before (latch d q clocking init) later e = latch_are m q
  cell_kept before (subckt model binds) later e = λ x h. h

-- what is found first in some cells
record FoundIn (m : Model) (cells : List Statement) (finding : Finding) : Type 0 where
  before : List Statement
  cell : Statement
  after : List Statement
  split : cells ≡ before ++ cell ∷ after
  found : FindsOf m cell finding
  none_before : AllByRecursion (IsIndependentCell m) before

abbrev Told : Model → List Statement → Option Finding → Type 0
Told m cells o = (o ≡ None → AllByRecursion (IsIndependentCell m) cells) × ((finding : Finding) → o ≡ Some finding → FoundIn m cells finding)

one_more : (m : Model) (s : Statement) (later : List Statement) (first rest : Option Finding) → (first ≡ None → IsIndependentCell m s) → ((finding : Finding) → first ≡ Some finding → FindsOf m s finding) → Told m later rest → Told m (s ∷ later) (option_or first rest)
one_more m s later None rest fine finds told = (
  (λ (e : rest ≡ None). (fine refl, told.0 e)),
  λ finding e. let f = told.1 finding e in
      record { before = s ∷ f.before; cell = f.cell; after = f.after; split = ap (λ ss. s ∷ ss) f.split; found = f.found; none_before = (fine refl, f.none_before) },
)
one_more m s later (Some found) rest fine finds told = (
  (λ (e : Some found ≡ None). cc e),
  λ finding e. record { before = []; cell = s; after = later; split = refl; found = finds finding e; none_before = tt },
)

passed : (m : Model) (cells : List Statement) → ((before : List Statement) (s : Statement) (later : List Statement) → cells ≡ before ++ s ∷ later → AreFirstBits (IsBitOf m s) (cell_bits m later s))
    → AllByRecursion (λ s. IsNoSubckt s) cells → Told m cells (first_finding m cells)
passed m [] each none = ((λ e. tt), λ finding e. cc e)
passed m (s ∷ later) each none =
    let here = decides m s (cell_bits m later s) none.0 (each [] s later refl) in
    one_more m s later (finding_of m s (cell_bits m later s)) (first_finding m later) here.0 here.1 (passed m later (λ before x rest e. each (s ∷ before) x rest (ap (λ ss. s ∷ ss) e)) none.1)

-- where nothing is found in some cells, nothing is found of each
none_at : (m : Model) (before : List Statement) (s : Statement) (later : List Statement) → first_finding m (before ++ s ∷ later) ≡ None → finding_of m s (cell_bits m later s) ≡ None
none_at m [] s later e = (none_both _ _ e).0
none_at m (x ∷ before) s later e = none_at m before s later (none_both _ _ e).1

no_subckt_at : (before : List Statement) (s : Statement) (later : List Statement) → AllByRecursion (λ x. IsNoSubckt x) (before ++ s ∷ later) → IsNoSubckt s
no_subckt_at [] s later a = a.0
no_subckt_at (x ∷ before) s later a = no_subckt_at before s later a.1

one_each : (m : Model) (order : AreInOrder (gates_of m)) → AllByRecursion (λ x. IsNoSubckt x) (cells_of m) → first_finding m (cells_of m) ≡ None → (before : List Statement) (s : Statement) (later : List Statement) → cells_of m ≡ before ++ s ∷ later
    → (bit : Bit) × (cell_bits m later s ≡ one_bit bit) × HasOneBit m s bit
one_each m order free e before s later split =
    let none = none_at m before s later (subst (λ ss. first_finding m ss ≡ None) split e) in
    let one = one_kept_of m s (cell_bits m later s) (no_subckt_at before s later (subst (AllByRecursion (λ x. IsNoSubckt x)) split free)) none in
    (one.0, one.1, has_one m s one.0 (subst (AreFirstBits (IsBitOf m s)) one.1 (cell_kept m order before s later split)))

pub in_one_pass : (file : File) (low : ℕ) (high : Option ℕ) (ordered : IsOrdered file) → NeverFall low high (map (λ s. s.line) ordered.model.statements) → AuditsInOnePass file ordered.model
in_one_pass file low high o lines =
    let m = o.model in
    let free = no_fault_of file o in
    let order = model_in_order o.model free low high lines in
    let told = passed o.model (cells_of o.model) (cell_kept o.model order) (cells_are_no_subckt o.model free) in
    record {
      kept = cell_kept o.model order;
      nothing = λ e. subst (λ ms. AllByRecursion (λ m. AllByRecursion (IsIndependentCell m) (cells_of m)) ms) (sym o.one_model) (told.0 e, tt);
      one_each = one_each o.model order (cells_are_no_subckt o.model free);
      something = λ finding e. let f = told.1 finding e in record { before = f.before; cell = f.cell; after = f.after; split = f.split; found = f.found; none_before = f.none_before };
    }

pub read_in_one_pass : (file : File) → IsFile file → (ordered : IsOrdered file) → AuditsInOnePass file ordered.model
read_in_one_pass file is_file o =
    let lines = subst HaveLines o.one_model is_file.lines in
    in_one_pass file o.model.line None o lines.0.statements
