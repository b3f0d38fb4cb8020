-- Where each cell serves one bit, nothing is found.
use Rattle.std.proofs.Common.{◌≡◌, refl, subst, ℕ, true, List, [], ◌∷◌, ◌++◌, Option, Some, None, nat_lt, arith}
use Rattle.std.specs.Prelude.{IsSome, IsTrue}
use Rattle.std.specs.List.{AllByRecursion}
use Rattle.netlist_spec.specs.Netlist.{Name, Statement, Model, File}
use Rattle.netlist_spec.specs.Models.{main_model, first_model}
use Rattle.netlist_spec.specs.CellBits.{Bit, latch_bit, output_bit, stands_before, IsRail, cells_of, output_read, IsIndependent, IsIndependentCell, Finding, wide, unused, shared, reads_output, FindsOf, IsFinding}

not_below : (n : ℕ) → nat_lt n n ≡ true → ⊥
not_below n h = grind arith

not_before_itself : (b : Bit) → IsTrue (stands_before b b) → ⊥
not_before_itself (latch_bit i) h = not_below i h
not_before_itself (output_bit i) h = not_below i h

is_some : (read : Option Name) (net : Name) → read ≡ Some net → IsSome read
is_some None net e = cc e
is_some (Some n) net e = refl

-- of one cell
nothing_of : (m : Model) (s : Statement) (finding : Finding) → IsIndependentCell m s → FindsOf m s finding → ⊥
nothing_of m s (wide cell) fine h = fine.narrow h.1
nothing_of m s (unused cell) fine h = h.2 fine.bit fine.one.has
nothing_of m s (shared cell one other) fine h =
    let first : one ≡ fine.bit = fine.one.only one h.2.has_one in
    let second : other ≡ fine.bit = fine.one.only other h.2.has_other in
    not_before_itself fine.bit (subst (λ b. IsTrue (stands_before b fine.bit)) first (subst (λ b. IsTrue (stands_before one b)) second h.2.in_order))
nothing_of m s (reads_output net cell) fine h =
    let same : fine.bit ≡ h.3 = h.4.only fine.bit fine.one.has in
    h.5 (subst (λ b. IsRail m b) same (fine.rails_alone (is_some (output_read m s) net h.2)))

among : (m : Model) (before : List Statement) (s : Statement) (after : List Statement) → AllByRecursion (IsIndependentCell m) (before ++ s ∷ after) → IsIndependentCell m s
among m [] s after fine = fine.0
among m (b ∷ before) s after fine = among m before s after fine.1

of_models : (models : List Model) (m : Model) (finding : Finding) → first_model models ≡ Some m → AllByRecursion (λ k. AllByRecursion (IsIndependentCell k) (cells_of k)) models → IsFinding m finding → ⊥
of_models [] m finding main fine h = cc main
of_models (k ∷ ks) m finding main fine h =
    let same : k ≡ m = cc main in
    let cells = subst (λ (k : Model). AllByRecursion (IsIndependentCell k) (cells_of k)) same fine.0 in
    nothing_of m h.cell finding (among m h.before h.cell h.after (subst (AllByRecursion (IsIndependentCell m)) h.split cells)) h.found

pub nothing_found : (file : File) (m : Model) (finding : Finding) → main_model file ≡ Some m → IsIndependent file → IsFinding m finding → ⊥
nothing_found file m finding main fine h = of_models file.models m finding main fine h
