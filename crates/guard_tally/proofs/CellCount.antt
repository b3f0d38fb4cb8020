-- A gate list is written with a cell for each latch and each gate.
use Rattle.std.proofs.Common.{◌≡◌, refl, ◌∙◌, ℕ, ◌+◌, List, [], ◌∷◌, ◌++◌, length, map, arith, length-append}
use Rattle.std.specs.List.{AllByRecursion, flat_map}
use Rattle.netlist_spec.specs.Netlist.{Name, Statement, Located}
use Rattle.netlist_spec.specs.Gates.{GateForm, LatchRow}
use Rattle.netlist_spec.specs.Ordered.{driven_by, cell_nets}
use Rattle.netlist_spec.specs.Written.{Named, IsNamed, latch_statement, latch_statements, gate_statement, gate_statements, statements_from, line_count}
use Rattle.named_netlist.proofs.NamedFiles.{statements-long}
use Rattle.named_netlist.proofs.WrittenModel.{written_model}

abbrev DrivesOne : Statement → Type 0
DrivesOne s = length (driven_by s) ≡ 1

as_many_as_statements : (line : ℕ) (ss : List Statement) → AllByRecursion DrivesOne ss → length (flat_map (λ (s : Located). driven_by s.what) (statements_from line ss)) ≡ length ss
as_many_as_statements line [] each = refl
as_many_as_statements line (s ∷ ss) each =
    let rest = flat_map (λ (s : Located). driven_by s.what) (statements_from (line + line_count s) ss) in
    let both = length-append (driven_by s) rest in
    let first = each.0 in
    let more = as_many_as_statements (line + line_count s) ss each.1 in
    omega (arith, both, first, more)

each_drives_one : (n : Named) (latches : List (Name × LatchRow)) (gates : List (Name × GateForm)) → AllByRecursion DrivesOne (map (latch_statement n) latches ++ map (gate_statement n) gates)
each_drives_one n [] [] = tt
each_drives_one n [] (g ∷ gates) = (refl, each_drives_one n [] gates)
each_drives_one n (l ∷ latches) gates = (refl, each_drives_one n latches gates)

pub written_cells : (n : Named) → IsNamed n → length (cell_nets (written_model n)) ≡ length n.latches + length n.net.gates
written_cells n named = as_many_as_statements _ (latch_statements n ++ gate_statements n) (each_drives_one n _ _) ∙ statements-long n named
