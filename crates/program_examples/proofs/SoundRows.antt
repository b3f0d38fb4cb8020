-- The soundness tests that compute, on small texts.
use Rattle.std.proofs.Common.{◌≡◌, refl, ℕ, List, [], ◌∷◌, ◌++◌, codes, Option, Some, None}
use Rattle.std.specs.Fmt.{digits}
use Rattle.netlist_spec.specs.Netlist.{Model, File}
use Rattle.netlist_spec.specs.Covers.{Library, empty_library}
use Rattle.program_spec.specs.Demo.{demo_settings, demo_netlist}
use Rattle.netlist_spec.specs.Size.{whole_cost}
use Rattle.netlist_spec.specs.SoundFaults.{twice_in, no_such_model_in, bad_port_in, undriven_in, clocking_in, reserved_in}
use Rattle.netlist_spec.specs.Lines.{logical_lines}
use Rattle.netlist_spec.specs.Said.{declared_file}

abbrev main_of : List Model → Model
main_of [] = record { name = []; line = 0; names = []; inputs = []; outputs = []; clocks = []; statements = [] }
main_of (m ∷ ms) = m

-- what a test finds in the main model of a text, with no library
abbrev found : {A : Type 0} → (File → Library → Model → Option A) → List ℕ → Option A
found test text = let file = declared_file (logical_lines text) in test file empty_library (main_of file.models)

twice_driven : found twice_in (codes ".model m\n.names y\n.names y\n") ≡ Some (codes "y")
twice_driven = refl

-- blanks are all bytes up to 32, and a backslash at the end of the file is one
driven_input : found twice_in (codes ".model" ++ 0 ∷ codes "m\n.inputs a\n.names a \\") ≡ Some (codes "a")
driven_input = refl

second_place : found twice_in (codes ".model m\n.inputs a b b a\n") ≡ Some (codes "b")
second_place = refl

both_kinds : found twice_in (codes ".model m\n.inputs c\n.clock c\n.outputs c\n") ≡ None
both_kinds = refl

unknown_model : found no_such_model_in (codes ".model m\n.subckt dffe d=a\n") ≡ Some (codes "dffe")
unknown_model = refl

unknown_port : found bad_port_in (codes ".model m\n.subckt s q=a\n.end\n.model s\n.inputs d\n") ≡ Some (codes "s", codes "q")
unknown_port = refl

missing_port : bad_port_in (declared_file (logical_lines (codes ".model b\n.inputs a b c\n.subckt present o3=y3 i2=c i0=a o0=y0 i1=b o1=y1 o2=y2\n"))) demo_settings.library
    (main_of (declared_file (logical_lines (codes ".model b\n.inputs a b c\n.subckt present o3=y3 i2=c i0=a o0=y0 i1=b o1=y1 o2=y2\n"))).models)
    ≡ Some (codes "present", codes "i3")
unfolding digits
missing_port = refl

undriven_output : found undriven_in (codes ".model m\n.outputs y\n") ≡ Some (codes "y")
undriven_output = refl

other_edge : found clocking_in (codes ".model m\n.inputs c d\n.latch d a re c 0\n.latch d b fe c 0\n") ≡ Some (codes "b")
other_edge = refl

clock_read : found clocking_in (codes ".model m\n.inputs c\n.outputs c\n.latch c a re c 0\n") ≡ Some (codes "c")
clock_read = refl

undeclared_control : found clocking_in (codes ".model m\n.latch a a re k 0\n") ≡ Some (codes "a")
undeclared_control = refl

guard_name : found reserved_in (codes ".model m\n.inputs guard:x\n") ≡ Some (codes "guard:x")
guard_name = refl

backslash_name : found reserved_in (codes ".model m\n.inputs a\\ b\n") ≡ Some (codes "a\\")
backslash_name = refl

nothing_reserved : found reserved_in (codes ".model m\n.inputs a b\n") ≡ None
nothing_reserved = refl

-- one S-box of 256, four choices of 18 and four copies of 6
demo_cost : whole_cost (declared_file (logical_lines (demo_netlist 1))) demo_settings.library ≡ 352
unfolding digits
demo_cost = refl
