use Rattle.std.proofs.Common.{◌≡◌, ◌<◌, ◌^◌, length, take, map, Some, All}
use Rattle.guard_spec.specs.Codes.{bits_of}
use Rattle.netlist_spec.specs.Digits.{each_gives}
use Rattle.toml.specs.View.{view}
use Rattle.settings.specs.Matrix.{row_at}
use Rattle.settings.proofs.matrix.rows.Given as goal

abbrev pub invariant-loop-value : goal.invariant-loop-value
invariant-loop-value l = (each_gives (λ v. row_at l.width (view v)) (take l.value-index l.values) ≡ Some (map (bits_of l.width) l.rows.items)) × (length l.rows.items ≡ l.value-index) × All (λ row. row < 2 ^ l.width) l.rows.items
