-- Bits that are put into a row.
use Rattle.std.specs.Prelude.{Bool, List, [], ◌∷◌, slice_set, Option}
use Rattle.imp_text.specs.declared.names.NameId.{NameId}
use Rattle.fault_sim.specs.declared.row.LatchCell.{LatchCell}
use Rattle.fault_sim.specs.Gates.{shown_bit}

-- the bits of some nets, in order
abbrev pub put_bits : List Bool → List NameId → List Bool → List Bool
put_bits row [] bits = row
put_bits row (id ∷ ids) [] = row
put_bits row (id ∷ ids) (b ∷ bits) = put_bits (slice_set row id.0 b) ids bits

-- each latch shows its stored bit, or that of its fault
abbrev pub put_latches : List (Option Bool) → List Bool → List LatchCell → List Bool → List Bool
put_latches forced row [] stored = row
put_latches forced row (l ∷ ls) [] = row
put_latches forced row (l ∷ ls) (b ∷ stored) = put_latches forced (slice_set row l.q.0 (shown_bit forced l.q b)) ls stored
