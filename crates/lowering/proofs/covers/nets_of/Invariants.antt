-- The nets of the names so far.
use Rattle.std.proofs.Common.{◌≡◌, map, take, get_or}
use Rattle.imp_text.specs.declared.names.NameId.{NameId}
use Rattle.gate_net.specs.Gate.{net_number}
use Rattle.lowering.proofs.covers.nets_of.Given as goal

abbrev pub invariant-loop-id : goal.invariant-loop-id
invariant-loop-id l = map net_number l.nets.items ≡ map (λ (id : NameId). get_or l.table id.0 0) (take l.id-index l.ids)
