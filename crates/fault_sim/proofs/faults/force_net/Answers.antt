use Rattle.std.proofs.Common.{subst, ℕ, ◌<◌, None, get_or}
use Rattle.fault_sim.proofs.FaultLemmas.{forced_now, forced_before, no_fault_there, fault_there}
use Rattle.fault_sim.proofs.faults.force_net.Goals as goal

pub returns-then-is_none : goal.returns-then-is_none
returns-then-is_none c = λ all faults f.
    let table = c.args.table.now in
    let net = c.args.net in
    forced_now all table faults f net c.args.bit (subst (λ (l : ℕ). net.0 < l) f.each_net c.requires) (no_fault_there (get_or table net.0 None) c.is_none.result c.is_none.ensures c.if-is_none.true)

pub returns-else-is_none : goal.returns-else-is_none
returns-else-is_none c = λ all faults f.
    let table = c.args.table.now in
    let net = c.args.net in
    let some = fault_there (get_or table net.0 None) c.is_none.result c.is_none.ensures c.if-is_none.false in
    forced_before all table faults f net c.args.bit (subst (λ (l : ℕ). net.0 < l) f.each_net c.requires) some.0 some.1
