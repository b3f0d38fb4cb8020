use Rattle.std.proofs.Common.{◌≡◌, ◌∙◌, ◌++◌, sym, ap, ap₂, subst, List, Bool, Option, length, map, take, drop}
use Rattle.netlist_spec.specs.SourceRun.{Bits}
use Rattle.imp_text.specs.declared.names.NameId.{NameId}
use Rattle.blif_read.specs.View.{name_at}
use Rattle.fault_sim.specs.declared.row.LatchCell.{LatchCell}
use Rattle.fault_sim.specs.Faults.{Forces, named_faults}
use Rattle.fault_sim.specs.Gates.{bit_in, numbered}
use Rattle.fault_sim.specs.Simulated.{Simulated}
use Rattle.fault_sim.proofs.CycleLemmas.{cycle_of, row_as, written_back}
use Rattle.fault_sim.proofs.sim.Sim.cycle.Goals as goal

pub returns-clause-cycle : goal.returns-clause-cycle
returns-clause-cycle c = λ file simulates.
    let s = c.self.inside in
    let all = s.names in
    let is = c.self.invariant.1 in
    let faults = c.args.faults.now in
    let table = c.deref-2.result.now in
    let row = c.fill_row.new.row in
    let empty : length c.deref_mut.result.now ≡ length all = ap length c.deref_mut.ensures.value ∙ is.forced in
    let forced : Forces all c.force.new.table (named_faults (map (name_at all) s.cells.items) faults) =
    subst (λ (ids : List NameId). Forces all c.force.new.table (named_faults (map (name_at all) ids) faults)) c.deref.ensures.value (c.force.ensures all is.distinct empty) in
    let kept : table ≡ c.force.new.table = c.deref-2.ensures.value ∙ written_back s.forced.len c.force.new.table s.forced.items s.forced.ok.0 (c.force.auto.table ∙ ap length c.deref_mut.ensures.value) in
    let filled : take s.row.len (row ++ drop (length row) s.row.items) ≡ row = written_back s.row.len row s.row.items s.row.ok.0 (c.fill_row.auto.row ∙ ap length c.deref_mut-2.ensures.value) in
    let stored = c.store.new.stored in
    let back : take s.stored.len (stored ++ drop (length stored) s.stored.items) ≡ stored = written_back s.stored.len stored s.stored.items s.stored.ok.0 (c.store.auto.stored ∙ ap length c.deref_mut-3.ensures.value) in
    cycle_of all s.inputs.items s.latches.items (numbered s.gates) s.outputs.items s.cells.items s.by_net.items s.stored.items s.row.items s.forced.items is c.args.self.now c.self.view_is file simulates
    c.args.x.now faults table (subst (λ (t : List (Option Bool)). Forces all t (named_faults (map (name_at all) s.cells.items) faults)) (sym kept) forced) c.requires.inputs row c.read_nets.new.out _
    (row_as table (numbered s.gates) c.args.x.now row c.deref_mut-2.result.now s.row.items c.deref-3.result.now s.inputs.items c.deref-4.result.now s.latches.items c.deref-5.result.now s.stored.items
    c.deref_mut-2.ensures.value c.deref-3.ensures.value c.deref-4.ensures.value c.deref-5.ensures.value c.fill_row.ensures)
    (c.read_nets.ensures ∙ ap₂ (λ (r : Bits) (ns : List NameId). map (bit_in r) ns) (c.deref-6.ensures.value ∙ filled) c.deref-7.ensures.value)
    (back ∙ (c.store.ensures ∙ ap₂ (λ (r : Bits) (ls : List LatchCell). map (λ (l : LatchCell). bit_in r l.d) ls) (c.deref-8.ensures.value ∙ filled) c.deref-9.ensures.value))

pub returns-clause-netlist : goal.returns-clause-netlist
returns-clause-netlist c =
    let s = c.self.inside in
    let stored = c.store.new.stored in
    let now : Bits = take s.stored.len (stored ++ drop (length stored) s.stored.items) in
    ap (λ (w : Simulated). record w { stored = now }) c.self.view_is
