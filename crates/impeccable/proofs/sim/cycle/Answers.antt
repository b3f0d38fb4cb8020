use Rattle.std.proofs.Common.{◌≡◌, ◌<◌, List, length, refl, sym, subst, ap, ◌∙◌, arith}
use Rattle.std.specs.Prelude.{All}
use Rattle.std.specs.Vec.{with_items}
use Rattle.std.proofs.lemmas.List.{with_items_is}
use Rattle.netlist_spec.specs.Netlist.{Name}
use Rattle.netlist_spec.specs.SourceRun.{Bits}
use Rattle.fault_script.specs.Scripts.{faults_in}
use Rattle.fault_sim.specs.declared.faults.CellFault.{CellFault}
use Rattle.fault_sim.specs.Faults.{named_faults}
use Rattle.fault_sim.specs.Simulated.{CycleUnder, Simulated}
use Rattle.impeccable.proofs.sim.cycle.Goals as goal

pub returns : goal.returns
returns c =
    let s = c.args.simulation.now in
    let x = c.row.new.x in
    let y = c.cycle.new.out in
    let same = c.cycle.ensures.netlist in
    let listed : c.deref-2.result.now ≡ faults_in s.script c.args.c = c.deref-2.ensures.0 ∙ c.at-faults.ensures in
    let ins : length x ≡ length s.inputs.items = c.row.auto.x ∙ ap length c.deref_mut.ensures.value in
    let outs : length y ≡ length s.outputs.items = c.cycle.auto.out ∙ ap length c.deref_mut-2.ensures.value in
    let in_len : length x ≡ s.inputs.len = omega (arith, ins, s.inputs.ok.0) in
    let out_len : length y ≡ s.outputs.len = omega (arith, outs, s.outputs.ok.0) in
    let put_in : (with_items s.inputs x).items ≡ x = with_items_is s.inputs x in_len in
    let put_out : (with_items s.outputs y).items ≡ y = with_items_is s.outputs y out_len in
    let next = c.cycle.new.self.stored in
    record {
      x = x;
      is_row = c.row.ensures;
      cycle = λ file simulates.
          let m = simulates.ordered.model in
          subst (λ (z : Bits). CycleUnder m (named_faults s.sim.cells (faults_in s.script c.args.c)) x s.sim.stored z next) (sym put_out)
          (subst (λ (faults : List CellFault). CycleUnder m (named_faults s.sim.cells faults) x s.sim.stored y next) listed
          (subst (λ (z : Bits). CycleUnder m (named_faults s.sim.cells c.deref-2.result.now) z s.sim.stored y next) (c.deref.ensures.value ∙ put_in) (c.cycle.ensures.cycle file simulates)));
      same = record {
        netlist = same;
        stimulus = refl;
        script = refl;
        fits = record {
          width = c.requires.fits.width ∙ sym (ap (λ (t : Simulated). length t.inputs) same);
          cells = λ k. subst (λ (cells : List Name). All (λ (f : CellFault). f.cell.0 < length cells) (faults_in s.script k)) (sym (ap (λ (t : Simulated). t.cells) same)) (c.requires.fits.cells k);
          inputs = ap length put_in ∙ (ins ∙ (c.requires.fits.inputs ∙ sym (ap (λ (t : Simulated). length t.inputs) same)));
          outputs = ap length put_out ∙ (outs ∙ (c.requires.fits.outputs ∙ sym (ap (λ (t : Simulated). length t.outputs) same)));
        };
      };
    }
