use Rattle.std.proofs.Common.{[], ◌∷◌, ◌++◌, refl}
use Rattle.imp_io.proofs.BlockLemmas.{Gives-append, Gives-nil, Gives-text}
use Rattle.impeccable.proofs.SimLemmas.{line-more, ran-more}
use Rattle.impeccable.proofs.sim.put_cycles.Goals as goal

pub loop-c-init : goal.loop-c-init
loop-c-init g c = (
  [],
  record {
    run = λ file faults simulates has. c.cycles_make_a_run.ensures.first file _ simulates faults c.requires.starts;
    same = record { netlist = refl; stimulus = refl; script = refl; fits = c.requires.fits };
  },
  Gives-nil _,
)

pub loop-c-preserved : goal.loop-c-preserved
loop-c-preserved g c =
    let so_far = c.loop-c.invariant in
    let y = c.cycle.new.simulation.outputs.items in (
      so_far.0 ++ y ∷ [],
      ran-more c.cycles_make_a_run.ensures.further _ _ _ c.loop-c.c so_far.0 so_far.1 c.cycle.ensures,
      Gives-text (line-more so_far.0 y) (Gives-append so_far.2 (rw c.deref.ensures.value at c.put_line.ensures)),
    )
