use Rattle.netlist_spec.proofs.LaneRun.{lane_is}
use Rattle.netlist_spec.proofs.lanes_are_runs.Goals as goal

pub returns : goal.returns
returns c = λ m lanes x stored faults y next step wide are j inside. lane_is m lanes j inside x stored wide faults are y next step
