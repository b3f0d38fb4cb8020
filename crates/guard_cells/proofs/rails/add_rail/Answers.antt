use Rattle.std.proofs.Common.{◌∙◌, ap, [], ◌∷◌, map}
use Rattle.std.proofs.lemmas.List.{map-append}
use Rattle.gate_net.specs.Gate.{net_number}
use Rattle.gate_net.specs.Words.{word_nets}
use Rattle.guard_cells.proofs.Alarms.{rail_cell}
use Rattle.guard_cells.proofs.rails.add_rail.Goals as goal

pub returns-clause-cell : goal.returns-clause-cell
returns-clause-cell c = (
  c.in_ok-cell.cell.0,
  ap (map net_number) c.in_ok-push.ensures.items ∙ map-append net_number c.args.s.now.cells.items (c.in_ok-cell.cell ∷ []),
  rail_cell c.args.code.now (map word_nets c.args.words.now) c.args.s.now.net c.rail.new.dst c.in_ok-cell.cell.0 c.in_ok-cell.ensures.rail,
)
