use Rattle.std.specs.List.{flat_map}
use Rattle.gate_net.specs.Words.{nets_of}
use Rattle.alarm_rails.specs.Rail.{SomeIsNone}
use Rattle.guard_laws.specs.Rows.{IsRailRange, IsRangeOf}
use Rattle.guard_cells.proofs.Joins.{ranges_join, end_join, range_stays, rail_stays, row_stays, rows_join}
use Rattle.guard_cells.proofs.laws.rows_of_cells_join.Goals as goal

pub returns-clause-ranges : goal.returns-clause-ranges
returns-clause-ranges c = ranges_join

pub returns-clause-end : goal.returns-clause-end
returns-clause-end c = end_join

pub returns-clause-stay : goal.returns-clause-stay
returns-clause-stay c = λ leaf m code l. row_stays (λ net r. IsRangeOf net leaf m code l r) (range_stays c.ranges_stay.ensures.reads c.ranges_stay.ensures.leads c.gates_answer_in_ranges.ensures.front leaf m code l)

pub returns-clause-join : goal.returns-clause-join
returns-clause-join c = λ leaf m code l. rows_join (λ net r. IsRangeOf net leaf m code l r) (range_stays c.ranges_stay.ensures.reads c.ranges_stay.ensures.leads c.gates_answer_in_ranges.ensures.front leaf m code l)

pub returns-clause-rails_stay : goal.returns-clause-rails_stay
returns-clause-rails_stay c = λ code words.
    row_stays (λ net r. IsRailRange net (flat_map nets_of words) (SomeIsNone code words) r) (rail_stays c.ranges_stay.ensures.reads c.ranges_stay.ensures.leads c.gates_answer_in_ranges.ensures.front (flat_map nets_of words) (SomeIsNone code words))

pub returns-clause-rails_join : goal.returns-clause-rails_join
returns-clause-rails_join c = λ code words.
    rows_join (λ net r. IsRailRange net (flat_map nets_of words) (SomeIsNone code words) r) (rail_stays c.ranges_stay.ensures.reads c.ranges_stay.ensures.leads c.gates_answer_in_ranges.ensures.front (flat_map nets_of words) (SomeIsNone code words))
