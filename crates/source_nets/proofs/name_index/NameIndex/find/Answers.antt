use Rattle.source_nets.proofs.IndexLemmas.{found_option, absent_option}
use Rattle.source_nets.proofs.name_index.NameIndex.find.Goals as goal

pub returns-clause-place : goal.returns-clause-place
returns-clause-place c = rw (← c.self.view_is) (found_option c.args.name.now c.self.inside.set.keys c.get_index_of.result c.get_index_of.ensures.index)

pub returns-clause-absent : goal.returns-clause-absent
returns-clause-absent c = rw (← c.self.view_is) (absent_option c.args.name.now c.self.inside.set.keys c.get_index_of.result c.get_index_of.ensures.found)
