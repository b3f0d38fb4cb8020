use Rattle.netlist_spec.proofs.WrittenLines.{lines_back, lines_back_behind, written_back, plain_words}
use Rattle.netlist_spec.proofs.written.written_lines_are_cut_back.Goals as goal

pub returns-clause-lines : goal.returns-clause-lines
returns-clause-lines c = lines_back

pub returns-clause-behind_comment : goal.returns-clause-behind_comment
returns-clause-behind_comment c = lines_back_behind

pub returns-clause-written : goal.returns-clause-written
returns-clause-written c = written_back

pub returns-clause-words : goal.returns-clause-words
returns-clause-words c = plain_words
