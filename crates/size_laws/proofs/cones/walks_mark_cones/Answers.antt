use Rattle.size_laws.proofs.ConeMarks.{walked_marks, marks_walked, reached_by_cone}
use Rattle.size_laws.proofs.cones.walks_mark_cones.Goals as goal

pub returns-clause-marks : goal.returns-clause-marks
returns-clause-marks c = λ file library m x marks. (walked_marks file library m x marks, marks_walked file library m x marks)

pub returns-clause-reached : goal.returns-clause-reached
returns-clause-reached c = reached_by_cone
