use Rattle.law_examples.proofs.JoinedList.{majority_corrects, is_joined, one_word, toggle_is, place_copy, place_check}
use Rattle.law_examples.proofs.correction.small_lists_are_joined.Goals as goal

pub returns-clause-corrected : goal.returns-clause-corrected
returns-clause-corrected c = majority_corrects

pub returns-clause-words : goal.returns-clause-words
returns-clause-words c = (one_word, toggle_is)

pub returns-clause-joined : goal.returns-clause-joined
returns-clause-joined c = is_joined

pub returns-clause-place : goal.returns-clause-place
returns-clause-place c = place_copy

pub returns-clause-check : goal.returns-clause-check
returns-clause-check c = place_check
