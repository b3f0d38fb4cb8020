use Rattle.blif_read.specs.View.{file_of}
use Rattle.source_nets.specs.Survey.{library_of}
use Rattle.source_check.proofs.AnswerLemmas.{accepted, decided, told}
use Rattle.source_check.proofs.all_tests.check.Goals as goal

pub returns-clause-accepted : goal.returns-clause-accepted
returns-clause-accepted c =
    let file = file_of c.args.file.now in
    let library = library_of c.args.tables.now c.args.linears.now in
    accepted file library c.check_source.result (c.files_are_not_both_and_refused_once.ensures.not_both file library) c.check_source.ensures.refused

pub returns-clause-told : goal.returns-clause-told
returns-clause-told c =
    let file = file_of c.args.file.now in
    let library = library_of c.args.tables.now c.args.linears.now in
    let law = c.files_are_not_both_and_refused_once.ensures in
    told file library c.check_source.result (law.not_both file library) (law.one_refusal file library) c.check_source.ensures.sound c.check_source.ensures.refused

pub returns-clause-decided : goal.returns-clause-decided
returns-clause-decided c =
    let file = file_of c.args.file.now in
    let library = library_of c.args.tables.now c.args.linears.now in
    let law = c.files_are_not_both_and_refused_once.ensures in
    decided file library c.check_source.result (law.not_both file library) (law.one_refusal file library) c.check_source.ensures.sound c.check_source.ensures.refused
