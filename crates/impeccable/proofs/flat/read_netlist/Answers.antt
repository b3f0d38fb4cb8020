-- Each step of the walk of `flat`, and what stops it there.
use Rattle.std.proofs.Common.{refl}
use Rattle.std.proofs.lemmas.Result.{err_from_is_err_and}
use Rattle.program_spec.specs.Walk.{passes}
use Rattle.blif_read.specs.View.{file_of}
use Rattle.impeccable.specs.Ended.{stop_answer}
use Rattle.impeccable.specs.Flat.{named_text}
use Rattle.impeccable.proofs.OrderedLemmas.{reads}
use Rattle.impeccable.proofs.OwnLemmas.{keeps}
use Rattle.impeccable.proofs.FlatLemmas.{flat-text, read, sound, unread, not-sound}
use Rattle.impeccable.proofs.flat.read_netlist.Goals as goal

pub returns-in_err-file-clause-prepares : goal.returns-in_err-file-clause-prepares
returns-in_err-file-clause-prepares g c =
    let p = err_from_is_err_and c.from_residual.result c.from_residual.ensures.1 in
    rw (p.1, p.2) (unread c.args.netlist.now (g.F.Files.seen c.args.files.now) (g.F.Files.seen c.load_netlist.new.files) _ c.in_err-file.ensures.file)

pub returns-in_err-named-clause-prepares : goal.returns-in_err-named-clause-prepares
returns-in_err-named-clause-prepares g c =
    let p = err_from_is_err_and c.from_residual-in_err-named.result c.from_residual-in_err-named.ensures.1 in
    let old = g.F.Files.seen c.args.files.now in
    let file = file_of c.in_ok-file.file in
    let held = reads c.args.netlist.now old file c.in_ok-file.ensures.file in
    rw p.1 (not-sound c.args.netlist.now old (g.F.Files.seen c.load_netlist.new.files) file _ _ (read c.args.netlist.now old file held) c.in_err-named.ensures.refused p.2)

pub returns-clause-prepares : goal.returns-clause-prepares
returns-clause-prepares g c = λ known.
    let old = g.F.Files.seen c.args.files.now in
    let file = file_of c.in_ok-file.file in
    let held = reads c.args.netlist.now old file c.in_ok-file.ensures.file in
    let passed = sound c.args.netlist.now old file (read c.args.netlist.now old file held) c.in_ok-named.ensures.sound in
    (passed.verdict known passes refl, flat-text _ file (named_text c.in_ok-named.named) c.in_ok-named.ensures.flat (held known))

pub returns-in_err-file-clause-own : goal.returns-in_err-file-clause-own
returns-in_err-file-clause-own g c =
    let p = err_from_is_err_and c.from_residual.result c.from_residual.ensures.1 in
    rw (p.1, p.2) c.in_err-file.ensures.own

pub returns-in_err-named-clause-own : goal.returns-in_err-named-clause-own
returns-in_err-named-clause-own g c =
    let p = err_from_is_err_and c.from_residual-in_err-named.result c.from_residual-in_err-named.ensures.1 in
    rw p.1 (keeps (g.F.Files.seen c.args.files.now) (g.F.Files.seen c.load_netlist.new.files) (stop_answer p.0) c.in_ok-file.ensures.own)
