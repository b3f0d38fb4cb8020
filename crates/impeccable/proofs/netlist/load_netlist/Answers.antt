-- The load, and the reading.
use Rattle.std.proofs.Common.{length, ◌≤◌, refl}
use Rattle.std.proofs.lemmas.Result.{err_from_is_err_and}
use Rattle.netlist_spec.specs.Netlist.{File}
use Rattle.netlist_spec.specs.ReadFaults.{ReadFault}
use Rattle.netlist_spec.specs.Reads.{Reads}
use Rattle.blif_read.specs.View.{file_of}
use Rattle.program_spec.specs.Commands.{netlist_limit}
use Rattle.program_spec.specs.Refusals.{unreadable}
use Rattle.program_spec.specs.Steps.{reading}
use Rattle.impeccable.specs.Ended.{stop_answer}
use Rattle.impeccable.proofs.LoadsLemmas.{fault-stops-tested, held-loaded, load-stops-tested}
use Rattle.impeccable.proofs.OwnLemmas.{keeps}
use Rattle.impeccable.proofs.StepLemmas.{is-read-fault}
use Rattle.impeccable.proofs.netlist.load_netlist.Goals as goal

pub returns-in_err-bytes-clause-file : goal.returns-in_err-bytes-clause-file
returns-in_err-bytes-clause-file g c =
    let p = err_from_is_err_and c.from_residual.result c.from_residual.ensures.1 in
    rw (p.1, p.2) (load-stops-tested File (g.F.Files.seen c.args.files.now) (g.F.Files.seen c.load_named.new.files) c.args.netlist.now netlist_limit reading _ c.in_err-bytes.ensures.named)

pub returns-in_err-file-clause-file : goal.returns-in_err-file-clause-file
returns-in_err-file-clause-file g c =
    let p = err_from_is_err_and c.from_residual-in_err-file.result c.from_residual-in_err-file.ensures.1 in
    let named = c.in_ok-bytes.ensures.named in
    let bytes = c.in_ok-bytes.bytes.items in
    rw p.1 (fault-stops-tested File ReadFault (g.F.Files.seen c.args.files.now) (g.F.Files.seen c.load_named.new.files) c.args.netlist.now netlist_limit reading bytes unreadable _ _ named.0 named.1 (λ f e. (f, is-read-fault bytes _ (rw c.deref.ensures.value at c.in_err-file.ensures.fault) f e, refl)) (λ f. tt) p.2)

pub returns-clause-file : goal.returns-clause-file
returns-clause-file g c =
    let file = file_of c.in_ok-file.file in
    let named = c.in_ok-bytes.ensures.named in
    (file, refl, held-loaded (g.F.Files.seen c.args.files.now) c.args.netlist.now c.in_ok-bytes.bytes.items (λ b. (length b ≤ netlist_limit) × Reads b file) named.1 (named.0, rw c.deref.ensures.value at c.in_ok-file.ensures.reads))

pub returns-in_err-bytes-clause-own : goal.returns-in_err-bytes-clause-own
returns-in_err-bytes-clause-own g c =
    let p = err_from_is_err_and c.from_residual.result c.from_residual.ensures.1 in
    rw (p.1, p.2) c.in_err-bytes.ensures.own

pub returns-in_err-file-clause-own : goal.returns-in_err-file-clause-own
returns-in_err-file-clause-own g c =
    let p = err_from_is_err_and c.from_residual-in_err-file.result c.from_residual-in_err-file.ensures.1 in
    rw p.1 (keeps (g.F.Files.seen c.args.files.now) (g.F.Files.seen c.load_named.new.files) (stop_answer p.0) c.in_ok-bytes.ensures.own)
