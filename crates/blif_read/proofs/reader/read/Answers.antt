use Rattle.std.proofs.Common.{rules, ◌≡◌, ◌∙◌, ◌∷◌, sym, ap}
use Rattle.netlist_spec.specs.Lines.{Line}
use Rattle.netlist_spec.specs.ReadFaults.{read_fault}
use Rattle.netlist_spec.proofs.ReadFiles.{reads_file}
use Rattle.blif_read.specs.Faults.{IsFault, fault_of}
use Rattle.blif_read.specs.Kinds.{kind_in}
use Rattle.blif_read.specs.LineTests.{words_in, line_of}
use Rattle.blif_read.proofs.ReaderLemmas.{next_line_is, next_words, some_words, few_models, so_far_fails, no_model_at_end}
use Rattle.blif_read.proofs.SummaryLemmas.{nothing_known}
use Rattle.blif_read.proofs.FileLemmas.{so_far_of, read_at_start, read_more, fits_next, read_at_end}
use Rattle.blif_read.proofs.reader.read.Goals as goal

pub new-line-requires-clause-some : goal.new-line-requires-clause-some
new-line-requires-clause-some c =
    let first = next_line_is c.args.bytes.now c.lines.lines c.next_line.new.self c.next_line.new.words.items c.deref.result.now c.fill_words.new.words.items c.deref-in-Some.result.now c.in-Some.number c.lines.invariant.source (rw c.in-Some.is at c.in_ok-number.ensures.some) c.deref.ensures.value c.in_ok-fill_words.ensures c.deref-in-Some.ensures.value in
    let l : Line = record { number = c.in-Some.number; words = words_in c.deref-in-Some.result.now } in
    some_words c.deref-in-Some.result.now (next_words c.args.bytes.now c.lines.lines c.lines.summary l c.next_line.new.self.left (so_far_of c.lines.invariant) first).0

pub new-line-requires-clause-bytes : goal.new-line-requires-clause-bytes
new-line-requires-clause-bytes c =
    let first = next_line_is c.args.bytes.now c.lines.lines c.next_line.new.self c.next_line.new.words.items c.deref.result.now c.fill_words.new.words.items c.deref-in-Some.result.now c.in-Some.number c.lines.invariant.source (rw c.in-Some.is at c.in_ok-number.ensures.some) c.deref.ensures.value c.in_ok-fill_words.ensures c.deref-in-Some.ensures.value in
    let l : Line = record { number = c.in-Some.number; words = words_in c.deref-in-Some.result.now } in
    (next_words c.args.bytes.now c.lines.lines c.lines.summary l c.next_line.new.self.left (so_far_of c.lines.invariant) first).1

pub returns-in_err-check-clause-fault : goal.returns-in_err-check-clause-fault
returns-in_err-check-clause-fault c =
    let first = next_line_is c.args.bytes.now c.lines.lines c.next_line.new.self c.next_line.new.words.items c.deref.result.now c.fill_words.new.words.items c.deref-in-Some.result.now c.in-Some.number c.lines.invariant.source (rw c.in-Some.is at c.in_ok-number.ensures.some) c.deref.ensures.value c.in_ok-fill_words.ensures c.deref-in-Some.ensures.value in
    let at : c.lines.lines.left ≡ line_of c.new-line.result ∷ c.next_line.new.self.left = first ∙ ap (λ l. l ∷ c.next_line.new.self.left) (sym c.new-line.ensures.line) in
    let fails : IsFault (read_fault c.args.bytes.now) (fault_of c.in_err-check.field-0.0)
    = so_far_fails c.args.bytes.now c.lines.lines c.next_line.new.self c.lines.summary (kind_in c.new-line.result.kind) (line_of c.new-line.result) (fault_of c.in_err-check.field-0.0) (so_far_of c.lines.invariant) at (sym c.new-line.ensures.is_line.kind) c.in_err-check.ensures.err in
    search (rules, fails)

pub add-requires-clause-room : goal.add-requires-clause-room
add-requires-clause-room c =
    let first = next_line_is c.args.bytes.now c.lines.lines c.next_line.new.self c.next_line.new.words.items c.deref.result.now c.fill_words.new.words.items c.deref-in-Some.result.now c.in-Some.number c.lines.invariant.source (rw c.in-Some.is at c.in_ok-number.ensures.some) c.deref.ensures.value c.in_ok-fill_words.ensures c.deref-in-Some.ensures.value in
    let at : c.lines.lines.left ≡ line_of c.new-line.result ∷ c.next_line.new.self.left = first ∙ ap (λ l. l ∷ c.next_line.new.self.left) (sym c.new-line.ensures.line) in
    few_models c.args.bytes.now c.lines.lines c.lines.summary (line_of c.new-line.result) c.next_line.new.self.left c.requires (so_far_of c.lines.invariant) at

pub add_line-requires : goal.add_line-requires
add_line-requires c =
    let first = next_line_is c.args.bytes.now c.lines.lines c.next_line.new.self c.next_line.new.words.items c.deref.result.now c.fill_words.new.words.items c.deref-in-Some.result.now c.in-Some.number c.lines.invariant.source (rw c.in-Some.is at c.in_ok-number.ensures.some) c.deref.ensures.value c.in_ok-fill_words.ensures c.deref-in-Some.ensures.value in
    let at : c.lines.lines.left ≡ line_of c.new-line.result ∷ c.next_line.new.self.left = first ∙ ap (λ l. l ∷ c.next_line.new.self.left) (sym c.new-line.ensures.line) in
    record { fits = fits_next c.args.bytes.now c.lines.lines c.next_line.new.self c.lines.summary c.lines.file c.new-line.result c.requires c.lines.invariant at c.new-line.ensures.is_line c.in_ok-check.ensures.ok }

pub lines-preserved : goal.lines-preserved
lines-preserved c =
    let first = next_line_is c.args.bytes.now c.lines.lines c.next_line.new.self c.next_line.new.words.items c.deref.result.now c.fill_words.new.words.items c.deref-in-Some.result.now c.in-Some.number c.lines.invariant.source (rw c.in-Some.is at c.in_ok-number.ensures.some) c.deref.ensures.value c.in_ok-fill_words.ensures c.deref-in-Some.ensures.value in
    let at : c.lines.lines.left ≡ line_of c.new-line.result ∷ c.next_line.new.self.left = first ∙ ap (λ l. l ∷ c.next_line.new.self.left) (sym c.new-line.ensures.line) in
    read_more c.args.bytes.now c.lines.lines c.next_line.new.self c.lines.summary c.add.new.self c.lines.file c.add_line.new.self c.new-line.result c.lines.invariant at c.next_line.ensures.source c.new-line.ensures.is_line c.in_ok-check.ensures.ok c.in_ok-add.ensures
    c.in_ok-add_line.ensures.adds c.in_ok-add_line.ensures.model c.in_ok-add_line.ensures.cover c.in_ok-add_line.ensures.few

pub lines-init : goal.lines-init
lines-init c = read_at_start c.args.bytes.now c.new-lines.result c.new-summary.result c.new-file.result c.new-lines.ensures
    (nothing_known c.new-summary.result c.new-summary.ensures.ended c.new-summary.ensures.has_model c.new-summary.ensures.open_inputs c.new-summary.ensures.shared_last c.new-summary.ensures.models c.new-summary.ensures.room)
    c.new-summary.ensures.has_model c.new-summary.ensures.open_inputs c.new-file.ensures.file c.new-file.ensures.no_model

pub returns-then-not-has_model-clause-fault : goal.returns-then-not-has_model-clause-fault
returns-then-not-has_model-clause-fault c = no_model_at_end c.args.bytes.now c.lines.lines c.lines.summary (so_far_of c.lines.invariant) (rw c.in_default.is at c.in_ok-number.ensures.none).0 (sym c.has_model.ensures ∙ c.if-not-has_model.true)

pub returns-clause-reads : goal.returns-clause-reads
returns-clause-reads c = read_at_end c.args.bytes.now c.lines.lines c.lines.summary c.lines.file c.in_ok-close.field-0 c.lines.invariant (rw c.in_default.is at c.in_ok-number.ensures.none).0 (sym c.has_model.ensures ∙ c.if-not-has_model.false) c.in_ok-close.ensures.file

pub returns-clause-ids : goal.returns-clause-ids
returns-clause-ids c = c.in_ok-close.ensures.ids _ c.lines.invariant.gathered

pub returns-clause-is_file : goal.returns-clause-is_file
returns-clause-is_file c = reads_file c.args.bytes.now _ (returns-clause-reads c)
