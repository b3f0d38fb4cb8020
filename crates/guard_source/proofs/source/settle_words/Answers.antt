use Rattle.std.proofs.Common.{◌<◌, ◌≤◌, subst, ℕ, List, length, map, Option, arith}
use Rattle.std.specs.Prelude.{IfNone, IfSome}
use Rattle.std.proofs.lemmas.List.{length-map}
use Rattle.std.proofs.lemmas.Result.{err_from_is_err_and}
use Rattle.blif_read.specs.declared.file.Model.{Model as ReadModel}
use Rattle.blif_read.specs.View.{file_of, model_of}
use Rattle.encode_state.specs.Faults.{fault_of}
use Rattle.plain_size.specs.Sizes.{IsMainPlain}
use Rattle.plain_size.proofs.MainLemmas.{first_main}
use Rattle.guard_source.proofs.SettledLemmas.{latches_distinct, latches_few, outputs_distinct, outputs_few, partitioned, refused_large, refused_words, settled}
use Rattle.guard_source.proofs.source.settle_words.Goals as goal

-- A file has a main model.
some_model : (ms : List ReadModel) → 1 ≤ length (map model_of ms) → 0 < length ms
some_model ms h = let l = length-map ms model_of in omega arith

pub layout_of-requires-clause-distinct_latches : goal.layout_of-requires-clause-distinct_latches
layout_of-requires-clause-distinct_latches c =
    let ms = c.args.file.now.models.items in
    let m = c.index.result.now in
    latches_distinct (file_of c.args.file.now) c.args.s.now (model_of m) c.requires.sound (first_main ms m (some_model ms c.requires.is_file.some_model) c.index.ensures)

pub layout_of-requires-clause-distinct_outputs : goal.layout_of-requires-clause-distinct_outputs
layout_of-requires-clause-distinct_outputs c =
    let ms = c.args.file.now.models.items in
    let m = c.index.result.now in
    outputs_distinct (file_of c.args.file.now) c.args.s.now (model_of m) c.requires.sound (first_main ms m (some_model ms c.requires.is_file.some_model) c.index.ensures)

pub layout_of-requires-clause-few_latches : goal.layout_of-requires-clause-few_latches
layout_of-requires-clause-few_latches c =
    let ms = c.args.file.now.models.items in
    let m = c.index.result.now in
    latches_few (file_of c.args.file.now) c.args.s.now (model_of m) c.requires.sound (first_main ms m (some_model ms c.requires.is_file.some_model) c.index.ensures)

pub layout_of-requires-clause-few_outputs : goal.layout_of-requires-clause-few_outputs
layout_of-requires-clause-few_outputs c =
    let ms = c.args.file.now.models.items in
    let m = c.index.result.now in
    outputs_few (file_of c.args.file.now) c.args.s.now (model_of m) c.requires.sound (first_main ms m (some_model ms c.requires.is_file.some_model) c.index.ensures)

pub returns-in_err-l-clause-refused : goal.returns-in_err-l-clause-refused
returns-in_err-l-clause-refused c =
    let ms = c.args.file.now.models.items in
    let m = c.index.result.now in
    let main = first_main ms m (some_model ms c.requires.is_file.some_model) c.index.ensures in
    let p = err_from_is_err_and c.from_residual.result c.from_residual.ensures.1 in
    rw (p.1, p.2) (refused_words (file_of c.args.file.now) c.args.s.now (model_of m) c.requires.sound main (fault_of c.in_err-l.field-0.0) c.in_err-l.ensures.fault)

pub size_of_checked-requires-clause-layout : goal.size_of_checked-requires-clause-layout
size_of_checked-requires-clause-layout c =
    let ms = c.args.file.now.models.items in
    let m = c.index.result.now in
    let main = first_main ms m (some_model ms c.requires.is_file.some_model) c.index.ensures in
    partitioned (file_of c.args.file.now) c.args.s.now (model_of m) c.requires.sound main c.in_ok-l.l c.in_ok-l.ensures.no_fault c.in_ok-l.ensures.ok c.in_ok-l.ensures.state c.in_ok-l.ensures.output

pub returns-in-Some-clause-settled : goal.returns-in-Some-clause-settled
returns-in-Some-clause-settled c =
    let file = file_of c.args.file.now in
    let s = c.args.s.now in
    let ms = c.args.file.now.models.items in
    let m = c.index.result.now in
    let main = first_main ms m (some_model ms c.requires.is_file.some_model) c.index.ensures in
    let size : IsMainPlain file s c.in_ok-l.l c.in-Some.field-0 × (c.in-Some.field-0 ≤ 1000000)
    = subst (λ (o : Option ℕ). IfSome o (λ n. IsMainPlain file s c.in_ok-l.l n × (n ≤ 1000000))) c.in-Some.is c.in_ok-size_of_checked.ensures.plain in
    settled file s (model_of m) c.requires.sound main c.in_ok-l.l c.in_ok-l.ensures.no_fault c.in_ok-l.ensures.ok c.in_ok-l.ensures.state c.in_ok-l.ensures.output c.in-Some.field-0 size.0 size.1

pub returns-in-None-clause-refused : goal.returns-in-None-clause-refused
returns-in-None-clause-refused c =
    let file = file_of c.args.file.now in
    let s = c.args.s.now in
    let ms = c.args.file.now.models.items in
    let m = c.index.result.now in
    let main = first_main ms m (some_model ms c.requires.is_file.some_model) c.index.ensures in
    let size : (n : ℕ) × IsMainPlain file s c.in_ok-l.l n × (1000000 < n)
    = subst (λ (o : Option ℕ). IfNone o ((n : ℕ) × IsMainPlain file s c.in_ok-l.l n × (1000000 < n))) c.in-None.is c.in_ok-size_of_checked.ensures.large in
    refused_large file s (model_of m) c.requires.sound main c.in_ok-l.l c.in_ok-l.ensures.no_fault c.in_ok-l.ensures.ok size.0 size.1 size.2
