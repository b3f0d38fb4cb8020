use Rattle.std.proofs.lemmas.Bool.{both_ways}
use Rattle.blif_read.specs.View.{model_of}
use Rattle.netlist_spec.specs.SoundFaults.{HasLatchInside}
use Rattle.source_nets.specs.Ports.{source_file, source_library}
use Rattle.source_models.proofs.ModelLemmas.{At, all_read, none_more, inner_above, none_at_all, first_such, read_at}
use Rattle.source_models.proofs.models.first_latch_inside.Goals as goal

pub loop-k-preserved : goal.loop-k-preserved
loop-k-preserved c =
    let file = source_file c.args.source.now in
    let library = source_library c.args.source.now in
    let m = model_of c.m-item.result in
    let k = c.loop-k.k in
    let at : At file k m
    = read_at c.args.source.now.file.now.models.items c.deref-m-items.result.now k c.m-item.result c.deref-m-items.ensures.value c.loop-k-test.true c.m-item.is in
    none_more file (HasLatchInside file library) k m at
    (λ used such. both_ways c.is_latch_inside.result c.if-is_latch_inside.false
    (c.is_latch_inside.ensures.1 ((inner_above file c.requires.is_file k m at).0 such.0, (c.requires.used.marked k m at).1 used, such.1))) c.loop-k.invariant

pub returns : goal.returns
returns c =
    let file = source_file c.args.source.now in
    let items = c.args.source.now.file.now.models.items in
    record {
      exact =
          none_at_all file (HasLatchInside file (source_library c.args.source.now)) c.loop-k.k (all_read items c.deref-m-items.result.now c.loop-k.k c.deref-m-items.ensures.value c.loop-k-test.false)
          c.loop-k.invariant;
    }

pub returns-then-is_latch_inside : goal.returns-then-is_latch_inside
returns-then-is_latch_inside c =
    let file = source_file c.args.source.now in
    let m = model_of c.m-item.result in
    let at : At file c.loop-k.k m
    = read_at c.args.source.now.file.now.models.items c.deref-m-items.result.now c.loop-k.k c.m-item.result c.deref-m-items.ensures.value c.loop-k-test.true c.m-item.is in
    let h = c.is_latch_inside.ensures.0 c.if-is_latch_inside.true in
    record {
      exact =
          first_such file (HasLatchInside file (source_library c.args.source.now)) c.loop-k.k m c.in_ok-name_of.field-0 at c.in_ok-name_of.ensures c.loop-k.invariant
          ((c.requires.used.marked c.loop-k.k m at).0 h.1)
          ((inner_above file c.requires.is_file c.loop-k.k m at).1 h.0, h.2);
    }
