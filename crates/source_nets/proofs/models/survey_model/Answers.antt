use Rattle.std.proofs.Common.{◌+◌, ◌∙◌, sym, ap, subst, List, map, take, All}
use Rattle.std.specs.List.{AllByRecursion, AllZip}
use Rattle.std.proofs.lemmas.List.{take_all}
use Rattle.netlist_spec.specs.Netlist.{Name, Located as SpecLocated}
use Rattle.netlist_spec.specs.Sound.{reads, drives}
use Rattle.blif_read.specs.declared.file.Located.{Located}
use Rattle.blif_read.specs.Ids.{IsIdOf, ids_in}
use Rattle.blif_read.specs.View.{name_at, statement_of, located_of}
use Rattle.line_order.proofs.MarkLemmas.{each_of}
use Rattle.source_nets.specs.declared.types.Meaning.{Meaning}
use Rattle.source_nets.specs.declared.ports.PortKind.TheVariants.{Input, Output}
use Rattle.source_nets.specs.Ports.{net_ids, source_file, source_library}
use Rattle.source_nets.specs.Survey.{Means, IsMeaningIn}
use Rattle.source_nets.proofs.SurveyLemmas.{zip_more, rows_more, within_more, all_push, reads_named, drives_named, reads_within, drives_within, zip_mapped, mapped_twice}
use Rattle.source_nets.proofs.models.survey_model.Goals as goal

pub loop-s-preserved : goal.loop-s-preserved
loop-s-preserved c =
    let all = c.args.m.now.names in
    let F = source_file c.args.source.now in
    let L = source_library c.args.source.now in
    let items = c.deref-s-items.result.now in
    let i = c.loop-s.s-index in
    let s = c.s-item.result in
    let found = c.statement-meaning.result in
    let R : Located → Meaning → Type 0 = λ z f. Means F L (statement_of all z.what) f in
    let P : Located → Type 0 = λ z. All (IsIdOf all) (ids_in z.what) in
    let means : Means F L (statement_of all s.what) found = c.statement-meaning.ensures.means F L all c.requires.catalog in
    let ids : AllByRecursion (IsIdOf all) (ids_in s.what)
    = each_of (IsIdOf all) (ids_in s.what) (subst P (sym c.s-item.is) (subst (All P) (sym c.deref-s-items.ensures.value) c.requires.ids.statements i s c.loop-s-test.true)) in
    record {
      means = subst (AllZip R (take (i + 1) items)) (sym c.in_ok-push.ensures.items) (zip_more R items c.loop-s.meanings.items i s found c.loop-s-test.true c.s-item.is c.loop-s.invariant.means means);
      within = subst (AllByRecursion (IsMeaningIn F L)) (sym c.in_ok-push.ensures.items) (all_push (IsMeaningIn F L) c.loop-s.meanings.items found c.loop-s.invariant.within (c.statement-meaning.ensures.within F L c.requires.catalog));
      reads = rows_more (λ (z : Located). reads F L (statement_of all z.what)) all c.loop-s.reads c.push_nets.new.rows (net_ids F L Input found s.what) items i s c.loop-s-test.true c.s-item.is c.in_ok-push_nets.ensures c.loop-s.invariant.reads (reads_named F L all found s.what means);
      drives = rows_more (λ (z : Located). drives F L (statement_of all z.what)) all c.loop-s.drives c.push_nets-in-loop-s.new.rows (net_ids F L Output found s.what) items i s c.loop-s-test.true c.s-item.is c.in_ok-push_nets-2.ensures c.loop-s.invariant.drives (drives_named F L all found s.what means);
      reads_within = within_more (IsIdOf all) c.loop-s.reads c.push_nets.new.rows (net_ids F L Input found s.what) c.in_ok-push_nets.ensures c.loop-s.invariant.reads_within (reads_within F L found (IsIdOf all) s.what ids);
      drives_within = within_more (IsIdOf all) c.loop-s.drives c.push_nets-in-loop-s.new.rows (net_ids F L Output found s.what) c.in_ok-push_nets-2.ensures c.loop-s.invariant.drives_within (drives_within F L found (IsIdOf all) s.what ids);
    }

pub returns : goal.returns
returns c =
    let all = c.args.m.now.names in
    let F = source_file c.args.source.now in
    let L = source_library c.args.source.now in
    let ss = c.args.m.now.statements.items in
    let full = take_all c.loop-s.s-index c.deref-s-items.result.now c.loop-s-test.false ∙ c.deref-s-items.ensures.value in
    let R : Located → Meaning → Type 0 = λ z f. Means F L (statement_of all z.what) f in
    let f : Located → List Name = λ z. reads F L (statement_of all z.what) in
    let g : Located → List Name = λ z. drives F L (statement_of all z.what) in
    record {
      means = zip_mapped (λ (z : SpecLocated) (f : Meaning). Means F L z.what f) (located_of all) ss c.loop-s.meanings.items (subst (λ (zs : List Located). AllZip R zs c.loop-s.meanings.items) full c.loop-s.invariant.means);
      within = c.loop-s.invariant.within;
      reads = c.loop-s.invariant.reads ∙ ap (map f) full ∙ mapped_twice (λ (l : SpecLocated). reads F L l.what) (located_of all) ss;
      drives = c.loop-s.invariant.drives ∙ ap (map g) full ∙ mapped_twice (λ (l : SpecLocated). drives F L l.what) (located_of all) ss;
      reads_within = c.loop-s.invariant.reads_within;
      drives_within = c.loop-s.invariant.drives_within;
    }
