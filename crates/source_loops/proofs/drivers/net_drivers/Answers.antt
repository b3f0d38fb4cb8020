use Rattle.std.proofs.Common.{◌≡◌, ◌∙◌, refl, sym, ap, subst, ◌+◌, ◌<◌, map, length, List, get_or, false, arith, Some, slice_get}
use Rattle.std.proofs.lemmas.List.{length-map}
use Rattle.std.proofs.lemmas.Option.{slice_get_read}
use Rattle.netlist_spec.specs.Netlist.{Located}
use Rattle.netlist_spec.specs.Sound.{combines}
use Rattle.blif_read.specs.declared.file.Located.{Located as ReadLocated}
use Rattle.blif_read.specs.View.{model_of, located_of}
use Rattle.net_graph.proofs.MarkLemmas.{written_back}
use Rattle.source_nets.proofs.SurveyLemmas.{row_at}
use Rattle.source_loops.specs.Nets.{numbers_of}
use Rattle.source_loops.proofs.NumberLemmas.{flag_at}
use Rattle.source_loops.proofs.RowLemmas.{row_of_number, rows_named, rows_are_nets}
use Rattle.source_loops.proofs.DriverLemmas.{AreSoFar, so_far_more, so_far_skip, are_drivers}
use Rattle.source_loops.proofs.drivers.net_drivers.Goals as goal
use Rattle.source_loops.proofs.drivers.net_drivers.Goals.{then-does_combine, else-does_combine}

pub loop-place-preserved : goal.loop-place-preserved
loop-place-preserved c =
    let m = model_of c.args.m.now in
    let all = c.args.m.now.names in
    let place = c.loop-place.place in
    let items = c.args.m.now.statements.items in
    let rows = map numbers_of c.args.survey.now.drives in
    let flags = map (λ (s : Located). combines s.what) m.statements in
    let inside : place < length items = omega (arith, c.loop-place-test.true, ap length c.deref-s-items.ensures.value) in
    let there : slice_get items place ≡ Some c.s-item.result
    = slice_get_read items (length items) place c.s-item.result refl inside (c.s-item.is ∙ ap (λ (l : List ReadLocated). get_or l place c.s-item.result) c.deref-s-items.ensures.value) in
    let flag : get_or flags place false ≡ c.does_combine.result = flag_at (λ (s : Located). combines s.what) m.statements place (located_of all c.s-item.result) (row_at (located_of all) items place c.s-item.result there) ∙ sym (c.does_combine.ensures all) in
    elim c.if-does_combine.branch [
      | then-does_combine w ↦ let row = row_of_number c.args.survey.now.drives place w.row.result.now w.row.ensures in subst
          (AreSoFar rows flags (length c.args.m.now.names) (length items) (place + 1))
          (sym (ap (λ v. v.items) w.drivers-is ∙ written_back c.loop-place.drivers.len w.put_driver.new.drivers c.loop-place.drivers.items (w.put_driver.ensures.size ∙ ap length w.deref_mut.ensures.value) (omega (arith, c.loop-place.drivers.ok.0))))
          (
          so_far_more rows flags (length c.args.m.now.names) (length items) place w.deref_mut.result.now w.put_driver.new.drivers w.row.result.now (flag ∙ w.if-does_combine.true) row w.put_driver.ensures
          (subst (AreSoFar rows flags (length c.args.m.now.names) (length items) place) (sym w.deref_mut.ensures.value) c.loop-place.invariant)
          )
      | else-does_combine w ↦ subst
          (AreSoFar rows flags (length c.args.m.now.names) (length items) (place + 1))
          (sym (ap (λ v. v.items) w.drivers-is))
          (so_far_skip rows flags (length c.args.m.now.names) (length items) place c.loop-place.drivers.items (flag ∙ w.if-does_combine.false) c.loop-place.invariant)
    ]

pub returns : goal.returns
returns c = λ file library s one.
    let all = c.args.m.now.names in
    let m = model_of c.args.m.now in
    let items = c.args.m.now.statements.items in
    let rows = map numbers_of c.args.survey.now.drives in
    are_drivers file library m one (map numbers_of c.args.survey.now.drives) c.loop-place.place c.loop-place.drivers.items c.len-2.ensures.are_names.distinct (rows_named all c.args.survey.now.drives ∙ s.drives)
    (rows_are_nets all c.args.survey.now.drives s.drives_within)
    (omega (arith, length-map items (located_of all), ap length c.deref-s-items.ensures.value, c.loop-place-test.false)) (omega (arith, length-map items (located_of all), ap length c.deref-s-items.ensures.value, c.loop-place.auto.place-end))
    (subst (λ n. AreSoFar rows (map (λ (s : Located). combines s.what) m.statements) (length all) n c.loop-place.place c.loop-place.drivers.items) (sym (length-map items (located_of all))) c.loop-place.invariant)
