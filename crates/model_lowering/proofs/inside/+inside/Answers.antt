use Rattle.std.proofs.Common.{◌≡◌, ◌<◌, sym, ap, ◌∙◌, List, ℕ, length, map, Some, slice_get, arith}
use Rattle.std.proofs.lemmas.List.{length-map}
use Rattle.std.proofs.Common.{◌-◌, subst, All}
use Rattle.std.specs.Prelude.{option_map}
use Rattle.netlist_spec.specs.Netlist.{Statement, Located, Model}
use Rattle.netlist_spec.specs.Placed.{a_model, output_ports}
use Rattle.blif_read.specs.declared.file.Bind.{Bind as ReadBind}
use Rattle.blif_read.specs.Ids.{IsIdOf}
use Rattle.blif_read.specs.View.{model_of, located_of, bind_of}
use Rattle.source_nets.specs.Ports.{source_file, source_library}
use Rattle.model_lowering.specs.Binds.{given_inside, answered_outside, binds_in}
use Rattle.model_lowering.specs.Inside.{CanLowerModel, LowersModel}
use Rattle.std.proofs.lemmas.Result.{on_ok_weaker}
use Rattle.source_nets.specs.declared.types.Meaning.TheVariants.{Model as ModelAt}
use Rattle.source_nets.specs.Survey.{IsMeaningIn, IsModelSurvey, Means}
use Rattle.source_loops.specs.Orders.{statement_at}
use Rattle.lowering.specs.Lowers.{Lowers}
use Rattle.source_nets.proofs.SurveyLemmas.{zip_length}
use Rattle.model_lowering.proofs.Known.{places_none, stated, survey_of}
use Rattle.model_lowering.proofs.ModelLoop.{loop_begins, place_within, call_can, loop_goes_on, loop_ends}
use Rattle.model_lowering.proofs.Places.{mapped_place, is_mapped, same_there, some_at}
use Rattle.model_lowering.proofs.PlacedCall.{at_m, model_ids, bind_ids, call_has_step, table_size, inner_can, outer_lowers}
use Rattle.model_lowering.proofs.inside.+inside.Goals as goal

pub lower_model-lower_statement-requires : goal.lower_model-lower_statement-requires
lower_model-lower_statement-requires t c =
    let rows = c.args.checked.now.orders.items in
    let order = c.deref-i-items.result.now in
    let within : c.args.k < length rows = omega (arith, length-map rows (λ row. row.items), c.requires.ready.found.orders.size, length-map c.args.source.now.file.now.models.items model_of, c.requires.place) in
    let there : slice_get (map (λ row. row.items) rows) c.args.k ≡ Some order
    = mapped_place (λ row. row.items) rows c.args.k c.index-order.result.now within c.index-order.ensures ∙ ap (λ (is : List ℕ). Some is) (sym c.deref-i-items.ensures.value) in (
      omega arith,
      (
        c.requires.ready,
        (
          c.requires.place,
          (
            λ m at. place_within c.args.source.now c.args.checked.now c.requires.ready c.args.k m at c.args.fuel c.args.net.now c.args.inside.now (c.requires.can m at) order there c.loop-i.i-index c.loop-i.net c.loop-i.inside c.loop-i-test.true (c.loop-i.invariant m at),
            λ m s at is. call_can c.args.source.now c.args.checked.now c.requires.ready c.args.k m at c.args.fuel c.args.net.now c.args.inside.now (c.requires.can m at) order there c.loop-i.i-index c.loop-i.net c.loop-i.inside c.loop-i-test.true (c.loop-i.invariant m at) s is,
          ),
        ),
      ),
    )

pub lower_model-loop-i-init : goal.lower_model-loop-i-init
lower_model-loop-i-init t c m at =
    let rows = c.args.checked.now.orders.items in
    let order = c.deref-i-items.result.now in
    let within : c.args.k < length rows = omega (arith, length-map rows (λ row. row.items), c.requires.ready.found.orders.size, length-map c.args.source.now.file.now.models.items model_of, c.requires.place) in
    let there : slice_get (map (λ row. row.items) rows) c.args.k ≡ Some order
    = mapped_place (λ row. row.items) rows c.args.k c.index-order.result.now within c.index-order.ensures ∙ ap (λ (is : List ℕ). Some is) (sym c.deref-i-items.ensures.value) in
    loop_begins c.args.source.now c.args.checked.now c.requires.ready c.args.k m at c.args.fuel c.args.net.now c.args.inside.now (c.requires.can m at) order there

pub lower_model-loop-i-preserved : goal.lower_model-loop-i-preserved
lower_model-loop-i-preserved t c m at =
    let rows = c.args.checked.now.orders.items in
    let order = c.deref-i-items.result.now in
    let within : c.args.k < length rows = omega (arith, length-map rows (λ row. row.items), c.requires.ready.found.orders.size, length-map c.args.source.now.file.now.models.items model_of, c.requires.place) in
    let there : slice_get (map (λ row. row.items) rows) c.args.k ≡ Some order
    = mapped_place (λ row. row.items) rows c.args.k c.index-order.result.now within c.index-order.ensures ∙ ap (λ (is : List ℕ). Some is) (sym c.deref-i-items.ensures.value) in
    loop_goes_on c.args.source.now c.args.checked.now c.requires.ready c.args.k m at c.args.fuel c.args.net.now c.args.inside.now (c.requires.can m at) order there c.loop-i.i-index c.loop-i.net c.loop-i.inside c.loop-i-test.true (c.loop-i.invariant m at)
    c.lower_statement.new.net c.lower_statement.new.table (λ s is. c.in_ok-lower_statement.ensures m s at is)

pub lower_model-returns : goal.lower_model-returns
lower_model-returns t c m at =
    let rows = c.args.checked.now.orders.items in
    let order = c.deref-i-items.result.now in
    let within : c.args.k < length rows = omega (arith, length-map rows (λ row. row.items), c.requires.ready.found.orders.size, length-map c.args.source.now.file.now.models.items model_of, c.requires.place) in
    let there : slice_get (map (λ row. row.items) rows) c.args.k ≡ Some order
    = mapped_place (λ row. row.items) rows c.args.k c.index-order.result.now within c.index-order.ensures ∙ ap (λ (is : List ℕ). Some is) (sym c.deref-i-items.ensures.value) in
    loop_ends c.args.source.now c.args.checked.now c.requires.ready c.args.k m at c.args.fuel c.args.net.now c.args.inside.now (c.requires.can m at) order there c.loop-i.i-index c.loop-i.net c.loop-i.inside c.loop-i-test.false (c.loop-i.invariant m at)

pub lower_placed-index-requires : goal.lower_placed-index-requires
lower_placed-index-requires t c =
    let source = c.args.source.now in
    let rm = c.index-outer.result.now in
    let m_at = at_m source c.args.checked.now c.requires.ready c.args.k rm c.requires.model c.index-outer.ensures in
    let i_within : c.args.i < length rm.statements.items = omega (arith, c.requires.statement (model_of rm) m_at, length-map rm.statements.items (located_of rm.names)) in
    omega (arith, i_within, rm.statements.ok.0)

pub lower_placed-give_nets-requires-clause-actuals : goal.lower_placed-give_nets-requires-clause-actuals
lower_placed-give_nets-requires-clause-actuals t c =
    let source = c.args.source.now in
    let rm = c.index-outer.result.now in
    let m_at = at_m source c.args.checked.now c.requires.ready c.args.k rm c.requires.model c.index-outer.ensures in
    let i_within : c.args.i < length rm.statements.items = omega (arith, c.requires.statement (model_of rm) m_at, length-map rm.statements.items (located_of rm.names)) in
    let loc = c.index.result.now in
    subst (λ (bs : List ReadBind). All (λ (b : ReadBind). IsIdOf rm.names b.actual) bs) (sym c.binds_of-binds.ensures) (bind_ids source c.args.checked.now c.requires.ready c.args.k rm c.requires.model c.index-outer.ensures c.args.i loc i_within c.index.ensures)

pub lower_placed-give_nets-requires-clause-table : goal.lower_placed-give_nets-requires-clause-table
lower_placed-give_nets-requires-clause-table t c =
    let source = c.args.source.now in
    let rm = c.index-outer.result.now in
    let m_at = at_m source c.args.checked.now c.requires.ready c.args.k rm c.requires.model c.index-outer.ensures in
    let i_within : c.args.i < length rm.statements.items = omega (arith, c.requires.statement (model_of rm) m_at, length-map rm.statements.items (located_of rm.names)) in
    let loc = c.index.result.now in
    let rc = c.index-inner.result.now in
    table_size source c.args.checked.now c.requires.ready c.args.k rm c.requires.model c.index-outer.ensures c.args.i loc i_within c.index.ensures c.args.place rc c.requires.placed c.index-inner.ensures c.args.fuel c.args.net.now c.args.table.now c.requires.means c.requires.can

pub lower_placed-overflow_sub-fuel : goal.lower_placed-overflow_sub-fuel
lower_placed-overflow_sub-fuel t c =
    let source = c.args.source.now in
    let rm = c.index-outer.result.now in
    let m_at = at_m source c.args.checked.now c.requires.ready c.args.k rm c.requires.model c.index-outer.ensures in
    let i_within : c.args.i < length rm.statements.items = omega (arith, c.requires.statement (model_of rm) m_at, length-map rm.statements.items (located_of rm.names)) in
    let loc = c.index.result.now in
    let rc = c.index-inner.result.now in
    call_has_step source c.args.checked.now c.requires.ready c.args.k rm c.requires.model c.index-outer.ensures c.args.i loc i_within c.index.ensures c.args.place rc c.requires.placed c.index-inner.ensures c.args.fuel c.args.net.now c.args.table.now c.requires.means c.requires.can

pub lower_placed-lower_model-requires : goal.lower_placed-lower_model-requires
lower_placed-lower_model-requires t c =
    let source = c.args.source.now in
    let rm = c.index-outer.result.now in
    let m_at = at_m source c.args.checked.now c.requires.ready c.args.k rm c.requires.model c.index-outer.ensures in
    let i_within : c.args.i < length rm.statements.items = omega (arith, c.requires.statement (model_of rm) m_at, length-map rm.statements.items (located_of rm.names)) in
    let loc = c.index.result.now in
    let rc = c.index-inner.result.now in
    let begun = c.as_mut_slice-inside.result.now in
    let size : length begun ≡ length rc.names = omega (arith, c.in_ok-nets.ensures.len, c.as_mut_slice-inside.ensures.len, c.len.ensures.count) in
    let given : c.give_nets.new.inside ≡ given_inside rm.names rc.names c.args.table.now (map (bind_of rm.names) (binds_in loc.what)) begun
    = ◌∙◌ {b = given_inside rm.names rc.names c.args.table.now (map (bind_of rm.names) c.binds_of-binds.result.now) begun} c.give_nets.ensures (ap (λ (bs : List ReadBind). given_inside rm.names rc.names c.args.table.now (map (bind_of rm.names) bs) begun) c.binds_of-binds.ensures) in
    let one = call_has_step source c.args.checked.now c.requires.ready c.args.k rm c.requires.model c.index-outer.ensures c.args.i loc i_within c.index.ensures c.args.place rc c.requires.placed c.index-inner.ensures c.args.fuel c.args.net.now c.args.table.now c.requires.means c.requires.can in (
      omega arith,
      (
        c.requires.ready,
        (
          c.requires.placed,
          λ x at. subst (CanLowerModel (source_file source) (source_library source) x (c.args.fuel - 1) c.args.net.now) (sym given) (inner_can source c.args.checked.now c.requires.ready c.args.k rm c.requires.model c.index-outer.ensures c.args.i loc i_within c.index.ensures c.args.place rc c.requires.placed c.index-inner.ensures c.args.fuel c.args.net.now c.args.table.now c.requires.means c.requires.can begun size x at),
        ),
      ),
    )

pub lower_placed-take_nets-requires-clause-actuals : goal.lower_placed-take_nets-requires-clause-actuals
lower_placed-take_nets-requires-clause-actuals t c =
    let source = c.args.source.now in
    let rm = c.index-outer.result.now in
    let m_at = at_m source c.args.checked.now c.requires.ready c.args.k rm c.requires.model c.index-outer.ensures in
    let i_within : c.args.i < length rm.statements.items = omega (arith, c.requires.statement (model_of rm) m_at, length-map rm.statements.items (located_of rm.names)) in
    let loc = c.index.result.now in
    subst (λ (bs : List ReadBind). All (λ (b : ReadBind). IsIdOf rm.names b.actual) bs) (sym c.binds_of-binds.ensures) (bind_ids source c.args.checked.now c.requires.ready c.args.k rm c.requires.model c.index-outer.ensures c.args.i loc i_within c.index.ensures)

pub lower_placed-take_nets-requires-clause-table : goal.lower_placed-take_nets-requires-clause-table
lower_placed-take_nets-requires-clause-table t c =
    let source = c.args.source.now in
    let rm = c.index-outer.result.now in
    let m_at = at_m source c.args.checked.now c.requires.ready c.args.k rm c.requires.model c.index-outer.ensures in
    let i_within : c.args.i < length rm.statements.items = omega (arith, c.requires.statement (model_of rm) m_at, length-map rm.statements.items (located_of rm.names)) in
    let loc = c.index.result.now in
    let rc = c.index-inner.result.now in
    table_size source c.args.checked.now c.requires.ready c.args.k rm c.requires.model c.index-outer.ensures c.args.i loc i_within c.index.ensures c.args.place rc c.requires.placed c.index-inner.ensures c.args.fuel c.args.net.now c.args.table.now c.requires.means c.requires.can

pub lower_placed-take_nets-requires-clause-inside : goal.lower_placed-take_nets-requires-clause-inside
lower_placed-take_nets-requires-clause-inside t c x at =
    let source = c.args.source.now in
    let rm = c.index-outer.result.now in
    let m_at = at_m source c.args.checked.now c.requires.ready c.args.k rm c.requires.model c.index-outer.ensures in
    let i_within : c.args.i < length rm.statements.items = omega (arith, c.requires.statement (model_of rm) m_at, length-map rm.statements.items (located_of rm.names)) in
    let loc = c.index.result.now in
    let rc = c.index-inner.result.now in
    let begun = c.as_mut_slice-inside.result.now in
    let size : length begun ≡ length rc.names = omega (arith, c.in_ok-nets.ensures.len, c.as_mut_slice-inside.ensures.len, c.len.ensures.count) in
    let same : model_of rc ≡ x = is_mapped model_of source.file.now.models.items c.args.place rc x c.requires.placed c.index-inner.ensures at in
    let names = ap (λ (y : Model). length y.names) same in
    omega (arith, c.lower_model.auto.inside, c.give_nets.auto.inside, size, names)

pub lower_placed-returns : goal.lower_placed-returns
lower_placed-returns t c =
    let source = c.args.source.now in
    let rm = c.index-outer.result.now in
    let m_at = at_m source c.args.checked.now c.requires.ready c.args.k rm c.requires.model c.index-outer.ensures in
    let i_within : c.args.i < length rm.statements.items = omega (arith, c.requires.statement (model_of rm) m_at, length-map rm.statements.items (located_of rm.names)) in
    let loc = c.index.result.now in
    let rc = c.index-inner.result.now in
    let begun = c.as_mut_slice-inside.result.now in
    let size : length begun ≡ length rc.names = omega (arith, c.in_ok-nets.ensures.len, c.as_mut_slice-inside.ensures.len, c.len.ensures.count) in
    let given : c.give_nets.new.inside ≡ given_inside rm.names rc.names c.args.table.now (map (bind_of rm.names) (binds_in loc.what)) begun
    = ◌∙◌ {b = given_inside rm.names rc.names c.args.table.now (map (bind_of rm.names) c.binds_of-binds.result.now) begun} c.give_nets.ensures (ap (λ (bs : List ReadBind). given_inside rm.names rc.names c.args.table.now (map (bind_of rm.names) bs) begun) c.binds_of-binds.ensures) in
    outer_lowers source c.args.checked.now c.requires.ready c.args.k rm c.requires.model c.index-outer.ensures c.args.i loc i_within c.index.ensures c.args.place rc c.requires.placed c.index-inner.ensures c.args.fuel c.args.net.now c.args.table.now c.requires.means c.requires.can begun size c.lower_model.new.net c.lower_model.new.inside c.take_nets.new.table
    (λ x at. subst (λ (is : List ℕ). LowersModel (source_file source) (source_library source) x c.args.net.now is c.lower_model.new.net c.lower_model.new.inside) given (c.in_ok-lower_model.ensures x at))
    (λ x at. ◌∙◌ {b = answered_outside rm.names x.names (output_ports (a_model x)) c.lower_model.new.inside (map (bind_of rm.names) c.binds_of-binds.result.now) c.args.table.now} (c.take_nets.ensures x at) (ap (λ (bs : List ReadBind). answered_outside rm.names x.names (output_ports (a_model x)) c.lower_model.new.inside (map (bind_of rm.names) bs) c.args.table.now) c.binds_of-binds.ensures))

pub lower_statement-index-requires : goal.lower_statement-index-requires
lower_statement-index-requires t c =
    omega (arith, c.requires.place, length-map c.args.source.now.file.now.models.items model_of, zip_length _ _ _ c.requires.ready.found.survey.models, c.args.checked.now.survey.models.ok.0)

pub lower_statement-meaning-meaning-requires : goal.lower_statement-meaning-meaning-requires
lower_statement-meaning-meaning-requires t c =
    let source = c.args.source.now in
    let rm = c.index-m.result.now in
    let m_at = at_m source c.args.checked.now c.requires.ready c.args.k rm c.requires.place c.index-m.ensures in
    let found = c.index.result.now in
    let surveyed : IsModelSurvey (source_file source) (source_library source) (model_of rm) found
    = survey_of source c.args.checked.now c.requires.ready c.args.k (model_of rm) m_at found c.index.ensures in
    omega (arith, zip_length _ _ _ surveyed.means, c.requires.statement (model_of rm) m_at)

pub lower_statement-lower_placed-requires : goal.lower_statement-lower_placed-requires
lower_statement-lower_placed-requires t c =
    let source = c.args.source.now in
    let F = source_file source in
    let L = source_library source in
    let rm = c.index-m.result.now in
    let m = model_of rm in
    let m_at = at_m source c.args.checked.now c.requires.ready c.args.k rm c.requires.place c.index-m.ensures in
    let found = c.index.result.now in
    let surveyed : IsModelSurvey F L m found = survey_of source c.args.checked.now c.requires.ready c.args.k m m_at found c.index.ensures in
    let r = some_at m.statements c.args.i (c.requires.statement m m_at) in
    let place = c.in-Model.place in
    let inside : place < length F.models = subst (IsMeaningIn F L) c.in-Model.is (c.meaning-meaning.ensures F L m r.0 surveyed r.1).1 in (
      omega arith,
      (
        c.requires.ready,
        (
          c.requires.place,
          (
            c.requires.statement,
            (
              omega (arith, inside, length-map source.file.now.models.items model_of),
              (
                λ x s at e.
                    let same : m ≡ x = same_there F.models c.args.k m x m_at at in
                    let w = stated m c.args.i s (c.requires.statement m m_at) (ap (λ (y : Model). statement_at y c.args.i) same ∙ e) in
                    subst (λ (u : Statement). Means F L u (ModelAt place)) w.2 (subst (Means F L w.0.what) c.in-Model.is (c.meaning-meaning.ensures F L m w.0 surveyed w.1).0),
                c.requires.can,
              ),
            ),
          ),
        ),
      ),
    )

pub lower_statement-lower_cell-requires : goal.lower_statement-lower_cell-requires
lower_statement-lower_cell-requires t c =
    let source = c.args.source.now in
    let F = source_file source in
    let L = source_library source in
    let rm = c.index-m.result.now in
    let m = model_of rm in
    let m_at = at_m source c.args.checked.now c.requires.ready c.args.k rm c.requires.place c.index-m.ensures in
    let found = c.index.result.now in
    let surveyed : IsModelSurvey F L m found = survey_of source c.args.checked.now c.requires.ready c.args.k m m_at found c.index.ensures in
    let r = some_at m.statements c.args.i (c.requires.statement m m_at) in
    record {
      place = omega (arith, c.requires.statement m m_at, length-map rm.statements.items (located_of rm.names));
      ids = model_ids source c.args.checked.now c.requires.ready c.args.k rm c.requires.place c.index-m.ensures;
      meaning = λ l at. (c.meaning-meaning.ensures F L m l surveyed at).0;
      within = (c.meaning-meaning.ensures F L m r.0 surveyed r.1).1;
      no_model = places_none c.meaning-meaning.result c.in_default.not-Model;
      combines = λ l at. (c.requires.can m l.what m_at (ap (option_map (λ (l : Located). l.what)) at)).combines;
      can = λ l at. (c.requires.can m l.what m_at (ap (option_map (λ (l : Located). l.what)) at)).can;
    }

pub lower_statement-returns-in_default : goal.lower_statement-returns-in_default
lower_statement-returns-in_default t c =
    let source = c.args.source.now in
    let F = source_file source in
    let L = source_library source in
    let rm = c.index-m.result.now in
    let m = model_of rm in
    let m_at = at_m source c.args.checked.now c.requires.ready c.args.k rm c.requires.place c.index-m.ensures in
    on_ok_weaker c.lower_cell.result
    (λ (lowers : (l : Located) → slice_get m.statements c.args.i ≡ Some l → Lowers F L rm.names l.what c.args.net.now c.args.table.now c.lower_cell.new.net c.lower_cell.new.table) x s at e.
    let same : m ≡ x = same_there F.models c.args.k m x m_at at in
    let w = stated m c.args.i s (c.requires.statement m m_at) (ap (λ (y : Model). statement_at y c.args.i) same ∙ e) in
    subst (λ (y : Model). Lowers F L y.names s c.args.net.now c.args.table.now c.lower_cell.new.net c.lower_cell.new.table) same
    (subst (λ (u : Statement). Lowers F L rm.names u c.args.net.now c.args.table.now c.lower_cell.new.net c.lower_cell.new.table) w.2 (lowers w.0 w.1))) c.lower_cell.ensures.lowered
