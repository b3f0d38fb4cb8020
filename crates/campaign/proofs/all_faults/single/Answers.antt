use Rattle.std.proofs.Common.{◌≡◌, ◌∙◌, ℕ, List, length, sym, ap, subst, min, arith}
use Rattle.std.specs.Prelude.{All, Bool, Vec}
use Rattle.std.specs.declared.alloc.Global.{Global}
use Rattle.std.proofs.lemmas.List.{length-map}
use Rattle.netlist_spec.specs.Gates.{Machine}
use Rattle.gate_net.specs.Gate.{net_number}
use Rattle.blif_read.specs.View.{file_of}
use Rattle.guard_spec.specs.Codes.{rail_count}
use Rattle.settings.specs.Types.{mode_in}
use Rattle.campaign.specs.declared.sort.Fork.{Fork}
use Rattle.campaign.specs.declared.task.Task.{Task}
use Rattle.campaign.specs.Rests.{IsMeeting}
use Rattle.campaign.specs.Runs.{Shows}
use Rattle.campaign.proofs.RunLemmas.{still}
use Rattle.campaign.proofs.TallyLemmas.{begins, made_ready, whole_tally}
use Rattle.campaign.proofs.all_faults.single.Goals as goal

pub run_on-before-requires-clause-ready : goal.run_on-before-requires-clause-ready
run_on-before-requires-clause-ready c =
    let source = c.args.source.now in
    let many : length source.outputs ≡ length c.source.inside.outputs.items = ap (λ (m : Machine). length m.outputs) (sym c.source.view_is) ∙ length-map c.source.inside.outputs.items net_number in
    let outputs : c.len.result ≡ length source.outputs = omega (arith, many, c.len.ensures, c.source.inside.outputs.ok.0) in
    let shows : Shows source c.args.stimulus.now.cycles c.deref.result.now = subst (λ (rows : List (Vec Bool Global)). Shows source c.args.stimulus.now.cycles rows) (sym c.deref.ensures.value) c.in_ok-wanted.ensures in
    made_ready (file_of c.args.f.now) source (record { stimulus = c.args.stimulus; wanted = c.deref.result; outputs = c.len.result; layout = c.args.l; code = c.args.code; mode = c.args.mode; bound = c.args.t }) c.in_ok-runner.runner (rail_count (mode_in c.args.mode) c.args.t)
    c.in_ok-runner.ensures c.requires.ordered c.requires.shape c.requires.inputs c.requires.words outputs shows c.cycles.ensures.few

pub returns : goal.returns
returns c =
    let source = c.args.source.now in
    let file = file_of c.args.f.now in
    let task : Task = record { stimulus = c.args.stimulus; wanted = c.deref.result; outputs = c.len.result; layout = c.args.l; code = c.args.code; mode = c.args.mode; bound = c.args.t } in
    let many : length source.outputs ≡ length c.source.inside.outputs.items = ap (λ (m : Machine). length m.outputs) (sym c.source.view_is) ∙ length-map c.source.inside.outputs.items net_number in
    let outputs : c.len.result ≡ length source.outputs = omega (arith, many, c.len.ensures, c.source.inside.outputs.ok.0) in
    let shows : Shows source c.args.stimulus.now.cycles c.deref.result.now = subst (λ (rows : List (Vec Bool Global)). Shows source c.args.stimulus.now.cycles rows) (sym c.deref.ensures.value) c.in_ok-wanted.ensures in
    let made = c.in_ok-runner.ensures in
    let mid = c.run_on-before.new.runner in
    let behind = c.meetings_behind.new.runner in
    let keeps = c.in_ok-meetings.ensures in
    let fork : Fork = record { cycle = c.min-first.result; stored = c.deref-2.result; before = c.run_on-before.result; meetings = c.deref-3.result } in
    let then = still file c.in_ok-runner.runner.sim mid.sim c.run_on-before.ensures.netlist made.simulates in
    let now = still file mid.sim behind.sim keeps.netlist then in
    let stored : c.deref-2.result.now ≡ mid.sim.stored = c.deref-2.ensures.value ∙ (c.in_ok-stored.ensures.items_if_clones_equal (λ x y h. h) ∙ c.stored.ensures) in
    let meetings : All (IsMeeting task made.simulates.ordered.model) c.deref-3.result.now = subst (All (IsMeeting task made.simulates.ordered.model)) (sym c.deref-3.ensures.value) (keeps.kept file then) in
    whole_tally file source task behind c.count_cells.new.runner fork c.args.cycle c.count_cells.result now
    (begins file task c.in_ok-runner.runner mid fork c.args.cycle made c.run_on-before.ensures stored meetings (c.min-first.ensures ∙ ap (λ (n : ℕ). min c.args.cycle n) c.cycles.ensures.count))
    c.count_cells.ensures shows outputs
