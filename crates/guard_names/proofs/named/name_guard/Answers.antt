use Rattle.std.proofs.Common.{◌∙◌}
use Rattle.gate_net.specs.Machine.{machine_of}
use Rattle.guard_names.proofs.Finished.{finished, labelled, ids_within}
use Rattle.guard_names.proofs.named.name_guard.Goals as goal

pub guard_labels-requires : goal.guard_labels-requires
guard_labels-requires c = labelled c.e.inside c.args.g c.args.c.now c.r.ensures.valid c.args.l.now c.e.invariant.form c.args.e c.e.view_is c.requires.state c.requires.output c.requires.guard c.deref.result.now c.deref-2.result.now c.from-columns.result c.deref.ensures.value c.deref-2.ensures.value (c.from-columns.ensures ∙ c.r.ensures.columns)

pub returns-clause-is_named : goal.returns-clause-is_named
returns-clause-is_named c =
    (finished c.e.inside c.args.g c.args.c.now c.r.ensures.valid c.args.l.now c.e.invariant.form c.args.e c.e.view_is c.requires.state c.requires.output c.requires.guard c.requires.cells c.requires.rails c.in_ok-labels.labels.items c.deref.result.now c.deref-2.result.now _
    (machine_of c.machine.inside.net c.machine.inside.inputs c.machine.inside.latches.items c.machine.inside.outputs.items) c.in_ok-labels.ensures c.deref.ensures.value c.deref-2.ensures.value (c.from-columns.ensures ∙ c.r.ensures.columns) c.machine.view_is).0

pub returns-clause-guard : goal.returns-clause-guard
returns-clause-guard c =
    (finished c.e.inside c.args.g c.args.c.now c.r.ensures.valid c.args.l.now c.e.invariant.form c.args.e c.e.view_is c.requires.state c.requires.output c.requires.guard c.requires.cells c.requires.rails c.in_ok-labels.labels.items c.deref.result.now c.deref-2.result.now _
    (machine_of c.machine.inside.net c.machine.inside.inputs c.machine.inside.latches.items c.machine.inside.outputs.items) c.in_ok-labels.ensures c.deref.ensures.value c.deref-2.ensures.value (c.from-columns.ensures ∙ c.r.ensures.columns) c.machine.view_is).1

pub invariant_of-named : goal.invariant_of-named
invariant_of-named c =
    record {
      inputs = c.e.invariant.input_ports;
      clocks = c.e.invariant.clock_ports;
      control = c.e.invariant.control;
      labels = ids_within c.e.inside c.args.g c.args.c.now c.r.ensures.valid c.args.l.now c.e.invariant.form c.args.e c.e.view_is c.requires.state c.requires.output c.requires.guard c.in_ok-labels.labels.items c.deref.result.now c.deref-2.result.now c.from-columns.result c.in_ok-labels.ensures c.deref.ensures.value c.deref-2.ensures.value (c.from-columns.ensures ∙ c.r.ensures.columns) c.e.invariant.data_names c.e.invariant.output_names;
      named =
          (finished c.e.inside c.args.g c.args.c.now c.r.ensures.valid c.args.l.now c.e.invariant.form c.args.e c.e.view_is c.requires.state c.requires.output c.requires.guard c.requires.cells c.requires.rails c.in_ok-labels.labels.items c.deref.result.now c.deref-2.result.now _
          (machine_of c.machine.inside.net c.machine.inside.inputs c.machine.inside.latches.items c.machine.inside.outputs.items) c.in_ok-labels.ensures c.deref.ensures.value c.deref-2.ensures.value (c.from-columns.ensures ∙ c.r.ensures.columns) c.machine.view_is).0;
    }
