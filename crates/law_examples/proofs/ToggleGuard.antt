-- The premises hold of the guard of the register that turns its bit.
use Rattle.std.proofs.Common.{refl, [], ◌∷◌, true, false, arith, lit≤, lit<}
use Rattle.std.specs.Fmt.{digits}
use Rattle.guard_spec.specs.Codes.{detect}
use Rattle.guard_spec.specs.Plain.{IsMachineSizeWith}
use Rattle.netlist_spec.specs.Cones.{same_net}
use Rattle.spec_examples.specs.Examples.{inverter_file, inverter_model, inverter_elaborated, inverter_layout, parity_code, parity_settings}
use Rattle.netlist_spec.specs.Written.{IsNamed}
use Rattle.spec_examples.proofs.Inverter.{inverter_plain}
use Rattle.spec_examples.proofs.SmallMachine.{inverter_is_elaborated}
use Rattle.spec_examples.specs.Toggle.{toggle, toggle_guard, toggle_named}
use Rattle.spec_examples.proofs.Toggle.{toggle_coded, toggle_is_machine, toggle_covers, toggle_have, toggle_separate, toggle_answers, toggle_rails}
use Rattle.spec_examples.proofs.Tests.{data_alone_by_test}
use Rattle.guard_laws.specs.Promised.{IsGuardOf}
use Rattle.guard_laws.specs.Named.{IsGuardNamed}
use Rattle.guard_laws.specs.Texts.{IsGuardFrom}
use Rattle.spec_examples.proofs.InverterGuard.{only_itself}

pub toggle_is_guard : IsGuardOf toggle_guard toggle parity_code detect 1 2 inverter_layout
toggle_is_guard = record {
  is_machine = toggle_is_machine;
  own_nets = toggle_have;
  covers = toggle_covers;
  separate = toggle_separate;
  reads = λ e. data_alone_by_test toggle_guard parity_code inverter_layout.state refl;
  outputs = refl;
  rail_number = refl;
  inits = refl;
  answers = toggle_answers;
  tells = toggle_rails;
  size = λ n is. let e = is.total in omega arith;
}

-- its size, by the number of gates
toggle_size : IsMachineSizeWith toggle parity_code detect 1 2 inverter_layout 28
toggle_size = record {
  state_cost = 7;
  is_state_cost = (7 ∷ [], ((1 ∷ [], (refl, tt), (3 ∷ [], (record { cone = 1; is_cone = (true ∷ [], (((λ t. same_net), (λ r. refl)), tt), refl); correctors = 0; are_correctors = refl; total = refl }, tt), refl)), tt), refl);
  output_cost = 5;
  is_output_cost = (5 ∷ [], ((0 ∷ [], (refl, tt), (2 ∷ [], (record { cone = 0; is_cone = (false ∷ [], (((λ t. cc t), (λ r. absurd (let e = only_itself r in omega arith))), tt), refl); correctors = 0; are_correctors = refl; total = refl }, tt), refl)), tt), refl);
  total = refl;
}

toggle_named_is : IsNamed toggle_named
unfolding digits
toggle_named_is = record {
  gates = toggle_is_machine.gates;
  leaves = refl;
  labels = refl;
  distinct = refl;
  first_labels = refl;
  no_clock = (refl, (refl, (refl, (refl, (refl, (refl, (refl, (refl, (refl, (refl, (refl, (refl, tt))))))))))));
  inputs = refl;
  clocks = refl;
  control = tt;
  clocking = λ e. refl;
  outputs = toggle_is_machine.outputs;
  once = refl;
  stores = toggle_is_machine.stores;
  model = (record { is_name = (lit< tt, lit≤ tt); bytes = refl }, refl);
  words = (record { is_name = (lit< tt, lit≤ tt); bytes = refl }, tt);
  free = (refl, tt);
  limits = record { models = (record { covers = (tt, (tt, (lit≤ tt, (lit≤ tt, (lit≤ tt, (lit≤ tt, (lit≤ tt, (lit≤ tt, (lit≤ tt, (lit≤ tt, (lit≤ tt, (lit≤ tt, tt)))))))))))); inputs = lit≤ tt; outputs = lit≤ tt; clocks = lit≤ tt; latches = lit≤ tt }, tt); statements = lit≤ tt };
}

toggle_names : IsGuardNamed toggle_named toggle_guard inverter_elaborated parity_code inverter_layout
unfolding digits
toggle_names = record { machine = refl; model = refl; unknown_inits = refl; inputs = refl; clocks = refl; clocking = refl; outputs = refl; shows = refl; stores = refl; inner = refl }

pub toggle_from : IsGuardFrom inverter_file parity_settings 1 toggle_named
toggle_from = record {
  m = inverter_model;
  is_main = refl;
  e = inverter_elaborated;
  elaborated = inverter_is_elaborated;
  is_code = toggle_coded.is_code;
  d = 2;
  is_distance = toggle_coded.is_distance;
  wide = lit≤ tt;
  l = inverter_layout;
  is_layout = record { state = (refl, (lit≤ tt, lit≤ tt)); output = (refl, (lit≤ tt, lit≤ tt)) };
  size = 38;
  is_size = inverter_plain;
  gates = 28;
  is_gates = toggle_size;
  g = toggle_guard;
  guard = toggle_is_guard;
  named = toggle_named_is;
  is_named = toggle_names;
}
