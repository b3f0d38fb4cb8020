-- The text of the smallest guard that corrects.
use Rattle.std.proofs.Common.{refl, [], ◌∷◌, true, false, codes, arith, lit≤, lit<}
use Rattle.std.specs.Fmt.{digits}
use Rattle.netlist_spec.specs.Covers.{empty_library}
use Rattle.guard_spec.specs.Codes.{correct}
use Rattle.guard_spec.specs.Plain.{IsSizeWith}
use Rattle.netlist_spec.specs.Cones.{itself, behind}
use Rattle.spec_examples.specs.Examples.{inverter_file, inverter_model, inverter_elaborated, inverter_layout}
use Rattle.netlist_spec.specs.Written.{IsNamed}
use Rattle.spec_examples.proofs.Inverter.{its_gate, not_in_cone_of_q}
use Rattle.spec_examples.proofs.SmallMachine.{inverter_is_elaborated}
use Rattle.spec_examples.specs.Toggle.{thrice_code, toggle_corrector}
use Rattle.spec_examples.proofs.Corrector.{corrector_coded}
use Rattle.guard_laws.specs.Named.{IsGuardNamed}
use Rattle.guard_laws.specs.Texts.{IsGuardFrom}
use Rattle.law_examples.specs.JoinedList.{thrice_settings, corrector_named}
use Rattle.law_examples.proofs.JoinedGuard.{corrector_is_guard, toggle_size}

-- 3 latches, a state word of 22 + 2 (1 + 22) and an output word of 16 + 2 (1 + 16)
thrice_plain : IsSizeWith inverter_file empty_library inverter_model thrice_code correct 1 0 inverter_layout 121
thrice_plain = record {
  state_cost = 68;
  is_state_cost = (
    68 ∷ [],
    (
      (
        codes "n" ∷ [],
        (refl, tt),
        (
          22 ∷ [],
          (
            record {
              cone = 6;
              is_cone = (false ∷ true ∷ [], (((λ e. cc e), (λ c. absurd (cc c.0))), (((λ e. (refl, codes "n", refl, itself)), (λ c. refl)), tt)), refl);
              correctors = 14;
              are_correctors = (true ∷ [], (((λ e. (0, (0, omega arith, refl), (codes "q", refl, behind itself (its_gate, (1, omega arith, refl), refl, refl, refl)))), (λ c. refl)), tt), refl);
              total = refl;
            },
            tt,
          ),
          refl,
        ),
      ),
      tt,
    ),
    refl,
  );
  output_cost = 50;
  is_output_cost = (
    50 ∷ [],
    (
      (
        codes "q" ∷ [],
        (refl, tt),
        (
          16 ∷ [],
          (
            record {
              cone = 0;
              is_cone = (false ∷ false ∷ [], (((λ e. cc e), (λ c. absurd (cc c.0))), (((λ e. cc e), (λ c. absurd (not_in_cone_of_q c))), tt)), refl);
              correctors = 14;
              are_correctors = (true ∷ [], (((λ e. (0, (0, omega arith, refl), (codes "q", refl, itself))), (λ c. refl)), tt), refl);
              total = refl;
            },
            tt,
          ),
          refl,
        ),
      ),
      tt,
    ),
    refl,
  );
  total = refl;
}

named_is : IsNamed corrector_named
unfolding digits
named_is = record {
  gates = omega arith;
  leaves = refl;
  labels = refl;
  distinct = refl;
  first_labels = refl;
  no_clock = (refl, (refl, (refl, (refl, (refl, (refl, (refl, (refl, (refl, (refl, (refl, (refl, (refl, (refl, (refl, (refl, (refl, (refl, (refl, (refl, (refl, (refl, (refl, (refl, (refl, (refl, (refl, (refl, (refl, (refl, tt))))))))))))))))))))))))))))));
  inputs = refl;
  clocks = refl;
  control = tt;
  clocking = λ e. refl;
  outputs = omega arith;
  once = refl;
  stores = omega arith;
  model = (record { is_name = (lit< tt, lit≤ tt); bytes = refl }, refl);
  words = (record { is_name = (lit< tt, lit≤ tt); bytes = refl }, tt);
  free = (refl, tt);
  limits = record { models = (record { covers = (tt, (tt, (tt, (lit≤ tt, (lit≤ tt, (lit≤ tt, (lit≤ tt, (lit≤ tt, (lit≤ tt, (lit≤ tt, (lit≤ tt, (lit≤ tt, (lit≤ tt, (lit≤ tt, (lit≤ tt, (lit≤ tt, (lit≤ tt, (lit≤ tt, (lit≤ tt, (lit≤ tt, (lit≤ tt, (lit≤ tt, (lit≤ tt, (lit≤ tt, (lit≤ tt, (lit≤ tt, (lit≤ tt, (lit≤ tt, (lit≤ tt, (lit≤ tt, tt)))))))))))))))))))))))))))))); inputs = lit≤ tt; outputs = lit≤ tt; clocks = lit≤ tt; latches = lit≤ tt }, tt); statements = lit≤ tt };
}

guard_is_named : IsGuardNamed corrector_named toggle_corrector inverter_elaborated thrice_code inverter_layout
unfolding digits
guard_is_named = record { machine = refl; model = refl; unknown_inits = refl; inputs = refl; clocks = refl; clocking = refl; outputs = refl; shows = refl; stores = refl; inner = refl }

pub corrector_from : IsGuardFrom inverter_file thrice_settings 1 corrector_named
corrector_from = record {
  m = inverter_model;
  is_main = refl;
  e = inverter_elaborated;
  elaborated = inverter_is_elaborated;
  is_code = corrector_coded.is_code;
  d = 3;
  is_distance = corrector_coded.is_distance;
  wide = lit≤ tt;
  l = inverter_layout;
  is_layout = record { state = (refl, (lit≤ tt, lit≤ tt)); output = (refl, (lit≤ tt, lit≤ tt)) };
  size = 121;
  is_size = thrice_plain;
  gates = 106;
  is_gates = toggle_size;
  g = toggle_corrector;
  guard = corrector_is_guard;
  named = named_is;
  is_named = guard_is_named;
}
