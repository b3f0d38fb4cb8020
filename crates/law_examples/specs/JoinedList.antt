-- The smallest joined list: of the register that turns its bit, in a code that has the bit three times.
use Rattle.std.specs.Prelude.{ℕ, ◌+◌, true, List, [], ◌∷◌, codes}
use Rattle.netlist_spec.specs.Netlist.{plain}
use Rattle.guard_spec.specs.Codes.{correct}
use Rattle.guard_spec.specs.Words.{Settings}
use Rattle.netlist_spec.specs.Written.{Named, given, store, next, check, inner}
use Rattle.spec_examples.specs.Examples.{parity_settings}
use Rattle.spec_examples.specs.Toggle.{thrice_code, toggle_corrector}
use Rattle.netlist_spec.specs.Gates.{GateForm, one, two, GateList}
use Rattle.correction_laws.specs.Joined.{Corrector}

-- three latches alone, and behind them the majority of their bits
abbrev pub three_latches : GateList
three_latches = record { leaves = 3; gates = [] }

abbrev pub majority_gates : List GateForm
majority_gates = two 8 0 1 ∷ two 14 0 1 ∷ two 8 2 4 ∷ two 14 3 5 ∷ []

abbrev pub majority_list : GateList
majority_list = record { leaves = 3; gates = majority_gates }

abbrev pub majority : Corrector
majority = record { word = 0 ∷ []; nets = 6 ∷ []; first = 3; end = 7; serves = true }

-- the majority and then the register's one gate
abbrev pub toggle_joined : GateList
toggle_joined = record { leaves = 3; gates = two 8 0 1 ∷ two 14 0 1 ∷ two 8 2 4 ∷ two 14 3 5 ∷ one true 6 ∷ [] }

-- the cone of the gate, and that of the majority, copied with net b as the first
abbrev pub stored_gates : ℕ → List GateForm
stored_gates b = two 8 0 1 ∷ two 14 0 1 ∷ two 8 2 (b + 1) ∷ two 14 b (b + 2) ∷ one true (b + 3) ∷ []

abbrev pub shown_gates : ℕ → List GateForm
shown_gates b = two 8 0 1 ∷ two 14 0 1 ∷ two 8 2 (b + 1) ∷ two 14 b (b + 2) ∷ []

abbrev pub behind : List GateForm → GateList
behind gates = record { leaves = 3; gates = gates }

-- the settings that ask for this code and for correction, and the guard that corrects with the names of its nets
abbrev pub thrice_settings : Settings
thrice_settings = record parity_settings { mode = correct; code = thrice_code }

abbrev pub corrector_named : Named
corrector_named = record {
  model = codes "inv";
  unknown_inits = 0;
  inputs = [];
  clocks = [];
  outputs = toggle_corrector.machine.outputs;
  clocking = plain;
  net = toggle_corrector.machine.net;
  labels = store 0 0 ∷ store 0 1 ∷ store 0 2 ∷ inner 0 ∷ inner 1 ∷ inner 2 ∷ inner 3 ∷ next 0 0 ∷ inner 4 ∷ inner 5 ∷ inner 6 ∷ inner 7 ∷ next 0 1 ∷ inner 8 ∷ inner 9 ∷ inner 10 ∷ inner 11 ∷ next 0 2 ∷ inner 12 ∷ inner 13 ∷ inner 14 ∷ given (codes "q") ∷ inner 15 ∷ inner 16 ∷ inner 17 ∷ check 0 0 ∷ inner 18 ∷ inner 19 ∷ inner 20 ∷ check 0 1 ∷ [];
  latches = toggle_corrector.machine.latches;
  data_inputs = 0;
}
