-- A machine that is made as a guard is one.
use Rattle.std.proofs.Common.{◌≡◌, sym, ℕ, ◌+◌, ◌*◌, ◌<◌, ◌≤◌, Bool, List, ◌++◌, length, arith}
use Rattle.std.specs.List.{AllByRecursion, flat_map, range_with_len}
use Rattle.netlist_spec.specs.GateRanges.{Region}
use Rattle.netlist_spec.specs.Gates.{IsMachine, Machine}
use Rattle.guard_spec.specs.Codes.{Code, IsCode, data_places, detect}
use Rattle.guard_spec.specs.Plain.{IsMachineSizeWith}
use Rattle.guard_spec.specs.Rails.{SomeNoCodeword}
use Rattle.guard_spec.specs.Regions.{Guarded}
use Rattle.guard_spec.specs.Words.{IsPartition, Layout}
use Rattle.gate_net.specs.GateNet.{net_count}
use Rattle.gate_net.specs.Words.{nets_of}
use Rattle.alarm_rails.specs.Rail.{SomeIsNone}
use Rattle.guard_laws.specs.Promised.{IsGuardOf, cell_count}
use Rattle.guard_laws.specs.Rows.{IsMadeOfRanges, IsRailRange}
use Rattle.guard_laws.specs.Watched.{watched_words}
use Rattle.guard_laws.specs.Within.{IsMadeWithin}
use Rattle.guard_laws.proofs.Lists.{as_long}
use Rattle.guard_laws.proofs.Rail.{words_watched}
use Rattle.guard_laws.proofs.Within.{answers_alone, covers, detecting, rails_alone, reads_data, separate}
use Rattle.guard_cells.specs.Cells.{AreCells}
use Rattle.guard_made.specs.Made.{IsMade, IsShown, guarded, rail_cells_of}
use Rattle.guard_made.proofs.Cells.{weaker}
use Rattle.guard_made.proofs.Costs.{costs_given, size_is}
use Rattle.guard_made.proofs.Leaves.{leaves_of}
use Rattle.guard_made.proofs.Nets.{is_machine, own_nets}
use Rattle.guard_made.proofs.Order.{ranges_in_order}
use Rattle.guard_made.proofs.Own.{all_cells, all_in_order, outputs_long}
use Rattle.guard_made.proofs.Regions.{gates, own, rail_of, rails, ranges, row}
use Rattle.guard_made.proofs.Watched.{of_each_word, watches}

all_below : (a b : ℕ) → a ≤ b → (w : List ℕ) → AllByRecursion (λ i. i < a) w → AllByRecursion (λ i. i < b) w
all_below a b h w all = weaker (λ i. i < a) (λ i. i < b) (λ i less. omega arith) w all

module _ (m g : Machine) (code : Code) (l : Layout) (many : ℕ) (made : IsMade m code l many g) (is_source : IsMachine m) (is_code : IsCode code) (state : IsPartition (length m.latches) (data_places code) l.state) (output : IsPartition (length m.outputs) (data_places code) l.output) where
  abbrev guard : Guarded
  guard = guarded g made.nets

  abbrev leaf : List ℕ
  leaf = range_with_len 0 m.inputs ++ made.places

  abbrev watched : List ℕ
  watched = flat_map nets_of (watched_words g code l (length m.outputs))

  abbrev Bad : (ℕ → Bool) → Type 0
  Bad = SomeNoCodeword guard code l (length m.outputs)

  shown_long : length m.outputs ≡ length made.nets.shown
  shown_long = as_long (IsShown m.inputs g.net.leaves) m.outputs made.nets.shown made.shown

  output_numbers : AllByRecursion (λ w. AllByRecursion (λ i. i < length g.outputs) w) l.output
  output_numbers =
      let a = outputs_long g made.nets made.outputs in
      let b = shown_long in
      weaker (λ w. AllByRecursion (λ i. i < length m.outputs) w) (λ w. AllByRecursion (λ i. i < length g.outputs) w)
      (all_below (length m.outputs) (length g.outputs) (omega arith)) l.output (of_each_word (λ i. i < length m.outputs) l.output output.no_other)

  alarms : AreCells (λ net r. IsRailRange net watched Bad r) (net_count made.front) (rail_cells_of made.nets) g.net
  alarms = record {
    ranges = weaker (λ r. (r.first < r.end) × IsRailRange g.net watched (SomeIsNone code (watched_words g code l (length m.outputs))) r) (λ (r : Region). (r.first < r.end) × IsRailRange g.net watched Bad r)
        (λ r h. (h.0, rail_of g.net watched (SomeIsNone code (watched_words g code l (length m.outputs))) Bad (λ v. words_watched guard code l (length m.outputs) v (sym made.latches) output_numbers) r h.1)) _ made.alarms.ranges;
    end = made.alarms.end;
  }

  made_of_ranges : IsMadeOfRanges guard m code l leaf watched Bad
  made_of_ranges =
      let leaves = made.leaves in
      let latches = made.latches in
      let inputs = made.inputs in
      let all_gates = gates g made.nets made.outputs made.front m code l leaf watched Bad made.kept made.words alarms in
      record {
        is_code = is_code;
        is_source = is_source;
        is_machine = is_machine g made.nets made.outputs all_gates made.gates (let e : g.net.leaves ≡ g.inputs + length g.latches = omega arith in e);
        own_nets = own_nets g made.nets made.outputs all_gates m made.inputs made.shown (omega arith);
        outputs =
            let a = outputs_long g made.nets made.outputs in
            let b = shown_long in
            let c = made.checks in
            let e : length g.outputs ≡ (length m.outputs + length l.output * code.columns) + length made.nets.rails = omega arith in e;
        leaves = leaves_of guard m code l (data_places code) is_code state m.inputs made.places made.inputs made.leaves made.latches made.are_places;
        watches = watches g code l (length m.outputs) (omega arith) output_numbers;
        row = row g made.nets made.outputs made.front m code l leaf watched Bad made.kept made.words alarms;
        in_order = ranges_in_order g.net.leaves (all_cells g made.nets made.outputs) (all_in_order g made.nets made.outputs);
        own = own g made.nets made.outputs made.front m code l leaf watched Bad made.kept made.words alarms;
        ranges = ranges g made.nets made.outputs made.front m code l leaf watched Bad made.kept made.words alarms;
        rails = rails g made.nets made.outputs made.front m code l leaf watched Bad made.kept made.words alarms;
      }

  few : (radius n : ℕ) → IsMachineSizeWith m code detect radius many l n → cell_count guard ≤ n
  few radius n size =
      let (cost, gives) = costs_given m is_source in
      let total = size_is m code l radius many n cost is_source gives size in
      let gates_few = made.few cost gives in
      let latches = made.latches in
      omega arith

  pub is_guard : (radius : ℕ) → IsGuardOf guard m code detect radius many l
  is_guard radius =
      let is : IsMadeWithin guard m code detect radius l watched Bad = detecting guard m code radius l leaf watched Bad made_of_ranges in
      record {
        is_machine = is.is_machine;
        own_nets = is.own_nets;
        covers = covers guard m code detect radius l watched Bad is;
        separate = separate guard m code detect radius l watched Bad is;
        reads = reads_data guard m code detect radius l watched Bad is;
        outputs = is.outputs;
        rail_number = made.rail_number;
        inits = made.inits;
        answers = answers_alone guard m code detect radius l watched Bad is;
        tells = rails_alone guard m code detect radius l watched Bad is;
        size = few radius;
      }
