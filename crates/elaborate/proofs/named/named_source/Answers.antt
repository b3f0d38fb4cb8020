use Rattle.std.proofs.Common.{◌≡◌, refl, ◌∙◌, ap, ◌<◌, map, filter_map, List, arith}
use Rattle.std.specs.Prelude.{count_by}
use Rattle.blif_read.specs.declared.file.Port.{Port}
use Rattle.blif_read.specs.declared.file.Located.{Located}
use Rattle.elaborate.specs.Numbers.{shown_id, has_unknown_init}
use Rattle.elaborate.proofs.SourceLemmas.{HasNumbersOf, few_inits, has_names, well}
use Rattle.elaborate.proofs.named.named_source.Goals as goal

-- the names of the same ports
names : {xs ys : List Port} → xs ≡ ys → map (λ (p : Port). p.name) xs ≡ map (λ (p : Port). p.name) ys
names e = ap (map (λ (p : Port). p.name)) e

pub unknown_inits-unknown_inits-requires : goal.unknown_inits-unknown_inits-requires
unknown_inits-unknown_inits-requires c =
    let few = few_inits c.args.m c.args.machine c.requires.can in
    let same = ap (count_by (λ (s : Located). has_unknown_init s.what)) c.deref-5.ensures.value in
    omega arith

pub invariant_of-result : goal.invariant_of-result
invariant_of-result c =
    let has : HasNumbersOf c.args.m (record {
      machine = c.args.machine;
      model = c.args.m.name;
      names = c.args.m.names;
      input_ports = c.in_ok-input_ports.input_ports;
      clock_ports = c.in_ok-clock_ports.clock_ports;
      data_names = c.in_ok-data_names.data_names;
      output_names = c.in_ok-output_names.output_names;
      latch_names = c.in_ok-latch_names.latch_names;
      clocking = c.first_clocking-clocking.result;
      unknown_inits = c.unknown_inits-unknown_inits.result;
    }) =
    record {
      model = refl;
      names = refl;
      input_ports = c.in_ok-input_ports.ensures ∙ names c.deref.ensures.value;
      clock_ports = c.in_ok-clock_ports.ensures ∙ names c.deref-2.ensures.value;
      data_names = c.in_ok-data_names.ensures.names;
      data_ids = c.in_ok-data_names.ensures.within;
      output_names = c.in_ok-output_names.ensures ∙ names c.deref-3.ensures.value;
      latch_names = c.in_ok-latch_names.ensures ∙ ap (filter_map shown_id) c.deref-4.ensures.value;
      clocking = c.first_clocking-clocking.ensures.first;
      control = c.first_clocking-clocking.ensures.ids;
      unknown_inits = c.unknown_inits-unknown_inits.ensures ∙ ap (count_by (λ (s : Located). has_unknown_init s.what)) c.deref-5.ensures.value;
    }
    in
    well c.args.m c.requires.ids _ has c.requires.can

pub returns-clause-names : goal.returns-clause-names
returns-clause-names c =
    let has : HasNumbersOf c.args.m (record {
      machine = c.args.machine;
      model = c.args.m.name;
      names = c.args.m.names;
      input_ports = c.in_ok-input_ports.input_ports;
      clock_ports = c.in_ok-clock_ports.clock_ports;
      data_names = c.in_ok-data_names.data_names;
      output_names = c.in_ok-output_names.output_names;
      latch_names = c.in_ok-latch_names.latch_names;
      clocking = c.first_clocking-clocking.result;
      unknown_inits = c.unknown_inits-unknown_inits.result;
    }) =
    record {
      model = refl;
      names = refl;
      input_ports = c.in_ok-input_ports.ensures ∙ names c.deref.ensures.value;
      clock_ports = c.in_ok-clock_ports.ensures ∙ names c.deref-2.ensures.value;
      data_names = c.in_ok-data_names.ensures.names;
      data_ids = c.in_ok-data_names.ensures.within;
      output_names = c.in_ok-output_names.ensures ∙ names c.deref-3.ensures.value;
      latch_names = c.in_ok-latch_names.ensures ∙ ap (filter_map shown_id) c.deref-4.ensures.value;
      clocking = c.first_clocking-clocking.ensures.first;
      control = c.first_clocking-clocking.ensures.ids;
      unknown_inits = c.unknown_inits-unknown_inits.ensures ∙ ap (count_by (λ (s : Located). has_unknown_init s.what)) c.deref-5.ensures.value;
    }
    in
    has_names c.args.m c.requires.ids _ has
