use Rattle.std.proofs.Common.{◌≡◌, sym, ◌∙◌, ap, ◌++◌, ◌∷◌, [], List, false, ◌||◌, map, drop, not, ◌+◌}
use Rattle.netlist_spec.specs.Netlist.{Name, stands_in}
use Rattle.netlist_spec.specs.Placed.{input_ports, output_ports}
use Rattle.netlist_spec.specs.SoundFaults.{bad_formal}
use Rattle.blif_read.specs.View.{bind_of}
use Rattle.source_nets.specs.Ports.{source_file, source_library}
use Rattle.source_nets.specs.Survey.{placed_at}
use Rattle.source_placements.proofs.PortLemmas.{good_word, one_formal_more}
use Rattle.source_placements.proofs.formals.bad_formal.Goals as goal

pub loop-bind-preserved : goal.loop-bind-preserved
loop-bind-preserved c =
    let place = placed_at (source_file c.args.source.now) (source_library c.args.source.now) c.args.meaning in
    let ports = input_ports place ++ output_ports place in
    let bs = c.args.binds.now in
    let i = c.loop-bind.bind-index in
    let b = c.bind-item.result in
    let given = c.loop-bind.given in
    let formal = c.bytes-formal.ensures.bytes in
    let pushed : c.push.new.self ≡ given ++ b.formal ∷ [] = c.in_ok-push.ensures.names ∙ ap (λ (n : Name). given ++ n ∷ []) formal in
    let good : (not (stands_in b.formal ports) || stands_in b.formal given) ≡ false =
    ap (λ n. not (stands_in n ports) || stands_in n given) (sym formal) ∙ sym c.if-is_bad_formal.ensures in
    record {
      given = pushed ∙ ap (λ (ns : List Name). ns ++ b.formal ∷ []) c.loop-bind.invariant.given ∙ sym (one_formal_more bs i b c.loop-bind-test.true c.bind-item.is);
      found = λ all.
          ap (λ g. bad_formal ports g (map (bind_of all) (drop (i + 1) bs))) pushed
          ∙ good_word ports all given bs i b c.loop-bind-test.true c.bind-item.is good
          ∙ c.loop-bind.invariant.found all;
    }
