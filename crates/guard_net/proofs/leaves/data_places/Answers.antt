use Rattle.std.proofs.Common.{◌≡◌, sym, ◌∙◌, ap, map, replicate, rules}
use Rattle.gate_net.specs.declared.gate.NetId.{NetId}
use Rattle.gate_net.specs.Gate.{net_number}
use Rattle.encode_state.specs.Types.{words_in}
use Rattle.guard_net.specs.Built.{put_words}
use Rattle.guard_net.proofs.DataPlaces.{no_places}
use Rattle.guard_net.proofs.leaves.data_places.Goals as goal

pub loop-word-init : goal.loop-word-init
loop-word-init c =
    let none : NetId = record { 0 = 0 } in
    let fresh : c.in_ok-nets.nets.items ≡ replicate c.args.latches none = c.in_ok-nets.ensures.items_if_clones_equal (λ y h. search rules) in
    record {
      put = ap (put_words c.args.columns c.args.first (words_in c.args.words.now)) (sym (ap (map net_number) fresh ∙ no_places c.args.latches));
      size = search rules;
      count = search rules;
    }
