use Rattle.std.proofs.Common.{◌≡◌, sym, ◌∙◌, ap, ℕ, ◌<◌, ◌++◌, List, length, get_or, map, take, arith, Some, slice_get}
use Rattle.std.proofs.lemmas.List.{length-map, take_all}
use Rattle.std.proofs.lemmas.Option.{slice_get-get_or}
use Rattle.gate_net.specs.declared.words.WordNets.{WordNets as MachineWord}
use Rattle.gate_net.specs.Gate.{net_number}
use Rattle.gate_net.specs.GateNet.{net_count}
use Rattle.gate_net.specs.Words.{WordNets, word_nets, nets_of}
use Rattle.alarm_rails.specs.Rail.{FitsCode}
use Rattle.alarm_rails.specs.Syndromes.{rail_gates}
use Rattle.alarm_rails.proofs.Bits.{nets_at}
use Rattle.alarm_rails.proofs.Ranges.{rail_step, rail_is}
use Rattle.alarm_rails.proofs.Steps.{all_more, all_at, get_map, take_next, word_grows, word_room}
use Rattle.alarm_rails.proofs.rails.rail.Goals as goal

-- the word of an iteration
word_at : (words : List MachineWord) (i : ℕ) (w : MachineWord) → i < length words → w ≡ get_or words i w → slice_get (map word_nets words) i ≡ Some (word_nets w)
word_at words i w h e = get_map word_nets words i w (slice_get-get_or words i w h ∙ ap (λ (x : MachineWord). Some x) (sym e))

pub prove-unreachable-requires : goal.prove-unreachable-requires
prove-unreachable-requires c =
    let at = word_at c.args.words.now c.loop-word.word-index c.word-item.result c.loop-word-test.true c.word-item.is in
    let fits = all_at (FitsCode c.args.code.now) (map word_nets c.args.words.now) c.loop-word.word-index (word_nets c.word-item.result) c.requires.words at in
    let same = fits.checks in
    let long = length-map c.word-item.result.checks.items net_number in
    let len = c.len.ensures.value in
    let columns = c.r-columns.ensures.columns in
    c.if-prove.true (omega arith)

pub add_word-requires-clause-word : goal.add_word-requires-clause-word
add_word-requires-clause-word c =
    all_at (FitsCode c.args.code.now) (map word_nets c.args.words.now) c.loop-word.word-index (word_nets c.word-item.result) c.requires.words (word_at c.args.words.now c.loop-word.word-index c.word-item.result c.loop-word-test.true c.word-item.is)

pub add_word-requires-clause-nets : goal.add_word-requires-clause-nets
add_word-requires-clause-nets c =
    let words = map word_nets c.args.words.now in
    let i = c.loop-word.word-index in
    let w = word_nets c.word-item.result in
    let at = word_at c.args.words.now i c.word-item.result c.loop-word-test.true c.word-item.is in
    let grows = word_grows c.args.code.now words c.args.dst.now c.loop-word.dst c.loop-word.alarm.0 i w c.requires.words c.loop-word.invariant.gates c.loop-word.invariant.alarm at in
    all_more (net_count c.args.dst.now) (net_count c.loop-word.dst) (nets_of w) grows (nets_at (λ n. n < net_count c.args.dst.now) words i w c.requires.nets at)

pub add_word-requires-clause-room : goal.add_word-requires-clause-room
add_word-requires-clause-room c =
    let words = map word_nets c.args.words.now in
    let i = c.loop-word.word-index in
    let w = word_nets c.word-item.result in
    let at = word_at c.args.words.now i c.word-item.result c.loop-word-test.true c.word-item.is in
    word_room c.args.code.now words c.args.dst.now c.loop-word.dst c.loop-word.alarm.0 i w c.requires.words c.loop-word.invariant.gates c.loop-word.invariant.alarm at _ c.requires.room

pub loop-word-preserved : goal.loop-word-preserved
loop-word-preserved c =
    let words = map word_nets c.args.words.now in
    let i = c.loop-word.word-index in
    let w = word_nets c.word-item.result in
    let at = word_at c.args.words.now i c.word-item.result c.loop-word-test.true c.word-item.is in
    record {
      gates = rail_step c.args.code.now c.args.dst.now c.loop-word.dst c.add_word.new.dst c.loop-word.alarm.0 (take i words) _ w c.loop-word.invariant.gates c.loop-word.invariant.alarm c.in_ok-alarm-2.ensures.gates (take_next words i w at);
      alarm = c.in_ok-alarm-2.ensures.last;
    }

pub returns-clause-rail : goal.returns-clause-rail
returns-clause-rail c =
    let old = c.args.dst.now in
    let words = map word_nets c.args.words.now in
    let long = length-map c.args.words.now word_nets in
    let all = take_all c.loop-word.word-index words (omega (arith, c.loop-word-test.false)) in
    rail_is c.args.code.now words old c.r-columns.ensures.valid c.requires.words c.loop-word.dst c.loop-word.alarm.0
    (c.loop-word.invariant.gates ∙ ap (λ (ws : List WordNets). record old { gates = old.gates ++ rail_gates c.args.code.now (net_count old) ws }) all) c.loop-word.invariant.alarm
