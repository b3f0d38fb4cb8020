use Rattle.std.proofs.Common.{◌≡◌, sym, ◌∙◌, ap, ◌+◌, ◌*◌, true, List, [], ◌∷◌, ◌++◌, ℕ, length, map, get_or, arith}
use Rattle.std.proofs.lemmas.List.{take_all, map_more, map_push}
use Rattle.netlist_spec.specs.Gates.{constant}
use Rattle.distance.specs.declared.error_patterns.Pattern.{Pattern as Found}
use Rattle.gate_net.specs.Gate.{net_number}
use Rattle.gate_net.specs.GateNet.{net_count}
use Rattle.reduction.proofs.Appended.{count_grows, extends_further}
use Rattle.reduction.proofs.GateReads.{allowed_also, allowed_self}
use Rattle.reduction.proofs.Outputs.{still_nets}
use Rattle.corrector.specs.declared.hits.Hit.{Hit}
use Rattle.corrector.specs.Hits.{hit_nets, spells}
use Rattle.corrector.proofs.Computed.{computed_constant, computed_kept, none_computed, more_computed, answers_in_front, count_pushed, nets_as, bits_as}
use Rattle.corrector.proofs.HitBits.{hits_more, next_fits}
use Rattle.corrector.proofs.hits.append_hits.Goals as goal

abbrev none : Found
none = record { error = record { 0 = 0 }; syndrome = record { 0 = 0 } }

pub loop-pattern-init : goal.loop-pattern-init
loop-pattern-init c =
    let ins = map net_number c.args.syndrome.now in
    let always = computed_constant c.args.net.now c.push.new.self ins true c.in_ok-always.always.0 c.in_ok-always.ensures.ok c.in_ok-always.ensures.number in
    record {
      always = always;
      computed = nets_as c.args.net.now c.push.new.self ins (hit_nets c.new-hits.result.items) [] _ (ap hit_nets c.new-hits.ensures.items) (none_computed c.args.net.now c.push.new.self ins always.extends always.reads);
      errors = ap (λ (hs : List Hit). map (λ (h : Hit). h.error.0) hs) c.new-hits.ensures.items;
      cost = let one = count_pushed c.args.net.now c.push.new.self (constant true) c.in_ok-always.ensures.ok in omega arith;
    }

pub append_hit-requires-clause-nets : goal.append_hit-requires-clause-nets
append_hit-requires-clause-nets c = (c.loop-pattern.invariant.always.below, still_nets c.args.net.now c.loop-pattern.net c.args.syndrome.now (count_grows c.args.net.now c.loop-pattern.net c.loop-pattern.invariant.always.extends) c.requires.nets)

pub append_hit-requires-clause-room : goal.append_hit-requires-clause-room
append_hit-requires-clause-room c =
    let fits = next_fits c.loop-pattern.pattern-index (length c.args.pats.now) (length c.args.syndrome.now) c.loop-pattern-test.true in
    let cost = c.loop-pattern.invariant.cost in
    let room = c.requires.room in
    omega arith

pub loop-pattern-preserved : goal.loop-pattern-preserved
loop-pattern-preserved c =
    let old = c.args.net.now in
    let now = c.loop-pattern.net in
    let new = c.append_hit.new.net in
    let ins = map net_number c.args.syndrome.now in
    let always = c.in_ok-always.always.0 in
    let found = c.in_ok-found.found in
    let pats = c.args.pats.now in
    let k = c.loop-pattern.pattern-index in
    let hits = c.loop-pattern.hits.items in
    let one : Hit = record { error = (get_or pats k none).error; net = found } in
    let allowed = allowed_also ins ins (net_count old) always c.loop-pattern.invariant.always.known (allowed_self ins (net_count old)) in
    let made = c.in_ok-found.ensures.computed in
    record {
      always = computed_kept old now new ins (always ∷ ins) always (λ v. true) allowed made.extends made.reads c.loop-pattern.invariant.always;
      computed =
          nets_as old new ins (hit_nets c.push-in-loop-pattern.new.self.items) (hit_nets hits ++ found.0 ∷ []) _ (ap hit_nets c.in_ok-push.ensures.items ∙ map_push (λ (h : Hit). h.net.0) hits one)
          (more_computed old now new ins (always ∷ ins) (hit_nets hits) found.0 _ _ _ allowed
          (λ v answers. hits_more v (map v ins) pats k none always c.loop-pattern-test.true (c.loop-pattern.invariant.always.has v (answers_in_front old now new v made.extends answers)))
          c.loop-pattern.invariant.computed made);
      errors =
          ap (λ (hs : List Hit). map (λ (h : Hit). h.error.0) hs) c.in_ok-push.ensures.items
          ∙ (map_push (λ (h : Hit). h.error.0) hits one
          ∙ (ap (λ (es : List ℕ). es ++ (get_or pats k none).error.0 ∷ []) c.loop-pattern.invariant.errors
          ∙ sym (map_more (λ (p : Found). p.error.0) pats k none c.loop-pattern-test.true)));
      cost = let more = c.in_ok-found.ensures.cost in let cost = c.loop-pattern.invariant.cost in omega arith;
    }

pub returns-in_err-found-clause-extends : goal.returns-in_err-found-clause-extends
returns-in_err-found-clause-extends c = extends_further c.args.net.now c.loop-pattern.net c.append_hit.new.net c.loop-pattern.invariant.always.extends c.in_err-found.ensures.extends

pub returns-in_err-push-clause-extends : goal.returns-in_err-push-clause-extends
returns-in_err-push-clause-extends c = extends_further c.args.net.now c.loop-pattern.net c.append_hit.new.net c.loop-pattern.invariant.always.extends c.in_ok-found.ensures.extends

pub returns-clause-computed : goal.returns-clause-computed
returns-clause-computed c =
    let ins = map net_number c.args.syndrome.now in
    bits_as c.args.net.now c.loop-pattern.net ins (hit_nets c.loop-pattern.hits.items) _ _
    (λ v. ap (λ (ps : List Found). map (λ (p : Found). spells p.syndrome.0 (map v ins)) ps) (take_all c.loop-pattern.pattern-index c.args.pats.now c.loop-pattern-test.false))
    c.loop-pattern.invariant.computed

pub returns-clause-errors : goal.returns-clause-errors
returns-clause-errors c = c.loop-pattern.invariant.errors ∙ ap (λ (ps : List Found). map (λ (p : Found). p.error.0) ps) (take_all c.loop-pattern.pattern-index c.args.pats.now c.loop-pattern-test.false)

pub returns-clause-cost : goal.returns-clause-cost
returns-clause-cost c = c.loop-pattern.invariant.cost ∙ ap (λ (k : ℕ). net_count c.args.net.now + 1 + k * length c.args.syndrome.now) (let end = c.loop-pattern-test.false in let e : c.loop-pattern.pattern-index ≡ length c.args.pats.now = omega arith in e)

pub returns-clause-extends : goal.returns-clause-extends
returns-clause-extends c = c.loop-pattern.invariant.always.extends
