use Rattle.std.proofs.Common.{◌≡◌, ◌∙◌, ap, refl, ◌+◌, ◌*◌, ◌<◌, ◌||◌, ◌++◌, ◌∷◌, Bool, List, [], ℕ, false, inl, length, map, get_or, take, arith}
use Rattle.std.specs.List.{enumerate_from}
use Rattle.std.proofs.lemmas.List.{take_all, map_push, length_push}
use Rattle.netlist_spec.specs.Covers.{differ, has_bit}
use Rattle.netlist_spec.specs.Gates.{bit_number, constant, two}
use Rattle.gate_net.specs.declared.gate.NetId.{NetId}
use Rattle.gate_net.specs.Gate.{net_number}
use Rattle.gate_net.specs.GateNet.{net_count}
use Rattle.cone_split.proofs.Cells.{all_contains, contains_tail}
use Rattle.reduction.proofs.Appended.{count_grows, extends_further}
use Rattle.reduction.proofs.GateReads.{allowed_also, allowed_self, input_at}
use Rattle.reduction.proofs.Inputs.{bits_at}
use Rattle.corrector.specs.Hits.{hit_nets, some_hit, hits_at}
use Rattle.corrector.proofs.Computed.{computed_constant, computed_kept, computed_push, computed_wider, none_computed, more_computed, answers_in_front, count_pushed, nets_as, bits_as, extends_as, in_left, in_right, allowed_right, all_later}
use Rattle.corrector.proofs.ErrorBits.{hits_at_next, next_error, turned, turned_more}
use Rattle.corrector.proofs.corrections.append_corrections.Goals as goal

pub loop-i-init : goal.loop-i-init
loop-i-init c =
    let ins = map net_number c.args.places.now ++ hit_nets c.args.hits.now in
    let never = computed_constant c.args.net.now c.push.new.self ins false c.in_ok-never.never.0 c.in_ok-never.ensures.ok c.in_ok-never.ensures.number in
    record {
      never = never;
      computed = nets_as c.args.net.now c.push.new.self ins (map net_number c.new-nets.result.items) [] _ (ap (map net_number) c.new-nets.ensures) (none_computed c.args.net.now c.push.new.self ins never.extends never.reads);
      count = ap length c.new-nets.ensures;
      cost = let one = count_pushed c.args.net.now c.push.new.self (constant false) c.in_ok-never.ensures.ok in omega arith;
    }

pub append_error-requires-clause-nets : goal.append_error-requires-clause-nets
append_error-requires-clause-nets c =
    (c.loop-i.invariant.never.below, all_later c.args.net.now c.loop-i.net (map net_number c.args.places.now ++ hit_nets c.args.hits.now) (hit_nets c.args.hits.now) c.loop-i.invariant.never.extends c.requires.nets (in_right (map net_number c.args.places.now) (hit_nets c.args.hits.now)))

pub append_error-requires-clause-room : goal.append_error-requires-clause-room
append_error-requires-clause-room c =
    let next = hits_at_next c.args.hits.now c.loop-i.i in
    let some = next_error c.args.hits.now c.loop-i.i (length c.args.places.now) c.loop-i-test.true in
    let cost = c.loop-i.invariant.cost in
    let room = c.requires.room in
    let there = c.loop-i-test.true in
    omega arith

pub push-requires-in-loop-i-clause-reads : goal.push-requires-in-loop-i-clause-reads
push-requires-in-loop-i-clause-reads c =
    let n = (get_or c.args.places.now c.loop-i.i (record { 0 = 0 })).0 in
    let place = all_contains (λ k. k < net_count c.args.net.now) (map net_number c.args.places.now ++ hit_nets c.args.hits.now) n c.requires.nets (in_left (map net_number c.args.places.now) (hit_nets c.args.hits.now) n (input_at c.args.places.now c.loop-i.i (record { 0 = 0 }) c.loop-i-test.true)) in
    let front = count_grows c.args.net.now c.loop-i.net c.loop-i.invariant.never.extends in
    let later = count_grows c.loop-i.net c.append_error.new.net c.in_ok-error.ensures.extends in
    (c.in_ok-error.ensures.computed.below, (omega arith, tt))

pub push-requires-in-loop-i-clause-room : goal.push-requires-in-loop-i-clause-room
push-requires-in-loop-i-clause-room c =
    let next = hits_at_next c.args.hits.now c.loop-i.i in
    let some = next_error c.args.hits.now c.loop-i.i (length c.args.places.now) c.loop-i-test.true in
    let cost = c.loop-i.invariant.cost in
    let more = c.in_ok-error.ensures.cost in
    let room = c.requires.room in
    let there = c.loop-i-test.true in
    omega arith

pub loop-i-preserved : goal.loop-i-preserved
loop-i-preserved c =
    let old = c.args.net.now in
    let now = c.loop-i.net in
    let mid = c.append_error.new.net in
    let new = c.push-in-loop-i.new.self in
    let places = c.args.places.now in
    let hits = c.args.hits.now in
    let ins = map net_number places ++ hit_nets hits in
    let never = c.in_ok-never.never.0 in
    let i = c.loop-i.i in
    let error = c.in_ok-error.error.0 in
    let n = (get_or places i (record { 0 = 0 })).0 in
    let t = c.in_ok-turned.turned in
    let there = c.loop-i-test.true in
    let allowed = allowed_also ins ins (net_count old) never c.loop-i.invariant.never.known (allowed_self ins (net_count old)) in
    let wide = computed_wider now mid (never ∷ hit_nets hits) (never ∷ ins) error _ (allowed_right never (map net_number places) (hit_nets hits) (net_count now)) c.in_ok-error.ensures.computed in
    let made = computed_push now mid new (never ∷ ins) error n 6 t.0 _ (λ (v : ℕ → Bool). has_bit 6 (2 * bit_number (v never || some_hit i hits v) + bit_number (v n))) c.in_ok-turned.ensures.ok c.in_ok-turned.ensures.number
    (inl (contains_tail never n ins (in_left (map net_number places) (hit_nets hits) n (input_at places i (record { 0 = 0 }) there)))) (λ v _. refl) wide in
    let items = c.push-in-loop-i-2.ensures.items in
    record {
      never = computed_kept old now new ins (never ∷ ins) never (λ v. false) allowed made.extends made.reads c.loop-i.invariant.never;
      computed =
          nets_as old new ins (map net_number c.push-in-loop-i-2.new.self.items) (map net_number c.loop-i.nets.items ++ t.0 ∷ []) _ (ap (map net_number) items ∙ map_push net_number c.loop-i.nets.items t)
          (more_computed old now new ins (never ∷ ins) (map net_number c.loop-i.nets.items) t.0 _ _ _ allowed
          (λ v answers.
          ap (λ (b : Bool). map (λ (p : ℕ × Bool). differ p.1 (some_hit p.0 hits v)) (enumerate_from 0 (bits_at v (take i places))) ++ b ∷ [])
          (turned v hits i never n (c.loop-i.invariant.never.has v (answers_in_front old now new v made.extends answers)))
          ∙ turned_more v hits places i (record { 0 = 0 }) there)
          c.loop-i.invariant.computed made);
      count = ap length items ∙ (length_push c.loop-i.nets.items t ∙ ap (λ (k : ℕ). k + 1) c.loop-i.invariant.count);
      cost =
          let next = hits_at_next hits i in
          let cost = c.loop-i.invariant.cost in
          let more = c.in_ok-error.ensures.cost in
          let one = count_pushed mid new (two 6 error n) c.in_ok-turned.ensures.ok in
          omega arith;
    }

pub returns-in_err-error-clause-extends : goal.returns-in_err-error-clause-extends
returns-in_err-error-clause-extends c = extends_further c.args.net.now c.loop-i.net c.append_error.new.net c.loop-i.invariant.never.extends c.in_err-error.ensures.extends

pub returns-in_err-turned-clause-extends : goal.returns-in_err-turned-clause-extends
returns-in_err-turned-clause-extends c =
    extends_as c.args.net.now c.append_error.new.net c.push-in-loop-i.new.self c.in_err-turned.ensures.err
    (extends_further c.args.net.now c.loop-i.net c.append_error.new.net c.loop-i.invariant.never.extends c.in_ok-error.ensures.extends)

pub returns-clause-computed : goal.returns-clause-computed
returns-clause-computed c =
    let hits = c.args.hits.now in
    bits_as c.args.net.now c.loop-i.net _ (map net_number c.loop-i.nets.items) _ _
    (λ v. ap (λ (ps : List NetId). map (λ (p : ℕ × Bool). differ p.1 (some_hit p.0 hits v)) (enumerate_from 0 (bits_at v ps))) (take_all c.loop-i.i c.args.places.now c.loop-i-test.false))
    c.loop-i.invariant.computed

pub returns-clause-count : goal.returns-clause-count
returns-clause-count c = let end = c.loop-i-test.false in let count = c.loop-i.invariant.count in omega arith

pub returns-clause-cost : goal.returns-clause-cost
returns-clause-cost c = c.loop-i.invariant.cost ∙ ap (λ (k : ℕ). net_count c.args.net.now + 1 + k + hits_at k c.args.hits.now) (let end = c.loop-i-test.false in let e : c.loop-i.i ≡ length c.args.places.now = omega arith in e)

pub returns-clause-extends : goal.returns-clause-extends
returns-clause-extends c = c.loop-i.invariant.never.extends
