use Rattle.std.proofs.Common.{sym, ◌∙◌, ap, ap₂, subst, ◌+◌, ◌*◌, ◌<◌, ◌++◌, Bool, List, ℕ, length, map, Contains, arith}
use Rattle.std.specs.List.{AllByRecursion, enumerate_from}
use Rattle.std.proofs.lemmas.List.{length-map}
use Rattle.netlist_spec.specs.Covers.{differ}
use Rattle.guard_spec.specs.Plain.{ones, pattern_count}
use Rattle.distance.specs.declared.error_patterns.Pattern.{Pattern as Found}
use Rattle.gate_net.specs.declared.gate.NetId.{NetId}
use Rattle.gate_net.specs.Gate.{net_number}
use Rattle.gate_net.specs.GateNet.{net_count}
use Rattle.gate_net.specs.Words.{nets_of, word_nets}
use Rattle.reduction.proofs.Appended.{extends_further}
use Rattle.corrector.specs.declared.hits.Hit.{Hit}
use Rattle.corrector.specs.Computed.{AreComputed}
use Rattle.corrector.specs.Hits.{hit_nets, hits_at, some_hit, spells}
use Rattle.corrector.proofs.Computed.{in_left, all_later}
use Rattle.corrector.proofs.Correction.{kept, cost_of_hits, cost_of_all, few_pats, few_errors, all_joined, corrector_is}
use Rattle.corrector.proofs.corrections.corrected.Goals as goal

pub returns-in_err-syndrome-clause-kept : goal.returns-in_err-syndrome-clause-kept
returns-in_err-syndrome-clause-kept c = kept c.args.dst.now c.append_syndrome.new.net c.in_err-syndrome.ensures.extends

pub append_hits-requires-clause-nets : goal.append_hits-requires-clause-nets
append_hits-requires-clause-nets c = subst (λ (ns : List NetId). AllByRecursion (λ n. n < net_count c.append_syndrome.new.net) (map net_number ns)) (sym c.deref.ensures.0) c.in_ok-syndrome.ensures.computed.below

pub append_hits-requires-clause-room : goal.append_hits-requires-clause-room
append_hits-requires-clause-room c =
    let m = length c.args.word.now.places.items in
    let code = c.args.code.now in
    let pats = c.args.pats.now in
    let fits = cost_of_hits (ones code m) (pattern_count code c.args.t m) (length pats) code.columns c.args.t m (net_count c.args.dst.now) (net_count c.append_syndrome.new.net) (few_pats code m c.args.t pats c.requires.patterns) c.in_ok-syndrome.ensures.cost in
    let long = ap length c.deref.ensures.0 ∙ c.in_ok-syndrome.ensures.count in
    let times = ap (λ (r : ℕ). length pats * r) long in
    let room = c.requires.room in
    omega arith

pub returns-in_err-hits-clause-kept : goal.returns-in_err-hits-clause-kept
returns-in_err-hits-clause-kept c = kept c.args.dst.now c.append_hits.new.net (extends_further c.args.dst.now c.append_syndrome.new.net c.append_hits.new.net c.in_ok-syndrome.ensures.extends c.in_err-hits.ensures.extends)

pub append_corrections-requires-clause-nets : goal.append_corrections-requires-clause-nets
append_corrections-requires-clause-nets c =
    let places = c.args.word.now.places.items in
    let checks = c.args.word.now.checks.items in
    let items = c.deref-2.result.now in
    all_joined (λ n. n < net_count c.append_hits.new.net) (map net_number items) (hit_nets c.deref-3.result.now)
    (all_later c.args.dst.now c.append_hits.new.net (nets_of (word_nets c.args.word.now)) (map net_number items)
    (extends_further c.args.dst.now c.append_syndrome.new.net c.append_hits.new.net c.in_ok-syndrome.ensures.extends c.in_ok-hits.ensures.extends) c.requires.nets
    (λ k d. in_left (map net_number places) (map net_number checks) k (subst (λ (ns : List NetId). Contains (map net_number ns) k) c.deref-2.ensures.0 d)))
    (subst (λ (hs : List Hit). AllByRecursion (λ n. n < net_count c.append_hits.new.net) (hit_nets hs)) (sym c.deref-3.ensures.value) c.in_ok-hits.ensures.computed.below)

pub append_corrections-requires-clause-room : goal.append_corrections-requires-clause-room
append_corrections-requires-clause-room c =
    let places = c.args.word.now.places.items in
    let m = length places in
    let code = c.args.code.now in
    let pats = c.args.pats.now in
    let hits = c.in_ok-hits.hits.items in
    let first = net_count c.append_syndrome.new.net in
    let long = ap length c.deref.ensures.0 ∙ c.in_ok-syndrome.ensures.count in
    let fits = cost_of_all (ones code m) (pattern_count code c.args.t m) (length pats) code.columns c.args.t m (hits_at m hits) (net_count c.args.dst.now) first (net_count c.append_hits.new.net)
    (few_pats code m c.args.t pats c.requires.patterns) c.requires.some_place (few_errors code m c.args.t pats hits c.requires.patterns c.in_ok-hits.ensures.errors)
    c.in_ok-syndrome.ensures.cost (c.in_ok-hits.ensures.cost ∙ ap (λ (r : ℕ). first + 1 + length pats * r) long) in
    let count = ap length c.deref-2.ensures.0 in
    let errors = ap₂ (λ (k : ℕ) (hs : List Hit). hits_at k hs) count c.deref-3.ensures.value in
    let room = c.requires.room in
    omega arith

pub returns-in_err-nets-clause-kept : goal.returns-in_err-nets-clause-kept
returns-in_err-nets-clause-kept c =
    kept c.args.dst.now c.append_corrections.new.net
    (extends_further c.args.dst.now c.append_hits.new.net c.append_corrections.new.net
    (extends_further c.args.dst.now c.append_syndrome.new.net c.append_hits.new.net c.in_ok-syndrome.ensures.extends c.in_ok-hits.ensures.extends) c.in_err-nets.ensures.extends)

pub returns-clause-kept : goal.returns-clause-kept
returns-clause-kept c =
    kept c.args.dst.now c.append_corrections.new.net
    (extends_further c.args.dst.now c.append_hits.new.net c.append_corrections.new.net
    (extends_further c.args.dst.now c.append_syndrome.new.net c.append_hits.new.net c.in_ok-syndrome.ensures.extends c.in_ok-hits.ensures.extends) c.in_ok-nets.ensures.extends)

pub returns-clause-corrected : goal.returns-clause-corrected
returns-clause-corrected c =
    let places = c.args.word.now.places.items in
    let checks = c.args.word.now.checks.items in
    let m = length places in
    let code = c.args.code.now in
    let pats = c.args.pats.now in
    let syndrome = c.in_ok-syndrome.syndrome.items in
    let hits = c.in_ok-hits.hits.items in
    let first = c.append_syndrome.new.net in
    let second = c.append_hits.new.net in
    let new = c.append_corrections.new.net in
    let nets = map net_number c.in_ok-nets.nets.items in
    let count = ap length c.deref-2.ensures.0 in
    corrector_is code c.requires.distance.0 c.args.t m (word_nets c.args.word.now) pats c.in_ok-syndrome.ensures.well_formed c.requires.distance.1 c.requires.distance.2 (sym (length-map places net_number)) c.requires.some_place c.requires.places (length-map checks net_number ∙ c.requires.checks) c.requires.patterns
    c.args.dst.now first second new (map net_number syndrome) nets hits
    c.in_ok-syndrome.ensures.computed
    (subst (λ (ns : List NetId). AreComputed first second (map net_number ns) (hit_nets hits) (λ v. map (λ (p : Found). spells p.syndrome.0 (map v (map net_number ns))) pats)) c.deref.ensures.0 c.in_ok-hits.ensures.computed)
    c.in_ok-hits.ensures.errors
    (subst (λ (ns : List NetId). AreComputed second new (map net_number ns ++ hit_nets hits) nets (λ v. map (λ (p : ℕ × Bool). differ p.1 (some_hit p.0 hits v)) (enumerate_from 0 (map v (map net_number ns))))) c.deref-2.ensures.0
    (subst (λ (hs : List Hit). AreComputed second new (map net_number c.deref-2.result.now ++ hit_nets hs) nets (λ v. map (λ (p : ℕ × Bool). differ p.1 (some_hit p.0 hs v)) (enumerate_from 0 (map v (map net_number c.deref-2.result.now))))) c.deref-3.ensures.value c.in_ok-nets.ensures.computed))
    (length-map syndrome net_number ∙ c.in_ok-syndrome.ensures.count)
    c.in_ok-syndrome.ensures.cost
    (c.in_ok-hits.ensures.cost ∙ ap (λ (r : ℕ). net_count first + 1 + length pats * r) (ap length c.deref.ensures.0 ∙ sym (length-map syndrome net_number)))
    (c.in_ok-nets.ensures.cost ∙ ap₂ (λ (k : ℕ) (hs : List Hit). net_count second + 1 + k + hits_at k hs) count c.deref-3.ensures.value)
    (length-map c.in_ok-nets.nets.items net_number ∙ (c.in_ok-nets.ensures.count ∙ count))
    c.len.ensures.well_formed.gates
