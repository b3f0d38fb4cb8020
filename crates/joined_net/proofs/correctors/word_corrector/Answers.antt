use Rattle.std.proofs.Common.{◌≡◌, ◌+◌, ◌<◌, ◌≤◌, sym, ◌∙◌, ap, subst, arith, ℕ, List, length, map}
use Rattle.std.specs.List.{AllByRecursion, range_with_len}
use Rattle.std.proofs.lemmas.List.{length-map}
use Rattle.std.proofs.lemmas.List.FromFn.{length-range_with_len}
use Rattle.guard_spec.specs.Codes.{ArePatterns}
use Rattle.guard_spec.specs.Plain.{corrector_cost}
use Rattle.distance.specs.Patterns.{pattern_of}
use Rattle.gate_net.specs.Gate.{net_number}
use Rattle.gate_net.specs.GateNet.{net_count}
use Rattle.gate_net.specs.Words.{WordNets, nets_of, word_nets}
use Rattle.guard_laws.proofs.Lists.{range_join}
use Rattle.corrector.specs.Corrected.{IsCorrectorRange}
use Rattle.joined_net.proofs.CorrectedWords.{is_corrected, run_below, stands_for_itself}
use Rattle.joined_net.proofs.correctors.word_corrector.Goals as goal

pub returns-then-not-needed-clause-corrector : goal.returns-then-not-needed-clause-corrector
returns-then-not-needed-clause-corrector c = stands_for_itself c.args.net.now c.args.c.now c.args.t c.args.at c.args.word.now (map net_number c.word_run-shown.result.places.items) c.args.needed c.if-not-needed.true (ap (λ (w : WordNets). w.places) c.word_run-shown.ensures) c.requires.leaves

pub corrected-requires-clause-some_place : goal.corrected-requires-clause-some_place
corrected-requires-clause-some_place c =
    let long : length c.word_run-shown.result.places.items ≡ length c.args.word.now = sym (length-map c.word_run-shown.result.places.items net_number) ∙ ap (λ (w : WordNets). length w.places) c.word_run-shown.ensures ∙ length-range_with_len c.args.at (length c.args.word.now) in
    omega (arith, long, c.requires.some_place)

pub corrected-requires-clause-places : goal.corrected-requires-clause-places
corrected-requires-clause-places c =
    let long : length c.word_run-shown.result.places.items ≡ length c.args.word.now = sym (length-map c.word_run-shown.result.places.items net_number) ∙ ap (λ (w : WordNets). length w.places) c.word_run-shown.ensures ∙ length-range_with_len c.args.at (length c.args.word.now) in
    omega (arith, long, c.requires.places)

pub corrected-requires-clause-checks : goal.corrected-requires-clause-checks
corrected-requires-clause-checks c =
    let long : length c.word_run-shown.result.checks.items ≡ c.from-columns.result = sym (length-map c.word_run-shown.result.checks.items net_number) ∙ ap (λ (w : WordNets). length w.checks) c.word_run-shown.ensures ∙ length-range_with_len (c.args.at + length c.args.word.now) c.from-columns.result in
    long ∙ c.from-columns.ensures ∙ c.r.ensures.columns

pub corrected-requires-clause-nets : goal.corrected-requires-clause-nets
corrected-requires-clause-nets c =
    let n = length c.args.word.now in
    let columns : c.from-columns.result ≡ c.args.c.now.columns = c.from-columns.ensures ∙ c.r.ensures.columns in
    let all : nets_of (word_nets c.word_run-shown.result) ≡ range_with_len c.args.at (n + c.from-columns.result) = ap nets_of c.word_run-shown.ensures ∙ range_join c.args.at n c.from-columns.result in
    subst (λ (ns : List ℕ). AllByRecursion (λ k. k < net_count c.args.net.now) ns) (sym all) (run_below c.args.at (n + c.from-columns.result) (net_count c.args.net.now) (omega (arith, columns, c.requires.leaves)))

pub corrected-requires-clause-patterns : goal.corrected-requires-clause-patterns
corrected-requires-clause-patterns c =
    let code = c.args.c.now in
    let long : length c.word_run-shown.result.places.items ≡ length c.args.word.now = sym (length-map c.word_run-shown.result.places.items net_number) ∙ ap (λ (w : WordNets). length w.places) c.word_run-shown.ensures ∙ length-range_with_len c.args.at (length c.args.word.now) in
    subst (λ (n : ℕ). ArePatterns code n c.args.t (map (pattern_of (n + code.columns) code.columns) c.deref.result.now)) (sym long)
    (subst (λ ps. ArePatterns code (length c.args.word.now) c.args.t (map (pattern_of (length c.args.word.now + code.columns) code.columns) ps)) (sym c.deref.ensures.value) c.in_ok-pats.ensures.all)

pub corrected-requires-clause-room : goal.corrected-requires-clause-room
corrected-requires-clause-room c =
    let long : length c.word_run-shown.result.places.items ≡ length c.args.word.now = sym (length-map c.word_run-shown.result.places.items net_number) ∙ ap (λ (w : WordNets). length w.places) c.word_run-shown.ensures ∙ length-range_with_len c.args.at (length c.args.word.now) in
    subst (λ (n : ℕ). net_count c.args.net.now + corrector_cost c.args.c.now c.args.t n ≤ 8388608) (sym long) (c.requires.room c.if-not-needed.false)

pub returns-clause-corrector : goal.returns-clause-corrector
returns-clause-corrector c =
    let n = length c.args.word.now in
    let code = c.args.c.now in
    let columns : c.from-columns.result ≡ code.columns = c.from-columns.ensures ∙ c.r.ensures.columns in
    let shown : word_nets c.word_run-shown.result ≡ record { places = range_with_len c.args.at n; checks = range_with_len (c.args.at + n) code.columns }
    = c.word_run-shown.ensures ∙ ap (λ (r : ℕ). record { places = range_with_len c.args.at n; checks = range_with_len (c.args.at + n) r }) columns in
    is_corrected code c.args.t c.args.at c.args.word.now c.args.net.now c.corrected.new.dst (map net_number c.in_ok-nets.nets.items) c.args.needed c.if-not-needed.false c.in_ok-nets.ensures.kept c.requires.leaves
    (subst (λ (w : WordNets). IsCorrectorRange code c.args.t w c.args.net.now c.corrected.new.dst (map net_number c.in_ok-nets.nets.items)) shown c.in_ok-nets.ensures.corrected)
