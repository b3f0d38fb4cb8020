use Rattle.std.proofs.Common.{◌≡◌, [], ◌+◌, ◌≤◌, length, map, take, arith, get_or, subst}
use Rattle.std.proofs.lemmas.Option.{get_or_from_slice_get}
use Rattle.netlist_spec.specs.Netlist.{IsName}
use Rattle.imp_text.specs.declared.names.NameId.{NameId}
use Rattle.blif_read.specs.View.{name_at}
use Rattle.blif_read.proofs.SpelledLemmas.{map-step, mapped-at, numbers-next}
use Rattle.blif_write.proofs.numbers.given_numbers.Goals as goal

pub intern-requires-clause-some : goal.intern-requires-clause-some
intern-requires-clause-some c =
    let none : NameId = record { 0 = 0 } in
    let at = get_or c.args.ids.now c.loop-id.id-index none in
    let named : name_at c.args.given.now at ≡ c.get.result.now = get_or_from_slice_get c.args.given.now at.0 c.get.result.now [] c.get.ensures in
    let is = subst IsName named (mapped-at IsName (name_at c.args.given.now) c.args.ids.now c.requires.are_names c.loop-id.id-index none c.loop-id-test.true) in
    is.0

pub intern-requires-clause-short : goal.intern-requires-clause-short
intern-requires-clause-short c =
    let none : NameId = record { 0 = 0 } in
    let at = get_or c.args.ids.now c.loop-id.id-index none in
    let named : name_at c.args.given.now at ≡ c.get.result.now = get_or_from_slice_get c.args.given.now at.0 c.get.result.now [] c.get.ensures in
    let is = subst IsName named (mapped-at IsName (name_at c.args.given.now) c.args.ids.now c.requires.are_names c.loop-id.id-index none c.loop-id-test.true) in
    is.1

pub loop-id-preserved : goal.loop-id-preserved
loop-id-preserved c =
    let none : NameId = record { 0 = 0 } in
    let i = c.loop-id.id-index in
    let at = get_or c.args.ids.now i none in
    let name = name_at c.args.given.now in
    let named : name at ≡ c.get.result.now = get_or_from_slice_get c.args.given.now at.0 c.get.result.now [] c.get.ensures in
    let more = rw named at (map-step name c.args.ids.now i none c.loop-id-test.true) in
    let next = numbers-next c.args.names.now c.loop-id.names c.intern.new.self c.loop-id.numbers.items (map name (take i c.args.ids.now)) (map name (take (i + 1) c.args.ids.now)) c.in_ok-number.number c.get.result.now more c.loop-id.invariant.names c.loop-id.invariant.numbers c.in_ok-number.ensures.names c.in_ok-number.ensures.place in
    let few : length c.intern.new.self ≤ length c.args.names.now + (i + 1) = omega (arith, next.2, c.loop-id.invariant.few) in
    record { names = next.0; numbers = rw c.in_ok-push.ensures.items next.1; few = few }
