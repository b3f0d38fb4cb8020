use Rattle.std.proofs.Common.{◌≡◌, ◌++◌, ◌∷◌, [], ◌∙◌, false, length, rules, sym}
use Rattle.std.proofs.lemmas.List.{length-map}
use Rattle.netlist_spec.specs.Netlist.{stands_in}
use Rattle.imp_text.specs.Names.{names_in, AreNames}
use Rattle.imp_text.proofs.NamesLemmas.{bytes_of, AreNames_push, pushed_key, slice_get_last}
use Rattle.imp_text.proofs.names.Names.push.Goals as goal

new_names : (c : goal.In_ok-insert) → names_in c.insert.new.self.keys ≡ c.args.self.now ++ c.args.name.now ∷ []
new_names c =
    let key : bytes_of c.in_ok-to_vec.field-0 ≡ c.args.name.now = search rules in
    let absent : stands_in c.args.name.now (names_in c.self.inside.set.keys) ≡ false = rw c.self.view_is c.requires.absent in
    rw (← c.self.view_is) (pushed_key c.args.name.now c.self.inside.set.keys c.insert.new.self.keys c.in_ok-to_vec.field-0 key absent c.in_ok-insert.ensures.keys)

pub returns-clause-names : goal.returns-clause-names
returns-clause-names c = new_names c

are_names : (c : goal.In_ok-insert) → AreNames (names_in c.insert.new.self.keys)
are_names c =
    let old : AreNames c.args.self.now = rw (← c.self.view_is) c.self.invariant in
    rw (new_names c) (AreNames_push c.args.self.now c.args.name.now old c.requires.absent c.requires.some c.requires.short c.requires.room)

pub invariant_of-self-2 : goal.invariant_of-self-2
invariant_of-self-2 c = are_names c

pub returns-clause-are_names : goal.returns-clause-are_names
returns-clause-are_names c = are_names c

pub returns-clause-place : goal.returns-clause-place
returns-clause-place c =
    let place : c.len-place.result ≡ length c.args.self.now = rw (← c.self.view_is) (c.len-place.ensures.len ∙ sym (length-map c.self.inside.set.keys bytes_of)) in
    rw (place, new_names c) (slice_get_last c.args.self.now c.args.name.now)
