use Rattle.std.proofs.Common.{◌≡◌, false, rules}
use Rattle.netlist_spec.specs.Netlist.{stands_in}
use Rattle.imp_text.specs.Names.{names_in}
use Rattle.imp_text.proofs.NamesLemmas.{bytes_of, pushed_key}
use Rattle.source_nets.proofs.name_index.NameIndex.push.Goals as goal

pub returns-clause-names : goal.returns-clause-names
returns-clause-names c =
    let key : bytes_of c.in_ok-to_vec.field-0 ≡ c.args.name.now = search rules in
    let absent : stands_in c.args.name.now (names_in c.self.inside.set.keys) ≡ false = rw c.self.view_is c.requires in
    rw (← c.self.view_is) (pushed_key c.args.name.now c.self.inside.set.keys c.insert.new.self.keys c.in_ok-to_vec.field-0 key absent c.in_ok-insert.ensures.keys)
