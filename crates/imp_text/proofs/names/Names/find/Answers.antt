use Rattle.std.proofs.Common.{◌∙◌, sym}
use Rattle.netlist_spec.specs.Netlist.{same_name}
use Rattle.imp_text.proofs.NamesLemmas.{bytes_of, list_any-map, found_key}
use Rattle.imp_text.proofs.names.Names.find.Goals as goal

pub returns-in_err-place-clause-absent : goal.returns-in_err-place-clause-absent
returns-in_err-place-clause-absent c =
    rw (c.from_residual.ensures, ← c.self.view_is) (list_any-map (same_name c.args.name.now) bytes_of c.self.inside.set.keys ∙ sym c.in_err-place.ensures.found)

pub returns-clause-place : goal.returns-clause-place
returns-clause-place c =
    rw (← c.self.view_is) (found_key c.args.name.now c.self.inside.set.keys c.in_ok-place.place (sym c.in_ok-place.ensures.index))
