use Rattle.std.proofs.Common.{◌≡◌, sym, ◌∙◌, subst, Some}
use Rattle.netlist_spec.specs.Netlist.{Model}
use Rattle.source_laws.specs.Numbered.{HasNamesOf}
use Rattle.blif_read.specs.View.{model_of}
use Rattle.elaborate.proofs.source.elaborate_checked.Goals as goal

pub named_source-requires-clause-can : goal.named_source-requires-clause-can
named_source-requires-clause-can c e names same = (c.in_ok-machine.ensures.elaborated (model_of c.main_model.result) c.main_model.ensures.main e names same).form

pub returns : goal.returns
returns c = record {
  elaborated = λ m main.
      let one : Some (model_of c.main_model.result) ≡ Some m = sym c.main_model.ensures.main ∙ main in
      let same : model_of c.main_model.result ≡ m = cc one in
      c.in_ok-machine.ensures.elaborated m main c.in_ok-e.e (subst (λ (k : Model). HasNamesOf k c.in_ok-e.e) same c.in_ok-e.ensures.names) c.in_ok-e.ensures.machine;
}
