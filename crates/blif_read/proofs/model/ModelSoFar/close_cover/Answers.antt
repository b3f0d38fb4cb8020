use Rattle.std.proofs.Common.{sym, ◌∙◌}
use Rattle.blif_read.proofs.BuildingLemmas.{close_statements}
use Rattle.blif_read.proofs.model.ModelSoFar.close_cover.Goals as goal

pub returns-in_ok-push-clause-keeps : goal.returns-in_ok-push-clause-keeps
returns-in_ok-push-clause-keeps c =
    λ n name lines is.
    record {
      name_is = is.name_is;
      line_is = is.line_is;
      names_are = is.names_are;
      inputs = is.inputs;
      outputs = is.outputs;
      clocks = is.clocks;
      statements = close_statements c.args.self.now.model.names c.args.self.now.model.statements.items c.push.new.self.items c.args.self.now.cover c.take.new.self c.in-Some.last c.into_located.result lines
          (sym c.take.ensures.value ∙ c.in-Some.is) c.take.ensures.after c.into_located.ensures c.in_ok-push.ensures.items is.statements;
    }
