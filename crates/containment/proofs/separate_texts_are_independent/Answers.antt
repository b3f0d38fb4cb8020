use Rattle.guard_spec.specs.Rails.{IsFarWord, IsNoCodeword}
use Rattle.containment.proofs.IndependentTexts.{independent_text}
use Rattle.containment.proofs.TellingTexts.{telling_text}
use Rattle.containment.proofs.separate_texts_are_independent.Goals as goal

pub returns : goal.returns
returns c = λ n g source named.
    let both = independent_text n named.names g.rails g.regions source named.rail_names g.machine named.same named.is_machine named.covers named.own_nets named.separate in
    record {
      independent = both.0;
      in_order = both.1;
      rails = λ code l p tell. telling_text n g source named code l p (IsNoCodeword code) tell;
      far_rails = λ code l p t tell. telling_text n g source named code l p (IsFarWord code t) tell;
    }
