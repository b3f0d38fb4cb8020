use Rattle.named_netlist.proofs.NamedForms.{gates-have_form, inner-have_form, inner-apart}
use Rattle.named_netlist.proofs.laws.named_files_have_written_form.Goals as goal

pub returns-clause-gates : goal.returns-clause-gates
returns-clause-gates c = gates-have_form

pub returns-clause-inner : goal.returns-clause-inner
returns-clause-inner c = inner-have_form

pub returns-clause-free : goal.returns-clause-free
returns-clause-free c = inner-apart
