use Rattle.std.proofs.Common.{ap, subst, ◌∙◌}
use Rattle.netlist_spec.specs.Written.{Named, IsNamed}
use Rattle.named_netlist.proofs.NetLemmas.{name-here, given-here}
use Rattle.named_netlist.proofs.named.Named.net_name.Goals as goal

pub returns-clause-bytes : goal.returns-clause-bytes
returns-clause-bytes c =
    let labels = ap (λ (h : Named). h.labels) c.self.view_is in
    c.name_bytes.ensures.bytes ∙ name-here c.args.self.now c.self.inside.names c.self.inside.labels.items c.args.n.0 c.index.result.now labels c.index.ensures c.requires

pub returns-clause-is_name : goal.returns-clause-is_name
returns-clause-is_name c =
    let named = subst IsNamed c.self.view_is c.self.invariant.named in
    let labels = ap (λ (h : Named). h.labels) c.self.view_is in
    c.name_bytes.ensures.is_name (given-here c.args.self.now c.self.inside.names c.self.inside.labels.items c.args.n.0 c.index.result.now named labels c.index.ensures c.requires)
