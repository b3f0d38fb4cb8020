use Rattle.std.proofs.Common.{refl}
use Rattle.gate_net.specs.Gate.{gate_form}
use Rattle.blif_read.specs.declared.file.Statement.TheVariants.{Names}
use Rattle.blif_write.proofs.FileLemmas.{names-spells}
use Rattle.blif_write.proofs.file.gate.Goals as goal

pub returns-clause-spells : goal.returns-clause-spells
returns-clause-spells c =
    names-spells c.args.g.now c.args.n.0 (gate_form c.args.gate.now) c.read_numbers.new.names c.net_number.new.names c.in_ok-ins.ins.items c.in_ok-out.out c.in_ok-cover.cover (Names c.in_ok-ins.ins c.in_ok-out.out c.in_ok-cover.cover)
    c.in_ok-ins.ensures.numbers c.in_ok-out.ensures.names c.in_ok-out.ensures.place c.in_ok-cover.ensures (λ all. refl) refl
