use Rattle.std.proofs.Common.{◌≡◌, sym, ◌∙◌, ap, get_or, true, not, Option, Some}
use Rattle.std.specs.Bool.{then_some}
use Rattle.netlist_spec.specs.Netlist.{Name, stands_in}
use Rattle.blif_read.specs.declared.file.Port.{Port}
use Rattle.blif_read.specs.View.{name_at}
use Rattle.source_nets.proofs.PortLemmas.{named_at}
use Rattle.source_placements.proofs.FirstLemmas.{goes_on_at, is_found_at, none_left}
use Rattle.source_placements.proofs.PortLemmas.{find_some}
use Rattle.source_placements.proofs.missing.missing_among.Goals as goal

pub returns-then-not-is_given : goal.returns-then-not-is_given
returns-then-not-is_given c =
    let names = c.args.names.now in
    let given = c.args.given.now in
    let ports = c.args.ports.now in
    let i = c.loop-port.port-index in
    let d : Port = record { name = record { 0 = 0 }; line = 0 } in
    let f : Port → Option Name = λ p. then_some (not (stands_in (name_at names p.name) given)) (name_at names p.name) in
    let id = (get_or ports i d).name in
    let missing : not (stands_in (name_at names id) given) ≡ true = ap (λ n. not (stands_in n given)) (named_at names id c.get.result.now c.get.ensures) ∙ ap not (sym c.if-not-is_given.ensures) in
    ap (λ (n : Name). Some n) c.in_ok-name_of.ensures
    ∙ sym (find_some (λ n. not (stands_in n given)) (λ (p : Port). name_at names p.name) ports
    ∙ sym c.loop-port.invariant
    ∙ is_found_at f ports i d (name_at names id) c.loop-port-test.true (ap (λ t. then_some t (name_at names id)) missing))

pub loop-port-preserved : goal.loop-port-preserved
loop-port-preserved c =
    let names = c.args.names.now in
    let given = c.args.given.now in
    let ports = c.args.ports.now in
    let i = c.loop-port.port-index in
    let d : Port = record { name = record { 0 = 0 }; line = 0 } in
    let f : Port → Option Name = λ p. then_some (not (stands_in (name_at names p.name) given)) (name_at names p.name) in
    let id = (get_or ports i d).name in
    let found : stands_in (name_at names id) given ≡ true = ap (λ n. stands_in n given) (named_at names id c.get.result.now c.get.ensures) ∙ sym c.if-not-is_given.ensures in
    goes_on_at f ports i d c.loop-port-test.true (ap (λ t. then_some (not t) (name_at names id)) found) ∙ c.loop-port.invariant

pub returns : goal.returns
returns c =
    let names = c.args.names.now in
    let given = c.args.given.now in
    let ports = c.args.ports.now in
    let f : Port → Option Name = λ p. then_some (not (stands_in (name_at names p.name) given)) (name_at names p.name) in
    sym (find_some (λ n. not (stands_in n given)) (λ (p : Port). name_at names p.name) ports
    ∙ sym c.loop-port.invariant
    ∙ none_left f ports c.loop-port.port-index c.loop-port-test.false)
