use Rattle.std.proofs.Common.{◌≡◌, ◌<◌, ◌≤◌, sym, ◌∙◌, ap, ap₂, subst, ℕ, length, map, Option, option_map, arith}
use Rattle.std.proofs.lemmas.List.{length-map}
use Rattle.netlist_spec.specs.Netlist.{Name}
use Rattle.netlist_spec.specs.Models.{gates_of, output_nets}
use Rattle.netlist_spec.specs.Ordered.{cell_nets}
use Rattle.blif_read.specs.View.{name_at, model_of}
use Rattle.audit_laws.specs.FirstBits.{FirstBits}
use Rattle.audit_laws.specs.Along.{bits_along}
use Rattle.audit_laws.specs.OnePass.{finding_of_bits}
use Rattle.independence_audit.specs.Kept.{first_bits}
use Rattle.independence_audit.specs.Told.{IsToldOf}
use Rattle.independence_audit.proofs.TableLemmas.{keeps_at}
use Rattle.independence_audit.proofs.TellLemmas.{narrow_found}
use Rattle.independence_audit.proofs.tell.tell_gate.Goals as goal

pub returns-clause-finding : goal.returns-clause-finding
returns-clause-finding c = λ cover known e.
    let m = c.args.m.now in
    let M = model_of m in
    let named = name_at m.names in
    let out = c.args.out in
    let table = c.args.known.now.gates.items in
    let kept = bits_along M (gates_of M) in
    let within : out.0 < length table = let t = c.requires.tables.gates in let o = c.requires.out in omega arith in
    let bits = ap first_bits c.index.ensures ∙ keeps_at m.names table kept known.gates out within c.index.result.now in
    let read = c.first_read-read.ensures m.names (output_nets M) (cell_nets M) known.outputs known.cells in
    let narrow = subst (λ (n : ℕ). n ≤ 2) (sym (length-map c.args.ins.now named)) c.if-ins-gt2.false in
    c.tell_bits.ensures.finding
    ∙ (ap (λ (n : Name). finding_of_bits M n (option_map named c.first_read-read.result) (first_bits c.index.result.now)) e
    ∙ (ap₂ (λ (r : Option Name) (k : FirstBits). finding_of_bits M (named out) r k) read bits ∙ sym (narrow_found M (map named c.args.ins.now) (named out) cover (kept (named out)) narrow)))

pub returns-clause-bit : goal.returns-clause-bit
returns-clause-bit c = λ known.
    let m = c.args.m.now in
    let M = model_of m in
    let out = c.args.out in
    let table = c.args.known.now.gates.items in
    let within : out.0 < length table = let t = c.requires.tables.gates in let o = c.requires.out in omega arith in
    subst (IsToldOf c.tell_bits.result) (ap first_bits c.index.ensures ∙ keeps_at m.names table (bits_along M (gates_of M)) known.gates out within c.index.result.now) c.tell_bits.ensures.bit
