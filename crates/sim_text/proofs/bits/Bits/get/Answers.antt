use Rattle.std.proofs.Common.{◌<◌, ◌/◌, ◌%◌, length, get_or, false, sym, ap, ◌∙◌, arith}
use Rattle.std.proofs.lemmas.Grind.{get_or_default_zero}
use Rattle.netlist_spec.specs.Covers.{has_bit}
use Rattle.sim_text.proofs.PackedLemmas.{unpacked_length, unpacked_at}
use Rattle.sim_text.proofs.bits.Bits.get.Goals as goal

pub index-requires : goal.index-requires
index-requires c =
    let count = sym (ap length c.self.view_is) ∙ unpacked_length c.self.inside.len c.self.inside.bytes.items in
    let whole = c.self.invariant.whole in
    omega (arith, count, whole, c.requires)

pub returns : goal.returns
returns c =
    let count = sym (ap length c.self.view_is) ∙ unpacked_length c.self.inside.len c.self.inside.bytes.items in
    let below : c.args.i < c.self.inside.len = omega (arith, count, c.requires) in
    let whole = c.self.invariant.whole in
    let there : c.args.i / 8 < length c.self.inside.bytes.items = omega (arith, whole, below) in
    c.has_bit.ensures ∙ (ap (λ b. has_bit b (c.args.i % 8)) (c.index.ensures ∙ get_or_default_zero c.self.inside.bytes.items (c.args.i / 8) c.index.result.now there)
    ∙ (sym (unpacked_at c.self.inside.len c.self.inside.bytes.items c.args.i below) ∙ ap (λ bits. get_or bits c.args.i false) c.self.view_is))
