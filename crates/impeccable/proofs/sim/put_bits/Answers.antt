use Rattle.std.proofs.Common.{◌≡◌, ◌+◌, false, [], ◌∷◌, ◌++◌, get_or, take, ap, ◌∙◌}
use Rattle.std.proofs.lemmas.List.{map-append, take_more}
use Rattle.netlist_spec.specs.Statements.{bit_char}
use Rattle.program_spec.specs.Printed.{bits_text}
use Rattle.imp_io.proofs.BlockLemmas.{Gives-append}
use Rattle.impeccable.proofs.sim.put_bits.Goals as goal

pub loop-bit-preserved : goal.loop-bit-preserved
loop-bit-preserved g c =
    let i = c.loop-bit.bit-index in
    let more : bits_text (take (i + 1) c.args.bits.now) ≡ bits_text (take i c.args.bits.now) ++ bit_char (get_or c.args.bits.now i false) ∷ [] =
    ap bits_text (take_more c.args.bits.now i false c.loop-bit-test.true) ∙ map-append bit_char (take i c.args.bits.now) (get_or c.args.bits.now i false ∷ []) in
    rw (more, ← c.char_of.ensures) (Gives-append c.loop-bit.invariant c.put.ensures)
