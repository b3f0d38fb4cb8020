use Rattle.std.proofs.Common.{◌≡◌, ◌∙◌, ◌++◌, ◌∷◌, [], ap, sym, length, arith}
use Rattle.guard_spec.specs.Codes.{bits_of}
use Rattle.program_spec.specs.Printed.{bits_text}
use Rattle.impeccable.proofs.ReportLemmas.{bits-more, bits-long}
use Rattle.impeccable.proofs.code.word_text.Goals as goal

pub push-requires : goal.push-requires
push-requires c =
    let long : length c.loop-i.text.items ≡ c.loop-i.i = ap length c.loop-i.invariant.1 ∙ bits-long c.args.word.0 c.loop-i.i in
    (omega arith, omega (arith, long, c.requires))

pub loop-i-preserved : goal.loop-i-preserved
loop-i-preserved c = (
  omega arith,
  c.push.ensures.items ∙ (ap (λ l. l ++ c.char_at.result ∷ []) c.loop-i.invariant.1 ∙ (ap (λ b. bits_text (bits_of c.loop-i.i c.args.word.0) ++ b ∷ []) c.char_at.ensures ∙ sym (bits-more c.args.word.0 c.loop-i.i))),
)
