use Rattle.std.proofs.Common.{arith, sym, ◌∙◌}
use Rattle.imp_text.proofs.LineTextLemmas.{trimmed-take_blank, trimmed-take_other}
use Rattle.imp_text.proofs.line.trimmed_len.Goals as goal

pub loop-len-preserved : goal.loop-len-preserved
loop-len-preserved c = record {
  within = omega arith;
  blanks =
      sym (trimmed-take_blank c.args.bytes.now c.loop-len.len (omega arith) (omega arith) (cc c.if-is_blank.true))
      ∙ c.loop-len.invariant.blanks;
}

pub returns-else-is_blank-clause-trimmed : goal.returns-else-is_blank-clause-trimmed
returns-else-is_blank-clause-trimmed c =
    sym (trimmed-take_other c.args.bytes.now c.loop-len.len (omega arith) (omega arith) (cc c.if-is_blank.false))
    ∙ c.loop-len.invariant.blanks
