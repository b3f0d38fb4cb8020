use Rattle.std.proofs.Common.{◌≡◌, take}
use Rattle.imp_text.specs.Tokens.{words_at}
use Rattle.blif_read.specs.LineTests.{words_in}
use Rattle.blif_read.proofs.line.fill_words.Given as goal

abbrev pub invariant-loop-token : goal.invariant-loop-token
invariant-loop-token l = words_in l.words.items ≡ words_at l.source (take l.token-index l.tokens)
