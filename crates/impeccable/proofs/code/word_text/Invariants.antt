-- The places so far stand there.
use Rattle.std.proofs.Common.{◌≡◌, ◌≤◌}
use Rattle.guard_spec.specs.Codes.{bits_of}
use Rattle.program_spec.specs.Printed.{bits_text}
use Rattle.impeccable.proofs.code.word_text.Given as goal

abbrev pub invariant-loop-i : goal.invariant-loop-i
invariant-loop-i l = (l.i ≤ l.places) × (l.text.items ≡ bits_text (bits_of l.i l.word.0))
