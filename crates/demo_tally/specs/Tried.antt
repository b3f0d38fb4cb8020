-- What a demo prints.
use Rattle.std.specs.Prelude.{ℕ, List, ◌++◌}
use Rattle.program_spec.specs.Printed.{demo_text}
use Rattle.guard_tally.specs.Tallied.{lines_of}
use Rattle.demo_tally.specs.declared.demo.DemoTally.{DemoTally}

-- its eight lines
abbrev pub summary_text : DemoTally → List ℕ
summary_text d = demo_text d.statements d.latches d.plain ++ lines_of d.tally
