-- The lines of the cycles so far.
use Rattle.std.proofs.Common.{◌≡◌, take}
use Rattle.std.specs.List.{flat_map}
use Rattle.program_spec.specs.Demo.{demo_stream}
use Rattle.demo_laws.specs.DemoFiles.{cycle_text}
use Rattle.demo_design.proofs.stimulus.stimulus_text.Given as goal

abbrev pub invariant-loop-c : goal.invariant-loop-c
invariant-loop-c l = l.text.items ≡ flat_map cycle_text (take l.c (demo_stream l.n))
