-- The models so far have their marks.
use Rattle.std.proofs.Common.{take}
use Rattle.std.specs.List.{AllZip}
use Rattle.source_nets.specs.Ports.{IsPortMarks}
use Rattle.source_nets.proofs.ports.port_marks.Given as goal

abbrev pub invariant-loop-m : goal.invariant-loop-m
invariant-loop-m l = AllZip IsPortMarks (take l.m-index l.models) l.marks.items
