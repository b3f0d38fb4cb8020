-- The status that each outcome ends with, and what it is as plain data.
use Rattle.std.specs.Prelude.{◌≡◌, ℕ, List}
use Rattle.program_spec.specs.ErrorLines.{Answer, done, found, usage, refused, read_fault, write_fault, no_memory}
use Rattle.refusals.specs.Refusal.{refusal_of}
use Rattle.impeccable.specs.declared.outcome.Outcome.{Outcome}
use Rattle.impeccable.specs.declared.outcome.Outcome.TheVariants.{Done, Found, Usage, Refused, ReadFault, WriteFault, NoMemory}

abbrev pub code_of : Outcome → ℕ
code_of Done = 0
code_of (Refused _) = 1
code_of Usage = 2
code_of ReadFault = 3
code_of WriteFault = 4
code_of NoMemory = 5
code_of Found = 6

-- The outcome is that of the answer. The name of the file whose load failed is left out.
abbrev pub IsAnswer : Outcome → Answer → Type 0
IsAnswer Done answer = answer ≡ done
IsAnswer Found answer = answer ≡ found
IsAnswer Usage answer = answer ≡ usage
IsAnswer (Refused told) answer = answer ≡ refused (refusal_of told)
IsAnswer ReadFault answer = (name : List ℕ) × (answer ≡ read_fault name)
IsAnswer WriteFault answer = answer ≡ write_fault
IsAnswer NoMemory answer = answer ≡ no_memory
