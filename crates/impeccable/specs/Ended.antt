-- How a command ended, as plain data.
use Rattle.std.specs.Prelude.{Option, None, Some, Result, Ok, Err}
use Rattle.imp_io.specs.declared.fault.SinkFault.{SinkFault}
use Rattle.imp_io.specs.declared.fault.SinkFault.TheVariants.{Failed, NoMemory as NoRoom}
use Rattle.blif_write.specs.declared.refusal.WriteRefusal.{WriteRefusal}
use Rattle.blif_write.specs.declared.refusal.WriteRefusal.TheVariants.{Fault, NoMemory as NoSpace}
use Rattle.program_spec.specs.Refusals.{Refusal}
use Rattle.program_spec.specs.ErrorLines.{Answer, done, found, usage, refused, read_fault, write_fault, no_memory}
use Rattle.impeccable.specs.declared.ended.Success.{Success}
use Rattle.impeccable.specs.declared.ended.Success.TheVariants.{Done, Found}
use Rattle.impeccable.specs.declared.ended.Stop.{Stop}
use Rattle.impeccable.specs.declared.ended.Stop.TheVariants.{Usage, Refused, ReadFault, WriteFault, NoMemory}
use Rattle.refusals.specs.Refusal.{refusal_of}

abbrev pub stop_answer : Stop → Answer
stop_answer Usage = usage
stop_answer (Refused told) = refused (refusal_of told)
stop_answer (ReadFault name) = read_fault name.now
stop_answer WriteFault = write_fault
stop_answer NoMemory = no_memory

abbrev pub success_answer : Success → Answer
success_answer Done = done
success_answer Found = found

abbrev pub answer_of : Result Success Stop → Answer
answer_of (Ok success) = success_answer success
answer_of (Err stop) = stop_answer stop

-- a command that finds nothing
abbrev pub is_done : {T : Type 0} → T → Success
is_done made = Done

-- that of a part of a command, which is done where nothing stops it
abbrev pub part_answer : {T : Type 0} → Result T Stop → Answer
part_answer (Ok made) = done
part_answer (Err stop) = stop_answer stop

-- A fault of a layer is that refusal, and want of memory where it is none.
abbrev pub fault_answer : (F : Type 0) → (F → Refusal) → Option F → Answer
fault_answer F told None = no_memory
fault_answer F told (Some fault) = refused (told fault)

-- what a put that fails comes to, and a text that isn't written whole
abbrev pub sink_answer : SinkFault → Answer
sink_answer Failed = write_fault
sink_answer NoRoom = no_memory

abbrev pub write_answer : WriteRefusal → Answer
write_answer Fault = write_fault
write_answer NoSpace = no_memory
