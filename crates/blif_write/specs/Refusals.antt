-- What a refusal to write tells.
use Rattle.std.specs.Prelude.{Result, Ok, Err}
use Rattle.imp_io.specs.declared.fault.SinkFault.{SinkFault}
use Rattle.imp_io.specs.declared.fault.SinkFault.TheVariants.{Failed, NoMemory}
use Rattle.blif_write.specs.declared.refusal.WriteRefusal.{WriteRefusal}
use Rattle.blif_write.specs.declared.refusal.WriteRefusal.TheVariants.{Fault, NoMemory as NoRoom}

-- the answer of the put that stopped the write
abbrev pub put_answer : {T : Type 0} → Result T WriteRefusal → Result T SinkFault
put_answer (Ok x) = Ok x
put_answer (Err Fault) = Err Failed
put_answer (Err NoRoom) = Err NoMemory
