-- What the faults of the reader stand for.
use Rattle.std.specs.Prelude.{◌≡◌, ⊤, Option, None, Some}
use Rattle.imp_text.specs.Quantities.{quantity_of}
use Rattle.netlist_spec.specs.ReadFaults.{ReadFault, unknown_statement, bad_row, mixed_cover, bad_latch, no_model, long_name, too_many, twice_model, bad_subckt, after_end, word_count}
use Rattle.blif_read.specs.declared.fault.BlifFault.{BlifFault}
use Rattle.blif_read.specs.declared.fault.BlifFault.TheVariants.{UnknownStatement, BadRow, MixedCover, BadLatch, NoModel, LongName, TooMany, TwiceModel, BadSubckt, AfterEnd, WordCount, NoMemory}

-- the refusal, and none for want of memory
abbrev pub fault_of : BlifFault → Option ReadFault
fault_of (UnknownStatement line word) = Some (unknown_statement line word)
fault_of (BadRow line) = Some (bad_row line)
fault_of (MixedCover line) = Some (mixed_cover line)
fault_of (BadLatch line) = Some (bad_latch line)
fault_of (NoModel line) = Some (no_model line)
fault_of (LongName line) = Some (long_name line)
fault_of (TooMany line what) = Some (too_many line (quantity_of what))
fault_of (TwiceModel line name) = Some (twice_model line name)
fault_of (BadSubckt line) = Some (bad_subckt line)
fault_of (AfterEnd line) = Some (after_end line)
fault_of (WordCount line) = Some (word_count line)
fault_of NoMemory = None

-- A fault other than want of memory is the one that is expected.
abbrev pub IsFault : Option ReadFault → Option ReadFault → Type 0
IsFault expected None = ⊤
IsFault expected (Some fault) = expected ≡ Some fault
