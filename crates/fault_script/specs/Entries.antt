-- What an entry says.
use Rattle.std.specs.Prelude.{ℕ, List}
use Rattle.netlist_spec.specs.Runs.{Fault}
use Rattle.imp_text.specs.Tokens.{word_at}
use Rattle.fault_script.specs.declared.entry.Entry.{Entry}

abbrev pub said_by : List ℕ → Entry → Fault
said_by source e = record { cycle = e.cycle; cell = word_at source e.cell; bit = e.value }
