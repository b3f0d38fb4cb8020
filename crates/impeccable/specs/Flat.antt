-- What `flat` writes.
use Rattle.std.specs.Prelude.{ℕ, List}
use Rattle.netlist_spec.specs.Text.{text_of}
use Rattle.netlist_spec.specs.Written.{Named, file_of}

-- the text of a gate list with names
abbrev pub named_text : Named → List ℕ
named_text g = text_of g.unknown_inits (file_of g)
