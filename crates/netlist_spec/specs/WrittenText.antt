-- What is said of the bytes of a netlist that is written for a source.
use Rattle.std.specs.Prelude.{◌≡◌, ℕ, List, Some}
use Rattle.netlist_spec.specs.Netlist.{Model, File}
use Rattle.netlist_spec.specs.Covers.{Library}
use Rattle.netlist_spec.specs.Reads.{Reads}
use Rattle.netlist_spec.specs.Models.{main_model, unknown_inits}
use Rattle.netlist_spec.specs.Text.{text_of}
use Rattle.netlist_spec.specs.Flat.{IsFlat}

-- The file is the one reading of the text.
pub record IsOneReading (text : List ℕ) (file : File) : Type 0 where
  pub reads : Reads text file
  pub only : (other : File) → Reads text other → other ≡ file

-- U is the number of unknown inits of the source's main model.
abbrev pub HasUnknownInits : File → ℕ → Type 0
HasUnknownInits source unknown = (m : Model) × (main_model source ≡ Some m) × (unknown ≡ unknown_inits m)

-- The text is that of one file, its one reading.
pub record IsTextOf (text : List ℕ) (source g : File) : Type 0 where
  pub unknown : ℕ
  pub has_unknown : HasUnknownInits source unknown
  pub written : text ≡ text_of unknown g
  pub reading : IsOneReading text g

-- what `flat` writes for a source
pub record IsFlatText (netlist text : List ℕ) (library : Library) : Type 0 where
  pub source : File
  pub is_source : Reads netlist source
  pub g : File
  pub text_of_g : IsTextOf text source g
  pub flat : IsFlat g source library
