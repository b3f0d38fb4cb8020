-- What the types of this crate stand for.
use Rattle.std.specs.Prelude.{List, map, option_map, Vec}
use Rattle.std.specs.declared.alloc.Global.{Global}
use Rattle.netlist_spec.specs.Netlist.{Name}
use Rattle.netlist_spec.specs.Covers.{Library}
use Rattle.guard_spec.specs.Codes.{Mode, detect, correct}
use Rattle.guard_spec.specs.Words.{Settings}
use Rattle.guard_spec.specs.SettingsFile.{IsSettings}
use Rattle.sbox_table.specs.Named.{named_table_of}
use Rattle.sbox_table.specs.declared.table.NamedTable.{NamedTable}
use Rattle.linear_layer.specs.Named.{named_linear_of}
use Rattle.linear_layer.specs.declared.layer.NamedLinear.{NamedLinear}
use Rattle.settings.specs.declared.types.Mode.{Mode as ReadMode}
use Rattle.settings.specs.declared.types.Mode.TheVariants.{Detect, Correct}
use Rattle.settings.specs.declared.types.Settings.TheInside.{Inside}

abbrev pub mode_in : ReadMode → Mode
mode_in Detect = detect
mode_in Correct = correct

abbrev pub names_in : Vec Name Global → List Name
names_in word = word.items

abbrev pub words_in : Vec (Vec Name Global) Global → List (List Name)
words_in words = map names_in words.items

abbrev pub library_in : Vec NamedTable Global → Vec NamedLinear Global → Library
library_in tables linears = record { tables = map named_table_of tables.items; linears = map named_linear_of linears.items }

abbrev pub settings_in : Inside → Settings
settings_in s =
    record {
      mode = mode_in s.mode;
      bound = s.bound;
      code = s.code;
      state_words = option_map words_in s.state_words;
      output_words = option_map words_in s.output_words;
      library = library_in s.tables s.linears;
    }

-- what holds of all settings that are read
abbrev pub AreSettings : Inside → Type 0
AreSettings s = IsSettings (settings_in s)
