-- What the words of a guard stand for.
use Rattle.std.specs.Prelude.{ℕ, List, map, Vec}
use Rattle.std.specs.declared.alloc.Global.{Global}
use Rattle.guard_spec.specs.Words.{Words, Layout}
use Rattle.encode_state.specs.declared.types.Layout.TheInside.{Inside}
use Rattle.netlist_spec.specs.Netlist.{Name}

abbrev pub names_in : Vec Name Global → List Name
names_in word = word.items

abbrev pub numbers_in : Vec ℕ Global → List ℕ
numbers_in word = word.items

abbrev pub words_in : List (Vec ℕ Global) → Words
words_in words = map numbers_in words

abbrev pub layout_in : Inside → Layout
layout_in l = record { state = words_in l.state.items; output = words_in l.output.items }
