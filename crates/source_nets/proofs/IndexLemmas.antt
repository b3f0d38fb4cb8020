-- Keys by their places.
use Rattle.std.proofs.Common.{◌≡◌, sym, ◌∙◌, ℕ, List, Bool, true, false, Option, Some, None, slice_get, Vec, IfSome, IfNone}
use Rattle.std.specs.Prelude.{position, is_some}
use Rattle.std.specs.List.{list_any}
use Rattle.std.specs.declared.alloc.Global.{Global}
use Rattle.netlist_spec.specs.Netlist.{Name, same_name, stands_in}
use Rattle.imp_text.specs.Names.{names_in}
use Rattle.imp_text.proofs.NamesLemmas.{bytes_of, list_any-map, found_key}

pub found_option : (name : Name) (keys : List (Vec ℕ Global)) (o : Option ℕ) → o ≡ position (λ k. same_name name (bytes_of k)) keys → IfSome o (λ i. slice_get (names_in keys) i ≡ Some name)
found_option name keys None e = tt
found_option name keys (Some i) e = found_key name keys i (sym e)

pub absent_option : (name : Name) (keys : List (Vec ℕ Global)) (o : Option ℕ) → is_some o ≡ list_any (λ k. same_name name (bytes_of k)) keys → IfNone o (stands_in name (names_in keys) ≡ false)
absent_option name keys None e = list_any-map (same_name name) bytes_of keys ∙ sym e
absent_option name keys (Some i) e = tt
