-- What a label stands for.
use Rattle.std.specs.Prelude.{List, [], ◌∷◌}
use Rattle.netlist_spec.specs.Netlist.{Name}
use Rattle.netlist_spec.specs.Written.{Label, given, store, next, check, rail, inner}
use Rattle.imp_text.specs.declared.names.NameId.{NameId}
use Rattle.blif_read.specs.View.{name_at}
use Rattle.named_netlist.specs.declared.label.Label.{Label as NetLabel}
use Rattle.named_netlist.specs.declared.label.Label.TheVariants.{Given, Store, Next, Check, Rail, Inner}

abbrev pub label_of : List Name → NetLabel → Label
label_of names (Given id) = given (name_at names id)
label_of names (Store word place) = store word place
label_of names (Next word place) = next word place
label_of names (Check word bit) = check word bit
label_of names (Rail i) = rail i
label_of names (Inner i) = inner i

-- the numbers of names in a label
abbrev pub ids_in : NetLabel → List NameId
ids_in (Given id) = id ∷ []
ids_in _ = []
