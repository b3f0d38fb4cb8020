-- The labels of a flat netlist, with numbers in place of names.
use Rattle.std.specs.Prelude.{List, ◌++◌, length, map}
use Rattle.std.specs.List.{range_with_len}
use Rattle.netlist_spec.specs.Gates.{Machine}
use Rattle.imp_text.specs.declared.names.NameId.{NameId}
use Rattle.named_netlist.specs.declared.label.Label.{Label}
use Rattle.named_netlist.specs.declared.label.Label.TheVariants.{Given, Inner}
use Rattle.elaborated.specs.Flat.{at_gates}

abbrev pub labels_of : List NameId → List NameId → Machine → List NameId → List Label
labels_of data_names latch_names m output_names =
    map (λ n. Given n) data_names ++ map (λ n. Given n) latch_names ++ map (λ i. Inner i) (range_with_len 0 (length m.net.gates))
    ++ map (λ n. Given n) (at_gates m.net.leaves output_names m.outputs)
