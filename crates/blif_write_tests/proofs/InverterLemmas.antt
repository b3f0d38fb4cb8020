-- The register that turns its bit, as the tests build it.
use Rattle.std.proofs.Common.{◌≡◌, ℕ, List, [], ◌∷◌, codes, map, slice_get, Some, true, false, refl, sym, subst, ap, ap₂, ◌∙◌, All, lit<, lit≤}
use Rattle.std.proofs.lemmas.Option.{get_or_from_slice_get, slice_get_within}
use Rattle.netlist_spec.specs.Netlist.{Name, plain}
use Rattle.netlist_spec.specs.Gates.{GateList, one, LatchRow}
use Rattle.netlist_spec.specs.Written.{Label, given, Named, IsNamed}
use Rattle.imp_text.specs.declared.names.NameId.{NameId}
use Rattle.blif_read.specs.Ids.{IsIdOf}
use Rattle.named_netlist.specs.Labels.{label_of, ids_in}
use Rattle.named_netlist.specs.declared.label.Label.{Label as NetLabel}
use Rattle.named_netlist.specs.declared.label.Label.TheVariants.{Given}
use Rattle.blif_read.proofs.SpelledLemmas.{all-at}

abbrev pub named_with : Name → List Name → List Name → List ℕ → GateList → List Label → List LatchRow → Named
named_with model inputs clocks outputs net labels latches =
    record {
      model = model;
      unknown_inits = 0;
      inputs = inputs;
      clocks = clocks;
      outputs = outputs;
      clocking = plain;
      net = net;
      labels = labels;
      latches = latches;
      data_inputs = 0;
    }

abbrev pub inverter_net : GateList
inverter_net = record { leaves = 1; gates = one true 0 ∷ [] }

abbrev pub inverter_labels : List Label
inverter_labels = given (codes "q") ∷ given (codes "n") ∷ []

abbrev pub inverter_rows : List LatchRow
inverter_rows = record { d = 1; init = false } ∷ []

abbrev pub inverter_named : Named
inverter_named = named_with (codes "inv") [] [] (0 ∷ []) inverter_net inverter_labels inverter_rows

inverter_is : IsNamed inverter_named
inverter_is =
    record {
      gates = (lit< tt, tt);
      leaves = refl;
      labels = refl;
      distinct = refl;
      first_labels = refl;
      no_clock = (refl, (refl, tt));
      inputs = refl;
      clocks = refl;
      control = tt;
      clocking = λ e. refl;
      outputs = (lit< tt, tt);
      once = refl;
      stores = (lit< tt, tt);
      model = (record { is_name = (lit< tt, lit≤ tt); bytes = refl }, refl);
      words = (record { is_name = (lit< tt, lit≤ tt); bytes = refl }, (record { is_name = (lit< tt, lit≤ tt); bytes = refl }, tt));
      free = (refl, (refl, tt));
      limits = record {
        models = (record { covers = (tt, (lit≤ tt, tt)); inputs = lit≤ tt; outputs = lit≤ tt; clocks = lit≤ tt; latches = lit≤ tt }, tt);
        statements = lit≤ tt;
      };
    }

pub named-with : (model : Name) (inputs clocks : List Name) (outputs : List ℕ) (net : GateList) (labels : List Label) (latches : List LatchRow) → model ≡ codes "inv" → inputs ≡ [] → clocks ≡ [] → outputs ≡ 0 ∷ [] → net ≡ inverter_net → labels ≡ inverter_labels → latches ≡ inverter_rows → IsNamed (named_with model inputs clocks outputs net labels latches)
named-with model inputs clocks outputs net labels latches m i c o n l r =
    let same : named_with model inputs clocks outputs net labels latches ≡ inverter_named
    = ap (λ (x : Name). named_with x inputs clocks outputs net labels latches) m
    ∙ ap (λ (x : List Name). named_with (codes "inv") x clocks outputs net labels latches) i
    ∙ ap (λ (x : List Name). named_with (codes "inv") [] x outputs net labels latches) c
    ∙ ap (λ (x : List ℕ). named_with (codes "inv") [] [] x net labels latches) o
    ∙ ap (λ (x : GateList). named_with (codes "inv") [] [] (0 ∷ []) x labels latches) n
    ∙ ap (λ (x : List Label). named_with (codes "inv") [] [] (0 ∷ []) inverter_net x latches) l
    ∙ ap (λ (x : List LatchRow). named_with (codes "inv") [] [] (0 ∷ []) inverter_net inverter_labels x) r in
    subst IsNamed (sym same) inverter_is

pub none-at : {A : Type 0} (P : A → Type 0) (xs : List A) → xs ≡ [] → All P xs
none-at {A} P xs e = subst (λ (l : List A). All P l) (sym e) (all-at P [] tt)

pub labels-are : (all : List Name) (q n : NameId) (items : List NetLabel) → slice_get all q.0 ≡ Some (codes "q") → slice_get all n.0 ≡ Some (codes "n") → items ≡ Given q ∷ Given n ∷ [] → map (label_of all) items ≡ inverter_labels
labels-are all q n items hq hn e =
    ap (map (label_of all)) e
    ∙ ap₂ (λ (a b : Name). given a ∷ given b ∷ []) (get_or_from_slice_get all q.0 (codes "q") [] hq) (get_or_from_slice_get all n.0 (codes "n") [] hn)

pub labels-within : (all : List Name) (q n : NameId) (items : List NetLabel) → slice_get all q.0 ≡ Some (codes "q") → slice_get all n.0 ≡ Some (codes "n") → items ≡ Given q ∷ Given n ∷ [] → All (λ (l : NetLabel). All (IsIdOf all) (ids_in l)) items
labels-within all q n items hq hn e =
    subst (λ (l : List NetLabel). All (λ (x : NetLabel). All (IsIdOf all) (ids_in x)) l) (sym e)
    (all-at (λ (x : NetLabel). All (IsIdOf all) (ids_in x)) (Given q ∷ Given n ∷ [])
    (all-at (IsIdOf all) (q ∷ []) (slice_get_within all q.0 _ hq, tt), (all-at (IsIdOf all) (n ∷ []) (slice_get_within all n.0 _ hn, tt), tt)))
