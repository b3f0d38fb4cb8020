-- Small elaborated sources, as the tests build them.
use Rattle.std.proofs.Common.{◌≡◌, refl, sym, ◌∙◌, ap, ap₂, subst, ℕ, ◌<◌, ◌≤◌, ◌↔◌, true, false, List, [], ◌∷◌, length, map, slice_get, Some, codes, All, arith, lit<, lit≤}
use Rattle.std.specs.List.{AllByRecursion}
use Rattle.std.proofs.lemmas.List.Elements.{All-from_recursion}
use Rattle.std.proofs.lemmas.Option.{get_or_from_slice_get, slice_get_within}
use Rattle.netlist_spec.specs.Netlist.{Name, stands_in, are_distinct, plain}
use Rattle.netlist_spec.specs.Gates.{one, two, Machine}
use Rattle.netlist_spec.specs.Elaborated.{Elaborated, HasElaboratedForm}
use Rattle.imp_text.specs.declared.names.NameId.{NameId}
use Rattle.imp_text.proofs.NamesLemmas.{stands_in-at, one_place}
use Rattle.blif_read.specs.View.{name_at}
use Rattle.blif_read.specs.Ids.{IsIdOf}
use Rattle.blif_read.specs.Spelled.{AreNumbers}

-- a source without clocks
abbrev pub source_with : Machine → Name → List Name → List Name → List Name → List Name → List Name → Elaborated
source_with machine model inputs clocks leaves outputs latches =
    record {
      machine = machine;
      model = model;
      input_ports = inputs;
      clock_ports = clocks;
      data_names = leaves;
      output_names = outputs;
      latch_names = latches;
      clocking = plain;
      unknown_inits = 0;
    }

pub same_source : (machine machine' : Machine) (model model' : Name) (inputs inputs' clocks clocks' leaves leaves' outputs outputs' latches latches' : List Name) → machine ≡ machine' → model ≡ model' → inputs ≡ inputs' → clocks ≡ clocks' → leaves ≡ leaves' → outputs ≡ outputs' → latches ≡ latches'
    → source_with machine model inputs clocks leaves outputs latches ≡ source_with machine' model' inputs' clocks' leaves' outputs' latches'
same_source machine machine' model model' inputs inputs' clocks clocks' leaves leaves' outputs outputs' latches latches' m n i c d o l =
    ap (λ (x : Machine). source_with x model inputs clocks leaves outputs latches) m
    ∙ ap (λ (x : Name). source_with machine' x inputs clocks leaves outputs latches) n
    ∙ ap (λ (x : List Name). source_with machine' model' x clocks leaves outputs latches) i
    ∙ ap (λ (x : List Name). source_with machine' model' inputs' x leaves outputs latches) c
    ∙ ap (λ (x : List Name). source_with machine' model' inputs' clocks' x outputs latches) d
    ∙ ap (λ (x : List Name). source_with machine' model' inputs' clocks' leaves' x latches) o
    ∙ ap (λ (x : List Name). source_with machine' model' inputs' clocks' leaves' outputs' x) l

-- names by their numbers
pub names_of : (all : List Name) (items ids : List NameId) (ns : List Name) → items ≡ ids → AreNumbers all ids ns → map (name_at all) items ≡ ns
names_of all items ids ns e at = ap (map (name_at all)) e ∙ each ids ns at
  where
    each : (ids : List NameId) (ns : List Name) → AreNumbers all ids ns → map (name_at all) ids ≡ ns
    each [] [] h = refl
    each [] (n ∷ ns) h = absurd h
    each (id ∷ ids) [] h = absurd h
    each (id ∷ ids) (n ∷ ns) h = ap₂ (λ (x : Name) (xs : List Name). x ∷ xs) (get_or_from_slice_get all id.0 n [] h.0) (each ids ns h.1)

pub ids_of : (all : List Name) (items ids : List NameId) (ns : List Name) → items ≡ ids → AreNumbers all ids ns → All (IsIdOf all) items
ids_of all items ids ns e at = subst (λ (l : List NameId). All (IsIdOf all) l) (sym e) (All-from_recursion (IsIdOf all) ids (each ids ns at))
  where
    each : (ids : List NameId) (ns : List Name) → AreNumbers all ids ns → AllByRecursion (IsIdOf all) ids
    each [] [] h = tt
    each [] (n ∷ ns) h = absurd h
    each (id ∷ ids) [] h = absurd h
    each (id ∷ ids) (n ∷ ns) h = (slice_get_within all id.0 n h.0, each ids ns h.1)

pub no_ids : (all : List Name) → All (IsIdOf all) []
no_ids all k d inside = absurd (omega arith)

-- an output with a cell of its own, and one that is a leaf
own_cell : (names : List Name) (n : Name) (k : ℕ) → stands_in n names ≡ false → length names ≤ k → (i : ℕ) → i < length names → (k ≡ i) ↔ (slice_get names i ≡ Some n)
own_cell names n k absent high i inside = (λ e. absurd (omega arith), λ at. absurd (let there = stands_in-at names i n at in cc (there, absent)))

a_leaf : (names : List Name) (n : Name) (k : ℕ) → are_distinct names ≡ true → slice_get names k ≡ Some n → (i : ℕ) → i < length names → (k ≡ i) ↔ (slice_get names i ≡ Some n)
a_leaf names n k distinct here i inside = (λ e. subst (λ (j : ℕ). slice_get names j ≡ Some n) e here, λ at. one_place names k i n distinct here at)

abbrev pub inverter_machine : Machine
inverter_machine = record { net = record { leaves = 1; gates = one true 0 ∷ [] }; inputs = 1; latches = []; outputs = 1 ∷ [] }

pub inverter_form : HasElaboratedForm (source_with inverter_machine (codes "inv") (codes "a" ∷ []) [] (codes "a" ∷ []) (codes "y" ∷ []) [])
inverter_form =
    record {
      well_formed = record { gates = (lit< tt, tt); leaves = refl; stores = tt; outputs = (lit< tt, tt) };
      inputs = refl;
      outputs = refl;
      latches = refl;
      data_inputs = refl;
      leaves = (own_cell (codes "a" ∷ []) (codes "y") 1 refl (lit≤ tt), tt);
      control = tt;
      clocking = λ e. refl;
      words = (record { is_name = (lit< tt, lit≤ tt); bytes = refl }, (record { is_name = (lit< tt, lit≤ tt); bytes = refl }, tt));
      free = (refl, (refl, tt));
      model = (record { is_name = (lit< tt, lit≤ tt); bytes = refl }, refl);
      drivers = refl;
      input_ports = refl;
      clock_ports = refl;
      output_ports = refl;
      clocks_unread = (refl, tt);
      few_inputs = (lit≤ tt, lit≤ tt, lit≤ tt);
      few_outputs = lit≤ tt;
      few_latches = lit≤ tt;
      few_gates = lit≤ tt;
    }

abbrev pub counter_machine : Machine
counter_machine =
    record {
      net = record { leaves = 4; gates = one true 0 ∷ two 6 0 1 ∷ two 8 0 1 ∷ two 6 6 2 ∷ two 8 6 2 ∷ two 6 8 3 ∷ [] };
      inputs = 0;
      latches = record { d = 4; init = false } ∷ record { d = 5; init = false } ∷ record { d = 7; init = false } ∷ record { d = 9; init = false } ∷ [];
      outputs = 0 ∷ 1 ∷ 2 ∷ 3 ∷ [];
    }

abbrev pub bit_names : List Name
bit_names = codes "a0" ∷ codes "a1" ∷ codes "a2" ∷ codes "a3" ∷ []

pub counter_form : HasElaboratedForm (source_with counter_machine (codes "counter") [] [] [] bit_names bit_names)
counter_form =
    record {
      well_formed = record {
        gates = (lit< tt, ((lit< tt, lit< tt, lit< tt), ((lit< tt, lit< tt, lit< tt), ((lit< tt, lit< tt, lit< tt), ((lit< tt, lit< tt, lit< tt), ((lit< tt, lit< tt, lit< tt), tt))))));
        leaves = refl;
        stores = (lit< tt, (lit< tt, (lit< tt, (lit< tt, tt))));
        outputs = (lit< tt, (lit< tt, (lit< tt, (lit< tt, tt))));
      };
      inputs = refl;
      outputs = refl;
      latches = refl;
      data_inputs = refl;
      leaves = (a_leaf bit_names (codes "a0") 0 refl refl, (a_leaf bit_names (codes "a1") 1 refl refl, (a_leaf bit_names (codes "a2") 2 refl refl, (a_leaf bit_names (codes "a3") 3 refl refl, tt))));
      control = tt;
      clocking = λ e. refl;
      words = (record { is_name = (lit< tt, lit≤ tt); bytes = refl }, (record { is_name = (lit< tt, lit≤ tt); bytes = refl }, (record { is_name = (lit< tt, lit≤ tt); bytes = refl }, (record { is_name = (lit< tt, lit≤ tt); bytes = refl }, (record { is_name = (lit< tt, lit≤ tt); bytes = refl }, (record { is_name = (lit< tt, lit≤ tt); bytes = refl }, (record { is_name = (lit< tt, lit≤ tt); bytes = refl }, (record { is_name = (lit< tt, lit≤ tt); bytes = refl }, tt))))))));
      free = (refl, (refl, (refl, (refl, (refl, (refl, (refl, (refl, tt))))))));
      model = (record { is_name = (lit< tt, lit≤ tt); bytes = refl }, refl);
      drivers = refl;
      input_ports = refl;
      clock_ports = refl;
      output_ports = refl;
      clocks_unread = (refl, (refl, (refl, (refl, tt))));
      few_inputs = (lit≤ tt, lit≤ tt, lit≤ tt);
      few_outputs = lit≤ tt;
      few_latches = lit≤ tt;
      few_gates = lit≤ tt;
    }
