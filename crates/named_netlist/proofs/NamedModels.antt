-- The model of the file that a gate list is written as: its nets by name.
use Rattle.std.proofs.Common.{◌≡◌, refl, sym, ◌∙◌, ap, ap₂, ℕ, ◌+◌, List, [], ◌∷◌, ◌++◌, length, map, filter, take, Bool, true, false, ◌||◌, not, append-nil}
use Rattle.std.specs.List.{flat_map, enumerate_from}
use Rattle.std.proofs.lemmas.List.{take-map}
use Rattle.std.proofs.lemmas.List.Elements.{filter_agree}
use Rattle.netlist_spec.specs.Netlist.{Name, same_name, stands_in, Clocking, plain}
use Rattle.netlist_spec.specs.Reads.{control_nets}
use Rattle.netlist_spec.specs.Models.{Latch, latches_of, clock_nets, data_inputs}
use Rattle.netlist_spec.specs.Gates.{LatchRow}
use Rattle.netlist_spec.specs.Written.{Named, IsNamed, given, label_name, named_clocks}
use Rattle.gate_net.specs.Written.{HasOwnNames}
use Rattle.named_netlist.proofs.WrittenModel.{written_model}
use Rattle.named_netlist.proofs.NamedFiles.{names-back, latch_at, numbered_latches, latches-of}

-- whether a name stands in two lists
pub stands_in-append : (n : Name) (xs ys : List Name) → stands_in n (xs ++ ys) ≡ (stands_in n xs || stands_in n ys)
stands_in-append n [] ys = refl
stands_in-append n (x ∷ xs) ys = ap (λ (b : Bool). same_name n x || b) (stands_in-append n xs ys) ∙ sym (grouped (same_name n x) (stands_in n xs) (stands_in n ys))
  where
    grouped : (a b c : Bool) → ((a || b) || c) ≡ (a || (b || c))
    grouped true b c = refl
    grouped false b c = refl

twice : (a : Bool) → (a || a) ≡ a
twice true = refl
twice false = refl

abbrev pub first_statement : Named → ℕ
first_statement g = ((3 + length g.inputs) + length g.outputs) + length g.clocks

module _ (g : Named) where
  -- the controls of the latches are the one control
  abbrev controls : List Latch → List Name
  controls ls = flat_map (λ l. control_nets l.clocking) ls

  some_controls : (n : Name) (a : ℕ) (r : LatchRow) (ls : List LatchRow) → stands_in n (controls (map (latch_at g) (enumerate_from a (r ∷ ls)))) ≡ stands_in n (control_nets g.clocking)
  some_controls n a r [] = ap (stands_in n) (append-nil (control_nets g.clocking))
  some_controls n a r (k ∷ ls) =
      stands_in-append n (control_nets g.clocking) (controls (map (latch_at g) (enumerate_from (a + 1) (k ∷ ls))))
      ∙ (ap (λ (b : Bool). stands_in n (control_nets g.clocking) || b) (some_controls n (a + 1) k ls) ∙ twice (stands_in n (control_nets g.clocking)))

  all_controls : (n : Name) (a : ℕ) (ls : List LatchRow) → (ls ≡ [] → g.clocking ≡ plain) → stands_in n (controls (map (latch_at g) (enumerate_from a ls))) ≡ stands_in n (control_nets g.clocking)
  all_controls n a [] h = ap (λ (c : Clocking). stands_in n (control_nets c)) (sym (h refl))
  all_controls n a (r ∷ ls) h = some_controls n a r ls

  labels_back : (ns : List Name) → map label_name (map (λ n. given n) ns) ≡ ns
  labels_back [] = refl
  labels_back (n ∷ ns) = ap (λ (rest : List Name). n ∷ rest) (labels_back ns)

  module _ (named : IsNamed g) where
    pub same-latches : latches_of (written_model g) ≡ map (latch_at g) (numbered_latches g)
    same-latches = latches-of g named (first_statement g)

    same_clocks : (n : Name) → stands_in n (clock_nets (written_model g)) ≡ stands_in n (named_clocks g)
    same_clocks n =
        ap₂ (λ (xs ys : List Name). stands_in n (xs ++ ys)) (names-back ((3 + length g.inputs) + length g.outputs) g.clocks) (ap controls same-latches)
        ∙ stands_in-append n g.clocks (controls (map (latch_at g) (numbered_latches g)))
        ∙ ap (λ (b : Bool). stands_in n g.clocks || b) (all_controls n g.data_inputs g.latches named.clocking)
        ∙ sym (stands_in-append n g.clocks (control_nets g.clocking))

    -- the data inputs are the inputs that are no clock nets, and the first nets
    pub kept-inputs : data_inputs (written_model g) ≡ filter (λ n. not (stands_in n (named_clocks g))) g.inputs
    kept-inputs =
        ap (filter (λ n. not (stands_in n (clock_nets (written_model g))))) (names-back 3 g.inputs)
        ∙ filter_agree (λ n. not (stands_in n (clock_nets (written_model g)))) (λ n. not (stands_in n (named_clocks g))) (λ n. ap not (same_clocks n)) g.inputs

    pub first-names : take g.data_inputs (map label_name g.labels) ≡ filter (λ n. not (stands_in n (named_clocks g))) g.inputs
    first-names =
        take-map label_name g.data_inputs g.labels ∙ ap (map label_name) named.first_labels
        ∙ labels_back (filter (λ n. not (stands_in n (named_clocks g))) g.inputs)

    pub first-inputs : data_inputs (written_model g) ≡ take g.data_inputs (map label_name g.labels)
    first-inputs = kept-inputs ∙ sym first-names

    pub own-names : HasOwnNames g
    own-names =
        record {
          machine = record { gates = named.gates; leaves = named.leaves; stores = named.stores; outputs = named.outputs };
          labels = named.labels;
          apart = named.distinct;
          inputs = first-inputs;
        }
