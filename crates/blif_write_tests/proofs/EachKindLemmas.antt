-- The gate list with a gate of each kind, as the tests build it.
use Rattle.std.proofs.Common.{◌≡◌, ◌≢◌, ℕ, List, [], ◌∷◌, codes, map, slice_get, Some, true, false, refl, sym, subst, All, lit<, lit≤}
use Rattle.std.specs.Cmp.Lexicographic.{bytes_decides}
use Rattle.std.specs.Fmt.{digits}
use Rattle.std.proofs.lemmas.Option.{get_or_from_slice_get, slice_get_within}
use Rattle.netlist_spec.specs.Netlist.{Name, IsWordName, Clocking, edge}
use Rattle.netlist_spec.specs.Gates.{GateList, constant, one, two, LatchRow}
use Rattle.netlist_spec.specs.Written.{Label, given, store, next, check, rail, inner, Named, IsNamed}
use Rattle.imp_text.specs.declared.names.NameId.{NameId}
use Rattle.blif_read.specs.Ids.{IsIdOf}
use Rattle.blif_read.specs.View.{name_at}
use Rattle.named_netlist.specs.Labels.{label_of, ids_in}
use Rattle.named_netlist.specs.declared.label.Label.{Label as NetLabel}
use Rattle.named_netlist.specs.declared.label.Label.TheVariants.{Given, Store, Next, Check, Rail, Inner}
use Rattle.blif_read.proofs.SpelledLemmas.{all-at}

abbrev pub bit_name : Name
bit_name = codes "q[0]$"

-- `a`, a backslash, `b` and the byte 255
abbrev pub last_name : Name
last_name = 97 ∷ 92 ∷ 98 ∷ 255 ∷ []

-- `each`, a backslash and `kind`
abbrev pub kind_name : Name
kind_name = 101 ∷ 97 ∷ 99 ∷ 104 ∷ 92 ∷ 107 ∷ 105 ∷ 110 ∷ 100 ∷ []

abbrev pub kinds_net : GateList
kinds_net = record { leaves = 2; gates = constant false ∷ constant true ∷ one false 0 ∷ one true 1 ∷ two 7 0 1 ∷ [] }

abbrev pub kinds_labels : List Label
kinds_labels = given bit_name ∷ store 0 12 ∷ next 1 0 ∷ check 0 2 ∷ rail 1 ∷ inner 10 ∷ given last_name ∷ []

abbrev pub kinds_rows : List LatchRow
kinds_rows = record { d = 5; init = true } ∷ []

abbrev pub kinds_with : Name → List Name → List Name → List ℕ → Clocking → GateList → List Label → List LatchRow → Named
kinds_with model inputs clocks outputs clocking net labels latches =
    record {
      model = model;
      unknown_inits = 12;
      inputs = inputs;
      clocks = clocks;
      outputs = outputs;
      clocking = clocking;
      net = net;
      labels = labels;
      latches = latches;
      data_inputs = 1;
    }

abbrev pub kinds_named : Named
kinds_named = kinds_with kind_name (codes "clk" ∷ bit_name ∷ []) [] (6 ∷ 0 ∷ []) (edge true (Some (codes "clk"))) kinds_net kinds_labels kinds_rows

clock_word : IsWordName (codes "clk")
clock_word = record { is_name = (lit< tt, lit≤ tt); bytes = refl }

bit_word : IsWordName bit_name
bit_word = record { is_name = (lit< tt, lit≤ tt); bytes = refl }

last_word : IsWordName last_name
last_word = record { is_name = (lit< tt, lit≤ tt); bytes = refl }

another : codes "clk" ≢ codes "NIL"
another e = let t : false ≡ true = (bytes_decides (codes "clk") (codes "NIL")).1 e in cc t

kinds_are : IsNamed kinds_named
unfolding digits
kinds_are =
    record {
      gates = (tt, (tt, (lit< tt, (lit< tt, ((lit< tt, lit< tt, lit< tt), tt)))));
      leaves = refl;
      labels = refl;
      distinct = refl;
      first_labels = refl;
      no_clock = (refl, (refl, (refl, (refl, (refl, (refl, (refl, tt)))))));
      inputs = refl;
      clocks = refl;
      control = (refl, another);
      clocking = λ e. cc e;
      outputs = (lit< tt, (lit< tt, tt));
      once = refl;
      stores = (lit< tt, tt);
      model = (record { is_name = (lit< tt, lit≤ tt); bytes = refl }, refl);
      words = (bit_word, (last_word, (clock_word, (bit_word, (clock_word, tt)))));
      free = (refl, (refl, (refl, (refl, (refl, tt)))));
      limits = record {
        models = (
          record {
            covers = (tt, (lit≤ tt, (lit≤ tt, (lit≤ tt, (lit≤ tt, (lit≤ tt, tt))))));
            inputs = lit≤ tt;
            outputs = lit≤ tt;
            clocks = lit≤ tt;
            latches = lit≤ tt;
          },
          tt,
        );
        statements = lit≤ tt;
      };
    }

pub kinds-with : (model : Name) (inputs clocks : List Name) (outputs : List ℕ) (clocking : Clocking) (net : GateList) (labels : List Label) (latches : List LatchRow)
    → model ≡ kind_name → inputs ≡ codes "clk" ∷ bit_name ∷ [] → clocks ≡ [] → outputs ≡ 6 ∷ 0 ∷ [] → clocking ≡ edge true (Some (codes "clk")) → net ≡ kinds_net → labels ≡ kinds_labels → latches ≡ kinds_rows
    → IsNamed (kinds_with model inputs clocks outputs clocking net labels latches)
kinds-with model inputs clocks outputs clocking net labels latches m i c o k n l r = subst IsNamed (λ j. kinds_with (sym m j) (sym i j) (sym c j) (sym o j) (sym k j) (sym n j) (sym l j) (sym r j)) kinds_are

-- the three numbers of names
pub record HaveNames (all : List Name) (clock bit last : NameId) : Type 0 where
  pub is_clock : slice_get all clock.0 ≡ Some (codes "clk")
  pub is_bit : slice_get all bit.0 ≡ Some bit_name
  pub is_last : slice_get all last.0 ≡ Some last_name

module _ (all : List Name) (clock bit last : NameId) (h : HaveNames all clock bit last) where
  abbrev items_of : List NetLabel
  items_of = Given bit ∷ Store 0 12 ∷ Next 1 0 ∷ Check 0 2 ∷ Rail 1 ∷ Inner 10 ∷ Given last ∷ []

  clock_is : name_at all clock ≡ codes "clk"
  clock_is = get_or_from_slice_get all clock.0 (codes "clk") [] h.is_clock

  bit_is : name_at all bit ≡ bit_name
  bit_is = get_or_from_slice_get all bit.0 bit_name [] h.is_bit

  last_is : name_at all last ≡ last_name
  last_is = get_or_from_slice_get all last.0 last_name [] h.is_last

  pub control-is : Some (name_at all clock) ≡ Some (codes "clk")
  control-is = λ i. Some (clock_is i)

  pub inputs-named : (items : List NameId) → items ≡ clock ∷ bit ∷ [] → map (name_at all) items ≡ codes "clk" ∷ bit_name ∷ []
  inputs-named items e = subst (λ (l : List NameId). map (name_at all) l ≡ codes "clk" ∷ bit_name ∷ []) (sym e) (λ i. clock_is i ∷ bit_is i ∷ [])

  pub labels-named : (items : List NetLabel) → items ≡ items_of → map (label_of all) items ≡ kinds_labels
  labels-named items e =
      subst (λ (l : List NetLabel). map (label_of all) l ≡ kinds_labels) (sym e)
      (λ i. given (bit_is i) ∷ store 0 12 ∷ next 1 0 ∷ check 0 2 ∷ rail 1 ∷ inner 10 ∷ given (last_is i) ∷ [])

  pub control-inside : All (IsIdOf all) (clock ∷ [])
  control-inside = all-at (IsIdOf all) (clock ∷ []) (slice_get_within all clock.0 _ h.is_clock, tt)

  pub inputs-inside : (items : List NameId) → items ≡ clock ∷ bit ∷ [] → All (IsIdOf all) items
  inputs-inside items e =
      subst (λ (l : List NameId). All (IsIdOf all) l) (sym e)
      (all-at (IsIdOf all) (clock ∷ bit ∷ []) (slice_get_within all clock.0 _ h.is_clock, (slice_get_within all bit.0 _ h.is_bit, tt)))

  no_ids : All (IsIdOf all) []
  no_ids = all-at (IsIdOf all) [] tt

  pub labels-inside : (items : List NetLabel) → items ≡ items_of → All (λ (l : NetLabel). All (IsIdOf all) (ids_in l)) items
  labels-inside items e =
      subst (λ (l : List NetLabel). All (λ (x : NetLabel). All (IsIdOf all) (ids_in x)) l) (sym e)
      (all-at (λ (x : NetLabel). All (IsIdOf all) (ids_in x)) items_of (
        all-at (IsIdOf all) (bit ∷ []) (slice_get_within all bit.0 _ h.is_bit, tt),
        (no_ids, (no_ids, (no_ids, (no_ids, (no_ids, (all-at (IsIdOf all) (last ∷ []) (slice_get_within all last.0 _ h.is_last, tt), tt)))))),
      ))
