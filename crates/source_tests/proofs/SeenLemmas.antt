-- Declarations that are passed one by one, and what they drive or declare again.
use Rattle.std.proofs.Common.{◌≡◌, refl, sym, ◌∙◌, ap, ap₂, ℕ, ◌+◌, ◌<◌, ◌≤◌, List, [], ◌∷◌, ◌++◌, length, map, take, drop, get_or, Bool, true, false, ◌||◌, Option, Some, None, IfNone, add-one, drop-cons}
use Rattle.std.specs.Bool.{then_some}
use Rattle.std.specs.Option.{option_or}
use Rattle.std.proofs.lemmas.List.{drop_all}
use Rattle.netlist_spec.specs.Covers.{Library}
use Rattle.netlist_spec.specs.FileOrder.{Item, an_input, an_output, a_clock, a_statement, declared_input, declared_output, declared_clock, inputs_among, outputs_among, clocks_among}
use Rattle.netlist_spec.specs.Netlist.{Name, same_name, stands_in, Statement, Model, File}
use Rattle.netlist_spec.specs.Sound.{drives}
use Rattle.netlist_spec.specs.SoundFaults.{driven_at, driven_among, first_repeated}
use Rattle.imp_text.specs.declared.names.NameId.{NameId}
use Rattle.imp_text.proofs.NamesLemmas.{stands_in-append}
use Rattle.blif_read.specs.View.{name_at}
use Rattle.line_order.specs.Marks.{Marks}
use Rattle.line_order.proofs.TableLemmas.{more_among, no_more}
use Rattle.source_tests.specs.declared.twice.Seen.{Seen}
use Rattle.source_tests.specs.Seen.{AreSeen}
use Rattle.source_tests.proofs.NetLemmas.{map_more}

pub if_none : {A : Type 0} (o : Option A) (P Q : Type 0) → (P → Q) → IfNone o P → IfNone o Q
if_none None P Q f p = f p
if_none (Some x) P Q f p = p

pub always : {A : Type 0} (o : Option A) (P : Type 0) → P → IfNone o P
always None P p = p
always (Some x) P p = tt

-- ---- one more declaration

module _ (file : File) (library : Library) (m : Model) (passed : List Item) (seen : Seen) (a : AreSeen file library m passed seen) (line : ℕ) where
  pub pass_input : (n : Name) (inputs : List Bool) → Marks m.names inputs (inputs_among passed ++ n ∷ []) → AreSeen file library m (passed ++ record { line = line; what = an_input n } ∷ []) (record seen { inputs = inputs })
  pass_input n inputs k =
      let i : Item = record { line = line; what = an_input n } in
      record {
        inputs = more_among m.names inputs declared_input passed i k;
        outputs = no_more m.names seen.outputs [] declared_output passed i refl a.outputs;
        clocks = no_more m.names seen.clocks [] declared_clock passed i refl a.clocks;
        driven = no_more m.names seen.driven [] (driven_at file library) passed i refl a.driven;
      }

  pub pass_output : (n : Name) (outputs : List Bool) → Marks m.names outputs (outputs_among passed ++ n ∷ []) → AreSeen file library m (passed ++ record { line = line; what = an_output n } ∷ []) (record seen { outputs = outputs })
  pass_output n outputs k =
      let i : Item = record { line = line; what = an_output n } in
      record {
        inputs = no_more m.names seen.inputs [] declared_input passed i refl a.inputs;
        outputs = more_among m.names outputs declared_output passed i k;
        clocks = no_more m.names seen.clocks [] declared_clock passed i refl a.clocks;
        driven = no_more m.names seen.driven [] (driven_at file library) passed i refl a.driven;
      }

  pub pass_clock : (n : Name) (clocks : List Bool) → Marks m.names clocks (clocks_among passed ++ n ∷ []) → AreSeen file library m (passed ++ record { line = line; what = a_clock n } ∷ []) (record seen { clocks = clocks })
  pass_clock n clocks k =
      let i : Item = record { line = line; what = a_clock n } in
      record {
        inputs = no_more m.names seen.inputs [] declared_input passed i refl a.inputs;
        outputs = no_more m.names seen.outputs [] declared_output passed i refl a.outputs;
        clocks = more_among m.names clocks declared_clock passed i k;
        driven = no_more m.names seen.driven [] (driven_at file library) passed i refl a.driven;
      }

  pub pass_statement : (s : Statement) (driven : List Bool) → Marks m.names driven (driven_among file library passed ++ drives file library s)
      → AreSeen file library m (passed ++ record { line = line; what = a_statement s } ∷ []) (record seen { driven = driven })
  pass_statement s driven k =
      let i : Item = record { line = line; what = a_statement s } in
      record {
        inputs = no_more m.names seen.inputs [] declared_input passed i refl a.inputs;
        outputs = no_more m.names seen.outputs [] declared_output passed i refl a.outputs;
        clocks = no_more m.names seen.clocks [] declared_clock passed i refl a.clocks;
        driven = more_among m.names driven (driven_at file library) passed i k;
      }

-- ---- the first name that stands twice

-- Which names are among others decides, and not their order.
pub same_repeated : (a b : List Name) → ((k : Name) → stands_in k a ≡ stands_in k b) → (ns : List Name) → first_repeated a ns ≡ first_repeated b ns
same_repeated a b same [] = refl
same_repeated a b same (n ∷ ns) =
    ap₂ (λ (t : Bool) (o : Option Name). option_or (then_some t n) o) (same n) (same_repeated (n ∷ a) (n ∷ b) (λ k. ap (λ (t : Bool). same_name k n || t) (same k)) ns)

module _ (all ins cs ds : List Name) (nets : List NameId) (i : ℕ) where
  abbrev pub others : List Name
  others = ins ++ cs ++ (ds ++ map (name_at all) (take i nets))

  -- whether a name stands in the three parts
  pub stands_in_parts : (n : Name) → stands_in n others ≡ ((stands_in n ins || stands_in n cs) || stands_in n (ds ++ map (name_at all) (take i nets)))
  stands_in_parts n = stands_in-append n (ins ++ cs) (ds ++ map (name_at all) (take i nets)) ∙ ap (λ t. t || stands_in n (ds ++ map (name_at all) (take i nets))) (stands_in-append n ins cs)

  one_net : (d : NameId) → i < length nets
      → first_repeated others (map (name_at all) (drop i nets))
      ≡ option_or (then_some (stands_in (name_at all (get_or nets i d)) others) (name_at all (get_or nets i d))) (first_repeated (name_at all (get_or nets i d) ∷ others) (map (name_at all) (drop (i + 1) nets)))
  one_net d h =
      ap (λ ids. first_repeated others (map (name_at all) ids)) (drop-cons nets i d h ∙ ap (λ (k : ℕ). get_or nets i d ∷ drop k nets) (sym (add-one i)))

  pub repeated_here : (d : NameId) → i < length nets → stands_in (name_at all (get_or nets i d)) others ≡ true
      → first_repeated others (map (name_at all) (drop i nets)) ≡ Some (name_at all (get_or nets i d))
  repeated_here d h twice =
      let n = name_at all (get_or nets i d) in
      one_net d h ∙ ap (λ t. option_or (then_some t n) (first_repeated (n ∷ others) (map (name_at all) (drop (i + 1) nets)))) twice

  pub repeated_nowhere : length nets ≤ i → first_repeated others (map (name_at all) (drop i nets)) ≡ None
  repeated_nowhere h = ap (λ ids. first_repeated others (map (name_at all) ids)) (drop_all i nets h)

  pub repeated_later : (d : NameId) → i < length nets → stands_in (name_at all (get_or nets i d)) others ≡ false
      → first_repeated (ins ++ cs ++ (ds ++ map (name_at all) (take (i + 1) nets))) (map (name_at all) (drop (i + 1) nets)) ≡ first_repeated others (map (name_at all) (drop i nets))
  repeated_later d h new =
      let n = name_at all (get_or nets i d) in
      let later = map (name_at all) (drop (i + 1) nets) in
      sym (one_net d h ∙ ap (λ t. option_or (then_some t n) (first_repeated (n ∷ others) later)) new
      ∙ same_repeated (n ∷ others) (ins ++ cs ++ (ds ++ map (name_at all) (take (i + 1) nets)))
      (λ k. in_order (stands_in k ins || stands_in k cs) (stands_in k ds) (stands_in k (map (name_at all) (take i nets))) (same_name k n) _ _
      (stands_in_parts k ∙ ap (λ t. (stands_in k ins || stands_in k cs) || t) (stands_in-append k ds (map (name_at all) (take i nets))))
      (stands_in-append k (ins ++ cs) (ds ++ map (name_at all) (take (i + 1) nets))
      ∙ ap₂ (λ (s t : Bool). s || t) (stands_in-append k ins cs)
      (stands_in-append k ds (map (name_at all) (take (i + 1) nets))
      ∙ ap (λ t. stands_in k ds || t) (ap (stands_in k) (map_more (name_at all) nets i d h) ∙ stands_in-append k (map (name_at all) (take i nets)) (n ∷ [])))))
      later)
    where
      in_order : (p d t n whole more : Bool) → whole ≡ (p || (d || t)) → more ≡ (p || (d || (t || (n || false)))) → (n || whole) ≡ more
      in_order p d t n whole more e f = ap (λ (w : Bool). n || w) e ∙ (turned p d t n ∙ sym f)
        where
          turned : (p d t n : Bool) → (n || (p || (d || t))) ≡ (p || (d || (t || (n || false))))
          turned true d t true = refl
          turned true d t false = refl
          turned false true t true = refl
          turned false true t false = refl
          turned false false true true = refl
          turned false false true false = refl
          turned false false false true = refl
          turned false false false false = refl
