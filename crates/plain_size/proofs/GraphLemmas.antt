-- The nodes and edges that are found are the cone graph of the source.
use Rattle.std.proofs.Common.{◌≡◌, ◌⊎◌, inl, inr, refl, sym, ◌∙◌, ap, subst, ℕ, zero, suc, ◌+◌, ◌-◌, ◌<◌, ◌≤◌, Bool, true, false, List, [], ◌∷◌, ◌++◌, length, map, filter_map, get_or, replicate, arith, All, Contains, Option, Some, None, slice_get}
use Rattle.std.specs.Prelude.{IsTrue, ◌↔◌, option_map}
use Rattle.std.specs.List.{AllByRecursion, cons_option}
use Rattle.std.proofs.lemmas.Bool.{cases_lt}
use Rattle.std.proofs.lemmas.List.{length-map, length-append, length-replicate, get_or-map, get_or_append_left, get_or-append_right, get_or_past, get_or-replicate}
use Rattle.std.proofs.lemmas.List.Elements.{All-from_recursion, All-contains, All-nil, All-cons, All-append, All-map, All-replicate}
use Rattle.std.proofs.lemmas.Option.{slice_get_within, slice_get-get_or, slice_get-map, get_or_from_slice_get, same_Some}
use Rattle.imp_text.specs.declared.names.NameId.{NameId}
use Rattle.imp_text.proofs.NamesLemmas.{same_name-true, same_name_self}
use Rattle.netlist_spec.specs.Netlist.{Name, same_name, stands_in, are_distinct, Statement, Located, File}
use Rattle.netlist_spec.specs.Covers.{Library}
use Rattle.netlist_spec.specs.Models.{latch_outputs}
use Rattle.netlist_spec.specs.Sound.{combines, drives, reads, HasOneDriverEach}
use Rattle.netlist_spec.proofs.ListTests.{any_element, any_from}
use Rattle.guard_spec.specs.Words.{Words}
use Rattle.blif_read.specs.declared.file.Model.{Model as ReadModel}
use Rattle.blif_read.specs.declared.file.Located.{Located as ReadLocated}
use Rattle.blif_read.specs.declared.file.Statement.{Statement as ReadStatement}
use Rattle.blif_read.specs.declared.file.Statement.TheVariants.{Names, Latch, Subckt}
use Rattle.blif_read.specs.Ids.{IsIdOf}
use Rattle.blif_read.specs.View.{located_of, model_of, name_at, statement_of}
use Rattle.net_graph.specs.Chains.{IsGraph, ends_of}
use Rattle.net_graph.proofs.MarkLemmas.{none_among}
use Rattle.source_nets.specs.declared.types.ModelSurvey.{ModelSurvey}
use Rattle.source_nets.specs.Survey.{IsModelSurvey}
use Rattle.source_laws.proofs.Lists.{among, standing}
use Rattle.source_laws.proofs.Drivers.{latch_is_not_combined}
use Rattle.size_laws.specs.ConeMarks.{statements_of}
use Rattle.size_laws.proofs.Lists.{contains_at, contains_cases, contains_tail, element_at}
use Rattle.plain_size.specs.Nodes.{AreNodes, numbers, node_at, combines_in, driven_by, lead_of}
use Rattle.plain_size.specs.Edges.{ends_in}
use Rattle.plain_size.specs.Cones.{IsConeGraph, StandOnce, node_of}
use Rattle.plain_size.proofs.ConeLemmas.{node_named, node_found}
use Rattle.plain_size.proofs.NodeLemmas.{driven_at, driven_nowhere, leads_first, leads_behind}
use Rattle.plain_size.proofs.OnceLemmas.{one_driver_place, one_latch_place}

-- ---- lists

map_has : {A B : Type 0} (f : A → B) (xs : List A) (y : B) → Contains (map f xs) y → (x : A) × Contains xs x × (f x ≡ y)
map_has f [] y c = absurd (none_among y c)
map_has f (x ∷ xs) y (zero, h, e) = (x, (0, omega arith, refl), e)
map_has f (x ∷ xs) y (suc k, h, e) = let (z, c, f') = map_has f xs y (k, omega arith, e) in (z, contains_tail x z xs c, f')

has_map : {A B : Type 0} (f : A → B) (xs : List A) (x : A) → Contains xs x → Contains (map f xs) (f x)
has_map f [] x c = absurd (none_among x c)
has_map {B = B} f (y ∷ xs) x (zero, h, e) = (0, omega arith, ap f e)
has_map f (y ∷ xs) x (suc k, h, e) = contains_tail (f y) (f x) (map f xs) (has_map f xs x (k, omega arith, e))

kept_has : {A B : Type 0} (h : A → Option B) (xs : List A) (y : B) → Contains (filter_map h xs) y → (x : A) × Contains xs x × (h x ≡ Some y)
kept_has h [] y c = absurd (none_among y c)
kept_has {A = A} {B = B} h (x ∷ xs) y c = by_value (h x) refl c (kept_has h xs y)
  where
    by_value : (o : Option B) → h x ≡ o → Contains (cons_option o (filter_map h xs)) y → (Contains (filter_map h xs) y → (z : A) × Contains xs z × (h z ≡ Some y)) → (z : A) × Contains (x ∷ xs) z × (h z ≡ Some y)
    by_value None e c later = let (z, d, f) = later c in (z, contains_tail x z xs d, f)
    by_value (Some w) e c later = elim (contains_cases w y (filter_map h xs) c) [
      | inl same ↦ (x, (0, omega arith, refl), e ∙ ap (λ (v : B). Some v) same)
      | inr d ↦ (let (z, d', f) = later d in (z, contains_tail x z xs d', f))
    ]

has_kept : {A B : Type 0} (h : A → Option B) (xs : List A) (x : A) (y : B) → Contains xs x → h x ≡ Some y → Contains (filter_map h xs) y
has_kept h [] x y c e = absurd (none_among x c)
has_kept {B = B} h (z ∷ xs) x y (zero, l, same) e = subst (λ (o : Option B). Contains (cons_option o (filter_map h xs)) y) (sym (ap h same ∙ e)) (0, omega arith, refl)
has_kept {B = B} h (z ∷ xs) x y (suc k, l, same) e = behind (h z) (has_kept h xs x y (k, omega arith, same) e)
  where
    behind : (o : Option B) → Contains (filter_map h xs) y → Contains (cons_option o (filter_map h xs)) y
    behind None c = c
    behind (Some w) c = contains_tail w y (filter_map h xs) c

-- names that stand in a list of names of nets
named_in : (all : List Name) (row : List NameId) (n : Name) → IsTrue (stands_in n (map (name_at all) row)) → (id : NameId) × Contains row id × (name_at all id ≡ n)
named_in all row n h =
    let (k, c, e) = any_element (same_name n) (map (name_at all) row) h in
    let (id, d, f) = map_has (name_at all) row k c in
    (id, d, f ∙ sym (same_name-true n k e))

in_named : (all : List Name) (row : List NameId) (id : NameId) → Contains row id → IsTrue (stands_in (name_at all id) (map (name_at all) row))
in_named all row id c = any_from (same_name (name_at all id)) (map (name_at all) row) (name_at all id) (has_map (name_at all) row id c) (same_name_self (name_at all id))

same_combines : (all : List Name) (s : ReadStatement) → combines (statement_of all s) ≡ combines_in s
same_combines all (Names ins out cover) = refl
same_combines all (Latch d q clocking init) = refl
same_combines all (Subckt model binds) = refl

-- a statement as it was read, with the nets that it drives and reads
pub record IsRead (file : File) (library : Library) (m : ReadModel) (survey : ModelSurvey) (j : ℕ) (s : Statement) : Type 0 where
  pub what : ReadLocated
  pub at : slice_get m.statements.items j ≡ Some what
  pub same : statement_of m.names what.what ≡ s
  pub driven : List NameId
  pub driven_there : slice_get survey.drives j ≡ Some driven
  pub drives_is : map (name_at m.names) driven ≡ drives file library s
  pub read : List NameId
  pub read_there : slice_get survey.reads j ≡ Some read
  pub reads_is : map (name_at m.names) read ≡ reads file library s

-- an element of a list that is mapped to this
mapped_at : {A B : Type 0} (f : A → B) (xs : List A) (i : ℕ) (y : B) → slice_get (map f xs) i ≡ Some y → (x : A) × (slice_get xs i ≡ Some x) × (f x ≡ y)
mapped_at f [] i y e = cc e
mapped_at f (x ∷ xs) zero y e = (x, refl, same_Some (f x) y e)
mapped_at f (x ∷ xs) (suc i) y e = mapped_at f xs i y e

row_at : {A B C : Type 0} (f : A → C) (g : B → C) (xs : List A) (ys : List B) (i : ℕ) (y : B) → map f xs ≡ map g ys → slice_get ys i ≡ Some y → (x : A) × (slice_get xs i ≡ Some x) × (f x ≡ g y)
row_at {C = C} f g xs ys i y e at =
    mapped_at f xs i (g y) (ap (λ (l : List C). slice_get l i) e ∙ (slice_get-map g ys i ∙ ap (option_map g) at))

module _ (file : File) (library : Library) (m : ReadModel) (survey : ModelSurvey) (is : IsModelSurvey file library (model_of m) survey) where
  pub statement_count : length (statements_of (model_of m)) ≡ length m.statements.items
  statement_count = length-map (model_of m).statements (λ s. s.what) ∙ length-map m.statements.items (located_of m.names)

  pub read_statement : (j : ℕ) (s : Statement) → slice_get (statements_of (model_of m)) j ≡ Some s → IsRead file library m survey j s
  read_statement j s at =
      let (l, here, what) = mapped_at (λ (l : Located). l.what) (model_of m).statements j s at in
      let (r, there, same) = mapped_at (located_of m.names) m.statements.items j l here in
      let (d, d_at, d_is) = row_at (map (name_at m.names)) (λ (l : Located). drives file library l.what) survey.drives (model_of m).statements j l is.drives here in
      let (k, k_at, k_is) = row_at (map (name_at m.names)) (λ (l : Located). reads file library l.what) survey.reads (model_of m).statements j l is.reads here in
      record {
        what = r;
        at = there;
        same = ap (λ (l : Located). l.what) same ∙ what;
        driven = d;
        driven_there = d_at;
        drives_is = d_is ∙ ap (drives file library) what;
        read = k;
        read_there = k_at;
        reads_is = k_is ∙ ap (reads file library) what;
      }

  pub statement_there : (j : ℕ) → j < length m.statements.items → (s : Statement) × (slice_get (statements_of (model_of m)) j ≡ Some s)
  statement_there j h = element_at (statements_of (model_of m)) j (let e = statement_count in omega arith)

-- the nets that lead to nodes are those that statements drive and latches show
module _ (file : File) (library : Library) (m : ReadModel) (survey : ModelSurvey) (is : IsModelSurvey file library (model_of m) survey) (shown : List NameId) (words : Words)
    (shows : map (name_at m.names) shown ≡ latch_outputs (model_of m)) (ids : All (IsIdOf m.names) shown) (within : All (λ (w : List ℕ). All (λ i. i < length shown) w) words) where
  abbrev lead : ℕ → List ℕ
  lead = lead_of m survey shown words

  abbrev first : ℕ
  first = length m.statements.items

  -- a statement leads the nets that it drives, if it combines
  lead_driven : (j : ℕ) (s : Statement) (n : Name) → slice_get (statements_of (model_of m)) j ≡ Some s → IsTrue (combines s) → IsTrue (stands_in n (drives file library s)) → (k : ℕ) × (k < length m.names) × (get_or m.names k [] ≡ n) × Contains (lead j) k
  lead_driven j s n at c d =
      let r = read_statement file library m survey is j s at in
      let (id, there, named) = named_in m.names r.driven n (subst (λ (l : List Name). IsTrue (stands_in n l)) (sym r.drives_is) d) in
      let inside = slice_get_within m.statements.items j r.what r.at in
      let combine : combines_in r.what.what ≡ true = sym (same_combines m.names r.what.what) ∙ (ap combines r.same ∙ c) in
      let nets : lead j ≡ numbers r.driven = leads_first m survey shown words j inside ∙ driven_at m.statements.items survey.drives j r.what r.driven r.at r.driven_there combine in
      let rows = All-from_recursion (AllByRecursion (IsIdOf m.names)) survey.drives is.drives_within in
      let row = subst (λ (l : List NameId). AllByRecursion (IsIdOf m.names) l) (get_or_from_slice_get survey.drives j r.driven [] r.driven_there) (rows j [] (slice_get_within survey.drives j r.driven r.driven_there)) in
      (id.0, All-contains (IsIdOf m.names) r.driven id (All-from_recursion (IsIdOf m.names) r.driven row) there, named, subst (λ (l : List ℕ). Contains l id.0) (sym nets) (has_map (λ (i : NameId). i.0) r.driven id there))

  driven_lead : (j : ℕ) (s : Statement) (k : ℕ) → slice_get (statements_of (model_of m)) j ≡ Some s → Contains (lead j) k → IsTrue (combines s) × IsTrue (stands_in (get_or m.names k []) (drives file library s))
  driven_lead j s k at c =
      let r = read_statement file library m survey is j s at in
      let inside = slice_get_within m.statements.items j r.what r.at in
      by_kind r (combines_in r.what.what) refl (subst (λ (l : List ℕ). Contains l k) (leads_first m survey shown words j inside) c)
    where
      by_kind : (r : IsRead file library m survey j s) → (b : Bool) → combines_in r.what.what ≡ b → Contains (driven_by m.statements.items survey.drives j) k → IsTrue (combines s) × IsTrue (stands_in (get_or m.names k []) (drives file library s))
      by_kind r true e d =
          let (id, there, same) = map_has (λ (i : NameId). i.0) r.driven k (subst (λ (l : List ℕ). Contains l k) (driven_at m.statements.items survey.drives j r.what r.driven r.at r.driven_there e) d) in
          let named : name_at m.names id ≡ get_or m.names k [] = ap (λ (i : ℕ). get_or m.names i []) same in (
            sym (ap combines r.same) ∙ (same_combines m.names r.what.what ∙ e),
            subst (λ (n : Name). IsTrue (stands_in n (drives file library s))) named (subst (λ (l : List Name). IsTrue (stands_in (name_at m.names id) l)) r.drives_is (in_named m.names r.driven id there)),
          )
      by_kind r false e d = absurd (none_among k (subst (λ (l : List ℕ). Contains l k) (driven_nowhere m.statements.items survey.drives j r.what r.at e) d))

  shown_name : (i : ℕ) → i < length shown → slice_get (latch_outputs (model_of m)) i ≡ Some (get_or m.names (get_or (numbers shown) i 0) [])
  shown_name i h =
      let none : NameId = record { 0 = 0 } in
      let net : get_or (numbers shown) i 0 ≡ (get_or shown i none).0 = get_or-map (λ (id : NameId). id.0) shown i none 0 h in
      ap (λ (l : List Name). slice_get l i) (sym shows)
      ∙ (slice_get-map (name_at m.names) shown i ∙ (ap (option_map (name_at m.names)) (slice_get-get_or shown i none h) ∙ ap (λ (k : ℕ). Some (get_or m.names k [])) (sym net)))

  shown_within : (w : ℕ) (word : List ℕ) (i : ℕ) → slice_get words w ≡ Some word → Contains word i → i < length shown
  shown_within w word i at c =
      let all = subst (λ (l : List ℕ). All (λ k. k < length shown) l) (get_or_from_slice_get words w word [] at) (within w [] (slice_get_within words w word at)) in
      All-contains (λ k. k < length shown) word i all c

  -- a word leads the nets that its latches show
  lead_shown : (w i : ℕ) (word : List ℕ) → slice_get words w ≡ Some word → Contains word i → Contains (lead (first + w)) (get_or (numbers shown) i 0)
  lead_shown w i word at c =
      subst (λ (l : List ℕ). Contains l (get_or (numbers shown) i 0)) (sym (leads_behind m survey shown words w ∙ ap (λ (l : List ℕ). map (λ i. get_or (numbers shown) i 0) l) (get_or_from_slice_get words w word [] at)))
      (has_map (λ (k : ℕ). get_or (numbers shown) k 0) word i c)

  shown_lead : (w : ℕ) (word : List ℕ) (k : ℕ) → slice_get words w ≡ Some word → Contains (lead (first + w)) k → (i : ℕ) × Contains word i × (get_or (numbers shown) i 0 ≡ k)
  shown_lead w word k at c =
      map_has (λ (i : ℕ). get_or (numbers shown) i 0) word k
      (subst (λ (l : List ℕ). Contains l k) (leads_behind m survey shown words w ∙ ap (λ (l : List ℕ). map (λ i. get_or (numbers shown) i 0) l) (get_or_from_slice_get words w word [] at)) c)

  module _ (one : HasOneDriverEach file library (model_of m)) (once : StandOnce (length shown) words) (nodes : List (Option ℕ)) (are : AreNodes (length m.names) (first + length words) lead nodes) (distinct : are_distinct m.names ≡ true) where
    abbrev node : Name → Option ℕ
    node = node_of m.names nodes

    named : (k : ℕ) (n : Name) → k < length m.names → get_or m.names k [] ≡ n → node n ≡ node_at nodes k
    named k n h e = ap node (sym e) ∙ node_named m.names nodes k distinct are.each h

    -- a word behind the statements
    word_behind : (j : ℕ) → j < first + length words → first ≤ j → (w : ℕ) × (first + w ≡ j) × ((word : List ℕ) × (slice_get words w ≡ Some word))
    word_behind j h past = (j - first, omega arith, element_at words (j - first) (omega arith))

    clash : (n : Name) (i : ℕ) (s : Statement) (j : ℕ) → slice_get (latch_outputs (model_of m)) i ≡ Some n → slice_get (statements_of (model_of m)) j ≡ Some s → IsTrue (combines s) → IsTrue (stands_in n (drives file library s)) → ⊥
    clash n i s j shows at c d =
        latch_is_not_combined file library (model_of m) one n s (among (latch_outputs (model_of m)) n (contains_at (latch_outputs (model_of m)) i n shows)) (among (statements_of (model_of m)) s (contains_at (statements_of (model_of m)) j s at)) c (standing n (drives file library s) d)

    -- what leads to two nodes
    module _ (n : Name) (k : ℕ) (inside : k < length m.names) (name : get_or m.names k [] ≡ n) where
      driver_is : (j : ℕ) (s : Statement) → slice_get (statements_of (model_of m)) j ≡ Some s → IsTrue (combines s) → IsTrue (stands_in n (drives file library s)) → (i : ℕ) → i < first + length words → Contains (lead i) k → (i < first) ⊎ (first ≤ i) → i ≡ j
      driver_is j s at c d i h e (inl less) =
          let (t, there) = statement_there file library m survey is i less in
          let (combine, driving) = driven_lead i t k there e in
          one_driver_place file library (model_of m) one n i j t s there at (subst (λ (x : Name). IsTrue (stands_in x (drives file library t))) name driving) d
      driver_is j s at c d i h e (inr past) =
          let (w, same, (word, is_word)) = word_behind i h past in
          let (l, has, net) = shown_lead w word k is_word (subst (λ (x : ℕ). Contains (lead x) k) (sym same) e) in
          let shows_n : slice_get (latch_outputs (model_of m)) l ≡ Some n = shown_name l (shown_within w word l is_word has) ∙ ap (λ (x : Name). Some x) (ap (λ (x : ℕ). get_or m.names x []) net ∙ name) in
          absurd (clash n l s j shows_n at c d)

      holder_is : (w i : ℕ) (word : List ℕ) → slice_get words w ≡ Some word → Contains word i → slice_get (latch_outputs (model_of m)) i ≡ Some n → (j : ℕ) → j < first + length words → Contains (lead j) k → (j < first) ⊎ (first ≤ j) → j ≡ first + w
      holder_is w i word at c shows_n j h e (inl less) =
          let (t, there) = statement_there file library m survey is j less in
          let (combine, driving) = driven_lead j t k there e in
          absurd (clash n i t j shows_n there combine (subst (λ (x : Name). IsTrue (stands_in x (drives file library t))) name driving))
      holder_is w i word at c shows_n j h e (inr past) =
          let (v, same, (other, is_other)) = word_behind j h past in
          let (l, has, net) = shown_lead v other k is_other (subst (λ (x : ℕ). Contains (lead x) k) (sym same) e) in
          let also : slice_get (latch_outputs (model_of m)) l ≡ Some n = shown_name l (shown_within v other l is_other has) ∙ ap (λ (x : Name). Some x) (ap (λ (x : ℕ). get_or m.names x []) net ∙ name) in
          let latch : l ≡ i = one_latch_place file library (model_of m) one n l i also shows_n in
          let place : v ≡ w = once i v w other word (shown_within w word i at c) is_other at (subst (λ (x : ℕ). Contains other x) latch has) c in
          omega arith

      -- the node that is found is the one
      found : (j : ℕ) → j < first + length words → Contains (lead j) k → ((i : ℕ) → i < first + length words → Contains (lead i) k → (i < first) ⊎ (first ≤ i) → i ≡ j) → node n ≡ Some j
      found j h c alone = named k n inside name ∙ by_node (node_at nodes k) refl
        where
          by_node : (o : Option ℕ) → node_at nodes k ≡ o → node_at nodes k ≡ Some j
          by_node None e = absurd (are.none k j e inside h c)
          by_node (Some i) e =
              let (less, there) = are.some k i e in
              e ∙ ap (λ (x : ℕ). Some x) (alone i less there (cases_lt i first))

    module _ (graph : List (List ℕ)) (rows : graph ≡ map (ends_in nodes) survey.reads ++ replicate (length words) []) (surveyed : length survey.reads ≡ first) where
      row_first : (j : ℕ) → j < first → ends_of graph j ≡ ends_in nodes (get_or survey.reads j [])
      row_first j h =
          ap (λ (g : List (List ℕ)). get_or g j []) rows
          ∙ (get_or_append_left (map (ends_in nodes) survey.reads) (replicate (length words) []) [] j (let l = length-map survey.reads (ends_in nodes) in omega arith) ∙ get_or-map (ends_in nodes) survey.reads j [] [] (omega arith))

      row_behind : (j : ℕ) → first ≤ j → ends_of graph j ≡ []
      row_behind j past =
          ap (λ (g : List (List ℕ)). get_or g j []) rows
          ∙ (get_or-append_right (map (ends_in nodes) survey.reads) (replicate (length words) []) first j [] (length-map survey.reads (ends_in nodes) ∙ surveyed) past ∙ empty (cases_lt (j - first) (length words)))
        where
          empty : (j - first < length words) ⊎ (length words ≤ j - first) → get_or (replicate {A = List ℕ} (length words) []) (j - first) [] ≡ []
          empty (inl h) = get_or-replicate (length words) (j - first) [] [] h
          empty (inr h) = let l : length (replicate {A = List ℕ} (length words) []) ≡ length words = length-replicate (length words) [] in get_or_past (replicate {A = List ℕ} (length words) []) (j - first) [] (omega arith)

      edges_are : (j e : ℕ) (s : Statement) → slice_get (statements_of (model_of m)) j ≡ Some s → Contains (ends_of graph j) e ↔ ((n : Name) × IsTrue (stands_in n (reads file library s)) × (node n ≡ Some e))
      edges_are j e s at =
          let r = read_statement file library m survey is j s at in
          let inside = slice_get_within m.statements.items j r.what r.at in
          let ends : ends_of graph j ≡ ends_in nodes r.read = row_first j inside ∙ ap (ends_in nodes) (get_or_from_slice_get survey.reads j r.read [] r.read_there) in
          let all = All-from_recursion (AllByRecursion (IsIdOf m.names)) survey.reads is.reads_within in
          let row = subst (λ (l : List NameId). AllByRecursion (IsIdOf m.names) l) (get_or_from_slice_get survey.reads j r.read [] r.read_there) (all j [] (slice_get_within survey.reads j r.read r.read_there)) in
          let small = All-from_recursion (IsIdOf m.names) r.read row in (
            λ c. let (id, there, leads) = kept_has (λ (id : NameId). node_at nodes id.0) r.read e (subst (λ (l : List ℕ). Contains l e) ends c) in (
              name_at m.names id,
              subst (λ (l : List Name). IsTrue (stands_in (name_at m.names id) l)) r.reads_is (in_named m.names r.read id there),
              named id.0 (name_at m.names id) (All-contains (IsIdOf m.names) r.read id small there) refl ∙ leads,
            ),
            λ (n, reads_n, leads). let (id, there, name) = named_in m.names r.read n (subst (λ (l : List Name). IsTrue (stands_in n l)) (sym r.reads_is) reads_n) in
                subst (λ (l : List ℕ). Contains l e) (sym ends) (has_kept (λ (id : NameId). node_at nodes id.0) r.read id e there (sym (named id.0 n (All-contains (IsIdOf m.names) r.read id small there) name) ∙ leads)),
          )

      pub cone_graph : IsConeGraph file library (model_of m) words (node_of m.names nodes) graph
      cone_graph =
          let count = statement_count file library m survey is in
          let size : length graph ≡ first + length words = ap length rows ∙ (length-append (map (ends_in nodes) survey.reads) (replicate (length words) []) ∙ (let a = length-map survey.reads (ends_in nodes) in let b : length (replicate {A = List ℕ} (length words) []) ≡ length words = length-replicate (length words) [] in omega arith)) in
          record {
            each = size ∙ ap (λ (k : ℕ). k + length words) (sym count);
            driver = λ j s n at c d.
                let (k, inside, name, leads) = lead_driven j s n at c d in
                let h : j < first + length words = (let l = slice_get_within (statements_of (model_of m)) j s at in omega arith) in
                found n k inside name j h leads (driver_is n k inside name j s at c d);
            driven = λ j s n at e.
                let (k, inside, name, there) = node_found m.names nodes n j e in
                let (less, leads) = are.some k j there in
                let (combine, driving) = driven_lead j s k at leads in
                (combine, subst (λ (x : Name). IsTrue (stands_in x (drives file library s))) name driving);
            holder = λ w i word n at c shows_n.
                let none : NameId = record { 0 = 0 } in
                let k = get_or (numbers shown) i 0 in
                let latch = shown_within w word i at c in
                let inside : k < length m.names = subst (λ (x : ℕ). x < length m.names) (sym (get_or-map (λ (id : NameId). id.0) shown i none 0 latch)) (ids i none latch) in
                let name : get_or m.names k [] ≡ n = same_Some (get_or m.names k []) n (sym (shown_name i latch) ∙ shows_n) in
                let h : first + w < first + length words = (let l = slice_get_within words w word at in omega arith) in
                found n k inside name (first + w) h (lead_shown w i word at c) (holder_is n k inside name w i word at c shows_n) ∙ ap (λ (x : ℕ). Some (x + w)) (sym count);
            held = λ w word n at e.
                let (k, inside, name, there) = node_found m.names nodes n (length (statements_of (model_of m)) + w) e in
                let (less, leads) = are.some k (length (statements_of (model_of m)) + w) there in
                let (i, has, net) = shown_lead w word k at (subst (λ (x : ℕ). Contains (lead (x + w)) k) count leads) in
                (i, has, shown_name i (shown_within w word i at has) ∙ ap (λ (x : Name). Some x) (ap (λ (x : ℕ). get_or m.names x []) net ∙ name));
            within = λ n j e.
                let (k, inside, name, there) = node_found m.names nodes n j e in
                let (less, leads) = are.some k j there in
                omega arith;
            reads = edges_are;
            ends = λ j e past c. none_among e (subst (λ (l : List ℕ). Contains l e) (row_behind j (omega arith)) c);
          }

-- ---- edges lead to nodes

ends_small : (n : ℕ) (nodes : List (Option ℕ)) → ((k j : ℕ) → node_at nodes k ≡ Some j → j < n) → (row : List NameId) → All (λ k. k < n) (ends_in nodes row)
ends_small n nodes small [] = All-nil (λ k. k < n)
ends_small n nodes small (id ∷ row) = by_node (node_at nodes id.0) refl (ends_small n nodes small row)
  where
    by_node : (o : Option ℕ) → node_at nodes id.0 ≡ o → All (λ k. k < n) (ends_in nodes row) → All (λ k. k < n) (cons_option o (ends_in nodes row))
    by_node None e rest = rest
    by_node (Some j) e rest = All-cons (λ k. k < n) j (ends_in nodes row) (small id.0 j e) rest

pub edges_within : (nodes : List (Option ℕ)) (rows : List (List NameId)) (words : ℕ) (graph : List (List ℕ)) → graph ≡ map (ends_in nodes) rows ++ replicate words []
    → ((k j : ℕ) → node_at nodes k ≡ Some j → j < length rows + words) → (length graph ≡ length rows + words) × IsGraph graph
edges_within nodes rows words graph is small =
    let none : List (List ℕ) = replicate words [] in
    let a = length-map rows (ends_in nodes) in
    let b : length none ≡ words = length-replicate words [] in
    let size : length graph ≡ length rows + words = ap length is ∙ (length-append (map (ends_in nodes) rows) none ∙ omega arith) in
    let Inside : List ℕ → Type 0 = λ ends. All (λ k. k < length rows + words) ends in
    let each : All Inside (map (ends_in nodes) rows ++ none)
    = All-append Inside (map (ends_in nodes) rows) none (All-map Inside (ends_in nodes) rows (λ i d h. ends_small (length rows + words) nodes small (get_or rows i d))) (All-replicate Inside words [] (All-nil (λ k. k < length rows + words))) in
    (size, subst (λ (n : ℕ). All (λ ends. All (λ k. k < n) ends) graph) (sym size) (subst (λ (g : List (List ℕ)). All Inside g) (sym is) each))
