-- Nets that are pointed at nodes.
use Rattle.std.proofs.Common.{◌≡◌, ◌⊎◌, inl, inr, refl, sym, ◌∙◌, ap, subst, ℕ, ◌+◌, ◌-◌, ◌<◌, ◌≤◌, Bool, true, false, nat_lt, List, [], ◌∷◌, ◌++◌, length, map, get_or, set, replicate, arith, Contains, Option, None, Some, slice_get}
use Rattle.std.specs.Prelude.{if◌then◌else◌}
use Rattle.std.proofs.lemmas.Bool.{cases_eq, cases_lt}
use Rattle.std.proofs.lemmas.Bool.Decides.{nat_tests}
use Rattle.std.proofs.lemmas.List.{get_or-set_same, get_or-set_other, get_or-replicate, get_or_past, length-set, length-replicate}
use Rattle.std.proofs.lemmas.List.Elements.{Contains-append_left, Contains-push, Contains-push_cases}
use Rattle.std.proofs.lemmas.Option.{get_or_from_slice_get, slice_get-get_or}
use Rattle.imp_text.specs.declared.names.NameId.{NameId}
use Rattle.guard_spec.specs.Words.{Words}
use Rattle.net_graph.proofs.MarkLemmas.{none_among}
use Rattle.blif_read.specs.declared.file.Model.{Model as ReadModel}
use Rattle.blif_read.specs.declared.file.Located.{Located as ReadLocated}
use Rattle.source_nets.specs.declared.types.ModelSurvey.{ModelSurvey}
use Rattle.plain_size.specs.Nodes.{numbers, node_at, ArePointed, AreNodes, combines_in, driven_of, driven_by, shown_by, lead_of}

pub pointed_none : (node : ℕ) (nodes : List (Option ℕ)) → ArePointed [] node nodes nodes
pointed_none node nodes = record { each = refl; these = λ k c. absurd (none_among k c); others = λ k. inr refl }

pub pointed_more : (nets : List ℕ) (node k : ℕ) (old mid : List (Option ℕ)) → k < length old → ArePointed nets node old mid → ArePointed (nets ++ k ∷ []) node old (set mid k (Some node))
pointed_more nets node k old mid inside p = record {
  each = length-set mid k (Some node) ∙ p.each;
  these = λ j c. there j (Contains-push_cases nets k j c) (cases_eq j k);
  others = λ j. other j (cases_eq j k) (p.others j);
}
  where
    here : node_at (set mid k (Some node)) k ≡ Some node
    here = get_or-set_same mid k (Some node) None (let e = p.each in omega arith)

    there : (j : ℕ) → Contains nets j ⊎ (k ≡ j) → (j ≡ k) ⊎ (j ≡ k → ⊥) → node_at (set mid k (Some node)) j ≡ Some node
    there j c (inl same) = ap (node_at (set mid k (Some node))) same ∙ here
    there j (inl c) (inr apart) = get_or-set_other mid k j (Some node) None apart ∙ p.these j c
    there j (inr e) (inr apart) = absurd (apart (sym e))

    other : (j : ℕ) → (j ≡ k) ⊎ (j ≡ k → ⊥) → Contains nets j ⊎ (node_at mid j ≡ node_at old j) → Contains (nets ++ k ∷ []) j ⊎ (node_at (set mid k (Some node)) j ≡ node_at old j)
    other j (inl same) o = inl (subst (λ (i : ℕ). Contains (nets ++ k ∷ []) i) (sym same) (Contains-push nets k))
    other j (inr apart) (inl c) = inl (Contains-append_left nets (k ∷ []) j c)
    other j (inr apart) (inr e) = inr (get_or-set_other mid k j (Some node) None apart ∙ e)

-- one node more
pub nodes_more : (nets count : ℕ) (lead : ℕ → List ℕ) (old new : List (Option ℕ)) → AreNodes nets count lead old → ArePointed (lead count) count old new → AreNodes nets (count + 1) lead new
nodes_more nets count lead old new a p = record {
  each = p.each ∙ a.each;
  none = λ k j e inside h c. free k j e inside h c (p.others k) (cases_lt j count);
  some = λ k j e. held k j e (p.others k);
}
  where
    clash : (k : ℕ) → node_at new k ≡ None → Contains (lead count) k → ⊥
    clash k e c = let f : None ≡ Some count = sym e ∙ p.these k c in cc f

    free : (k j : ℕ) → node_at new k ≡ None → k < nets → j < count + 1 → Contains (lead j) k → Contains (lead count) k ⊎ (node_at new k ≡ node_at old k) → (j < count) ⊎ (count ≤ j) → ⊥
    free k j e inside h c (inl d) l = clash k e d
    free k j e inside h c (inr s) (inl less) = a.none k j (sym s ∙ e) inside less c
    free k j e inside h c (inr s) (inr more) = let same : j ≡ count = omega arith in clash k e (subst (λ (i : ℕ). Contains (lead i) k) same c)

    held : (k j : ℕ) → node_at new k ≡ Some j → Contains (lead count) k ⊎ (node_at new k ≡ node_at old k) → (j < count + 1) × Contains (lead j) k
    held k j e (inl c) =
        let f : Some count ≡ Some j = sym (p.these k c) ∙ e in
        let same : count ≡ j = cc f in
        (omega arith, subst (λ (i : ℕ). Contains (lead i) k) same c)
    held k j e (inr s) = let (less, c) = a.some k j (sym s ∙ e) in (omega arith, c)

-- a node to which no net leads
pub nodes_kept : (nets count : ℕ) (lead : ℕ → List ℕ) (nodes : List (Option ℕ)) → lead count ≡ [] → AreNodes nets count lead nodes → AreNodes nets (count + 1) lead nodes
nodes_kept nets count lead nodes empty a = record {
  each = a.each;
  none = λ k j e inside h c. free k j e inside c (cases_lt j count) h;
  some = λ k j e. let (less, c) = a.some k j e in (omega arith, c);
}
  where
    free : (k j : ℕ) → node_at nodes k ≡ None → k < nets → Contains (lead j) k → (j < count) ⊎ (count ≤ j) → j < count + 1 → ⊥
    free k j e inside c (inl less) h = a.none k j e inside less c
    free k j e inside c (inr more) h =
        let same : j ≡ count = omega arith in
        none_among k (subst (λ (l : List ℕ). Contains l k) (ap lead same ∙ empty) c)

pub nodes_none : (nets : ℕ) (lead : ℕ → List ℕ) → AreNodes nets 0 lead (replicate nets None)
nodes_none nets lead = record {
  each = length-replicate nets None;
  none = λ k j e inside h. absurd (omega arith);
  some = λ k j e. let f : None ≡ Some j = sym (none k (cases_lt k nets)) ∙ e in cc f;
}
  where
    none : (k : ℕ) → (k < nets) ⊎ (nets ≤ k) → node_at (replicate nets None) k ≡ None
    none k (inl h) = get_or-replicate nets k None None h
    none k (inr h) = let l : length (replicate {A = Option ℕ} nets None) ≡ nets = length-replicate nets None in get_or_past (replicate nets None) k None (omega arith)

-- ---- what leads to a node

pub driven_at : (statements : List ReadLocated) (rows : List (List NameId)) (j : ℕ) (s : ReadLocated) (row : List NameId) → slice_get statements j ≡ Some s → slice_get rows j ≡ Some row → combines_in s.what ≡ true → driven_by statements rows j ≡ numbers row
driven_at statements rows j s row is at does =
    ap (λ (o : Option ReadLocated). driven_of o (get_or rows j [])) is
    ∙ (ap (λ (b : Bool). if b then numbers (get_or rows j []) else []) does ∙ ap numbers (get_or_from_slice_get rows j row [] at))

pub driven_nowhere : (statements : List ReadLocated) (rows : List (List NameId)) (j : ℕ) (s : ReadLocated) → slice_get statements j ≡ Some s → combines_in s.what ≡ false → driven_by statements rows j ≡ []
driven_nowhere statements rows j s is doesnt =
    ap (λ (o : Option ReadLocated). driven_of o (get_or rows j [])) is ∙ ap (λ (b : Bool). if b then numbers (get_or rows j []) else []) doesnt

pub item_at : {A : Type 0} (xs ys : List A) (i : ℕ) (x : A) → i < length xs → x ≡ get_or xs i x → xs ≡ ys → slice_get ys i ≡ Some x
item_at {A = A} xs ys i x inside is same = ap (λ (l : List A). slice_get l i) (sym same) ∙ (slice_get-get_or xs i x inside ∙ ap (λ (y : A). Some y) (sym is))

-- the latches of a word
pub shown_at : (shown : List NameId) (words : Words) (w : ℕ) (word : List ℕ) → slice_get words w ≡ Some word → shown_by shown words w ≡ shown_by shown (word ∷ []) 0
shown_at shown words w word is = ap (λ (l : List ℕ). map (λ i. get_or (numbers shown) i 0) l) (get_or_from_slice_get words w word [] is)

-- the nodes are statements, and then words
pub leads_first : (m : ReadModel) (survey : ModelSurvey) (shown : List NameId) (words : Words) (j : ℕ) → j < length m.statements.items → lead_of m survey shown words j ≡ driven_by m.statements.items survey.drives j
leads_first m survey shown words j h =
    let less : nat_lt j (length m.statements.items) ≡ true = grind (arith, nat_tests) in
    ap (λ (b : Bool). if b then driven_by m.statements.items survey.drives j else shown_by shown words (j - length m.statements.items)) less

pub leads_behind : (m : ReadModel) (survey : ModelSurvey) (shown : List NameId) (words : Words) (w : ℕ) → lead_of m survey shown words (length m.statements.items + w) ≡ shown_by shown words w
leads_behind m survey shown words w =
    let first = length m.statements.items in
    let more : nat_lt (first + w) first ≡ false = grind (arith, nat_tests) in
    let rest : first + w - first ≡ w = omega arith in
    ap (λ (b : Bool). if b then driven_by m.statements.items survey.drives (first + w) else shown_by shown words (first + w - first)) more ∙ ap (shown_by shown words) rest

-- the words come behind the statements
pub nodes_behind : (nets first words k : ℕ) (lead : ℕ → List ℕ) (driven before all : List (Option ℕ)) → before ≡ driven → k ≡ first → length driven ≡ nets
    → (AreNodes (length before) k lead before → AreNodes (length before) (k + words) lead all) → AreNodes nets first lead driven → AreNodes nets (first + words) lead all
nodes_behind nets first words k lead driven before all e f long step a =
    let size : length before ≡ nets = ap length e ∙ long in
    subst (λ (x : ℕ). AreNodes x (first + words) lead all) size
    (subst (λ (x : ℕ). AreNodes (length before) (x + words) lead all) f
    (step (subst (λ (x : ℕ). AreNodes x k lead before) (sym size) (subst (λ (x : ℕ). AreNodes nets x lead before) (sym f) (subst (λ (l : List (Option ℕ)). AreNodes nets first lead l) (sym e) a)))))
