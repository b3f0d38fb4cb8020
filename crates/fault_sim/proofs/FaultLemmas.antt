-- Tables of faults.
use Rattle.std.proofs.Common.{◌≡◌, ◌≢◌, refl, sym, ◌∙◌, ap, subst, ℕ, zero, suc, ◌+◌, ◌<◌, List, [], ◌∷◌, ◌++◌, map, length, take, Bool, true, false, not, get_or, set, cond, Option, None, Some, arith, inl, inr, ◌⊎◌}
use Rattle.std.specs.Prelude.{find, option_map}
use Rattle.std.specs.Option.{is_some}
use Rattle.std.proofs.lemmas.List.{length-set, get_or-set_same, get_or-set_other, map-append, take_more}
use Rattle.netlist_spec.specs.Netlist.{Name, same_name, are_distinct}
use Rattle.netlist_spec.specs.Values.{Forced, forced_bit}
use Rattle.imp_text.specs.declared.names.NameId.{NameId}
use Rattle.imp_text.proofs.NamesLemmas.{same_name_self}
use Rattle.blif_read.specs.View.{name_at}
use Rattle.line_order.proofs.MarkLemmas.{apart}
use Rattle.fault_sim.specs.declared.faults.CellFault.{CellFault}
use Rattle.fault_sim.specs.Faults.{Forces, named_fault, named_faults}

-- one more fault counts where no earlier one names the cell
abbrev or_last : Option Bool → Bool → Bool → Option Bool
or_last (Some b) same bit = Some b
or_last None same bit = cond same (Some bit) None

one_more : (faults : Forced) (n k : Name) (bit : Bool) → forced_bit (faults ++ (n, bit) ∷ []) k ≡ or_last (forced_bit faults k) (same_name n k) bit
one_more [] n k bit = at (same_name n k)
  where
    at : (b : Bool) → option_map (λ (e : Name × Bool). e.1) (cond b (Some (n, bit)) None) ≡ cond b (Some bit) None
    at true = refl
    at false = refl
one_more (e ∷ faults) n k bit = at (same_name e.0 k) (one_more faults n k bit)
  where
    at : (b : Bool) → forced_bit (faults ++ (n, bit) ∷ []) k ≡ or_last (forced_bit faults k) (same_name n k) bit
        → option_map (λ (e : Name × Bool). e.1) (cond b (Some e) (find (λ (d : Name × Bool). same_name d.0 k) (faults ++ (n, bit) ∷ [])))
        ≡ or_last (option_map (λ (e : Name × Bool). e.1) (cond b (Some e) (find (λ (d : Name × Bool). same_name d.0 k) faults))) (same_name n k) bit
    at true h = refl
    at false h = h

same_or_other : (j k : ℕ) → (j ≡ k) ⊎ (j ≢ k)
same_or_other j k = grind arith

module _ (all : List Name) (table : List (Option Bool)) (faults : Forced) (f : Forces all table faults) (id : NameId) (bit : Bool) (inside : id.0 < length all) where
  here : (k : ℕ) → k ≡ id.0 → same_name (name_at all id) (get_or all k []) ≡ true
  here k e = ap (λ j. same_name (name_at all id) (get_or all j [])) e ∙ same_name_self (name_at all id)

  away : (k : ℕ) → k < length all → k ≢ id.0 → same_name (name_at all id) (get_or all k []) ≡ false
  away k h other = apart all id.0 k f.distinct inside h (λ e. other (sym e))

  none_last : (o : Option Bool) → or_last o false bit ≡ o
  none_last (Some b) = refl
  none_last None = refl

  -- a net without a fault gets one
  pub forced_now : get_or table id.0 None ≡ None → Forces all (set table id.0 (Some bit)) (faults ++ (name_at all id, bit) ∷ [])
  forced_now none =
      record { distinct = f.distinct; each_net = length-set table id.0 (Some bit) ∙ f.each_net; forced = λ k h. at k h (same_or_other k id.0) }
    where
      at : (k : ℕ) → k < length all → (k ≡ id.0) ⊎ (k ≢ id.0) → get_or (set table id.0 (Some bit)) k None ≡ forced_bit (faults ++ (name_at all id, bit) ∷ []) (get_or all k [])
      at k h (inl e) =
          ap (λ j. get_or (set table id.0 (Some bit)) j None) e
          ∙ (get_or-set_same table id.0 (Some bit) None (subst (λ (l : ℕ). id.0 < l) (sym f.each_net) inside)
          ∙ sym (one_more faults (name_at all id) (get_or all k []) bit
          ∙ (ap (λ o. or_last o (same_name (name_at all id) (get_or all k [])) bit) (sym (f.forced k h) ∙ (ap (λ j. get_or table j None) e ∙ none))
          ∙ ap (λ (b : Bool). cond b (Some bit) None) (here k e))))
      at k h (inr other) =
          get_or-set_other table id.0 k (Some bit) None other
          ∙ (f.forced k h ∙ sym (one_more faults (name_at all id) (get_or all k []) bit ∙ (ap (λ (b : Bool). or_last (forced_bit faults (get_or all k [])) b bit) (away k h other) ∙ none_last (forced_bit faults (get_or all k [])))))

  -- a net with a fault keeps it
  pub forced_before : (b : Bool) → get_or table id.0 None ≡ Some b → Forces all table (faults ++ (name_at all id, bit) ∷ [])
  forced_before b some = record { distinct = f.distinct; each_net = f.each_net; forced = λ k h. at k h (same_or_other k id.0) }
    where
      at : (k : ℕ) → k < length all → (k ≡ id.0) ⊎ (k ≢ id.0) → get_or table k None ≡ forced_bit (faults ++ (name_at all id, bit) ∷ []) (get_or all k [])
      at k h (inl e) =
          let own : forced_bit faults (get_or all k []) ≡ Some b = sym (f.forced k h) ∙ (ap (λ j. get_or table j None) e ∙ some) in
          f.forced k h ∙ (own ∙ sym (one_more faults (name_at all id) (get_or all k []) bit ∙ ap (λ o. or_last o (same_name (name_at all id) (get_or all k [])) bit) own))
      at k h (inr other) =
          f.forced k h ∙ sym (one_more faults (name_at all id) (get_or all k []) bit ∙ (ap (λ (b : Bool). or_last (forced_bit faults (get_or all k [])) b bit) (away k h other) ∙ none_last (forced_bit faults (get_or all k []))))

-- a table without faults
pub none_forced : (all : List Name) (table : List (Option Bool)) → are_distinct all ≡ true → length table ≡ length all → ((k : ℕ) → k < length table → get_or table k None ≡ None) → Forces all table []
none_forced all table d e h = record { distinct = d; each_net = e; forced = λ k g. h k (subst (λ (l : ℕ). k < l) (sym e) g) }

-- one more fault by its cell
get_or-map : {A B : Type 0} (f : A → B) (xs : List A) (k : ℕ) (d : A) (e : B) → k < length xs → get_or (map f xs) k e ≡ f (get_or xs k d)
get_or-map f [] k d e h = absurd (omega arith)
get_or-map f (x ∷ xs) zero d e h = refl
get_or-map f (x ∷ xs) (suc k) d e h = get_or-map f xs k d e (omega arith)

pub fault_named : (all : List Name) (nets : List NameId) (faults : List CellFault) (i : ℕ) (f : CellFault) (id : NameId) → i < length faults → (get_or faults i f).cell.0 < length nets
    → named_faults (map (name_at all) nets) (take (i + 1) faults) ≡ named_faults (map (name_at all) nets) (take i faults) ++ (name_at all (get_or nets (get_or faults i f).cell.0 id), (get_or faults i f).value) ∷ []
fault_named all nets faults i f id h g =
    let cells = map (name_at all) nets in
    let here = get_or faults i f in
    ap (map (named_fault cells)) (take_more faults i f h)
    ∙ (map-append (named_fault cells) (take i faults) (here ∷ [])
    ∙ ap (λ (n : Name). named_faults cells (take i faults) ++ (n, here.value) ∷ []) (get_or-map (name_at all) nets here.cell.0 id [] g))

-- whether a place has a fault
pub no_fault_there : (o : Option Bool) (r : Bool) → is_some o ≡ not r → r ≡ true → o ≡ None
no_fault_there None r e f = refl
no_fault_there (Some b) r e f = absurd (let g = ap not f in cc)

pub fault_there : (o : Option Bool) (r : Bool) → is_some o ≡ not r → r ≡ false → (b : Bool) × (o ≡ Some b)
fault_there None r e f = absurd (let g = ap not f in cc)
fault_there (Some b) r e f = (b, refl)
