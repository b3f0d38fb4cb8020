-- The formals of a `.subckt`, word by word, and the ports that are missing.
use Rattle.std.proofs.Common.{◌≡◌, refl, sym, ◌∙◌, ap, ap₂, ◌≢◌, ℕ, zero, suc, ◌+◌, ◌-◌, ◌<◌, ◌≤◌, List, [], ◌∷◌, ◌++◌, length, map, filter, find, get_or, take, drop, Bool, true, false, ◌||◌, not, cond, Option, Some, None, IfSome, IfNone, slice_get, arith, add-one, drop-cons}
use Rattle.std.specs.Prelude.{is_some}
use Rattle.std.proofs.lemmas.List.{take_more, map-append}
use Rattle.std.proofs.lemmas.List.Folds.{find-append}
use Rattle.std.specs.List.{range_with_len}
use Rattle.std.specs.Bool.{then_some}
use Rattle.std.specs.Option.{option_or}
use Rattle.netlist_spec.specs.Netlist.{Name, same_name, stands_in, Bind, File}
use Rattle.netlist_spec.specs.Reads.{first_appearances}
use Rattle.netlist_spec.specs.Covers.{Library}
use Rattle.netlist_spec.specs.Placed.{Placed, nothing, model_or, table_or, linear_or_nothing, input_ports, output_ports}
use Rattle.netlist_spec.specs.SoundFaults.{bad_formal, missing_port, with_model, bad_port_of}
use Rattle.imp_text.proofs.NamesLemmas.{same_name-true, stands_in-append, stands_in-at}
use Rattle.blif_read.specs.declared.file.Bind.{Bind as ReadBind}
use Rattle.blif_read.specs.View.{bind_of}
use Rattle.source_nets.specs.declared.types.Meaning.{Meaning}
use Rattle.source_nets.specs.declared.types.Meaning.TheVariants.{Cell, Nothing, Model as ModelAt, Table as TableAt, Linear as LinearAt}
use Rattle.source_nets.specs.Survey.{placed_at, IsMeaningIn}
use Rattle.source_placements.proofs.FirstLemmas.{first_some}

-- ---- formals

pub given_is : (o : Option ℕ) (n : Name) (ns : List Name) → IfSome o (λ i. slice_get ns i ≡ Some n) → IfNone o (stands_in n ns ≡ false) → is_some o ≡ stands_in n ns
given_is None n ns at absent = sym absent
given_is (Some i) n ns at absent = sym (stands_in-at ns i n at)

pub one_formal_more : (bs : List ReadBind) (i : ℕ) (b : ReadBind) → i < length bs → b ≡ get_or bs i b → map (λ (x : ReadBind). x.formal) (take (i + 1) bs) ≡ map (λ (x : ReadBind). x.formal) (take i bs) ++ b.formal ∷ []
one_formal_more bs i b h is =
    ap (map (λ (x : ReadBind). x.formal)) (take_more bs i b h)
    ∙ map-append (λ (x : ReadBind). x.formal) (take i bs) (get_or bs i b ∷ [])
    ∙ ap (λ (x : ReadBind). map (λ (y : ReadBind). y.formal) (take i bs) ++ x.formal ∷ []) (sym is)

module _ (ports : List Name) where
  same_earlier : (e f : List Name) → ((n : Name) → stands_in n e ≡ stands_in n f) → (bs : List Bind) → bad_formal ports e bs ≡ bad_formal ports f bs
  same_earlier e f h [] = refl
  same_earlier e f h (b ∷ bs) =
      ap₂ (λ (t : Bool) (o : Option Name). option_or (then_some (not (stands_in b.formal ports) || t) b.formal) o) (h b.formal)
      (same_earlier (b.formal ∷ e) (b.formal ∷ f) (λ n. ap (λ t. same_name n b.formal || t) (h n)) bs)

  behind : (n : Name) (given : List Name) (k : Name) → stands_in k (n ∷ given) ≡ stands_in k (given ++ n ∷ [])
  behind n given k = swapped (same_name k n) (stands_in k given) ∙ sym (stands_in-append k given (n ∷ []))
    where
      swapped : (a b : Bool) → (a || b) ≡ (b || (a || false))
      swapped true true = refl
      swapped true false = refl
      swapped false true = refl
      swapped false false = refl

  module _ (all given : List Name) (bs : List ReadBind) (i : ℕ) (b : ReadBind) (h : i < length bs) (is : b ≡ get_or bs i b) where
    opened : bad_formal ports given (map (bind_of all) (drop i bs))
        ≡ option_or (then_some (not (stands_in b.formal ports) || stands_in b.formal given) b.formal) (bad_formal ports (b.formal ∷ given) (map (bind_of all) (drop (i + 1) bs)))
    opened =
        ap (λ xs. bad_formal ports given (map (bind_of all) xs)) (drop-cons bs i b h)
        ∙ ap₂ (λ (x : ReadBind) (k : ℕ). bad_formal ports given (map (bind_of all) (x ∷ drop k bs))) (sym is) (sym (add-one i))

    pub bad_word : (not (stands_in b.formal ports) || stands_in b.formal given) ≡ true → bad_formal ports given (map (bind_of all) (drop i bs)) ≡ Some b.formal
    bad_word bad = opened ∙ ap (λ t. option_or (then_some t b.formal) (bad_formal ports (b.formal ∷ given) (map (bind_of all) (drop (i + 1) bs)))) bad

    pub good_word : (not (stands_in b.formal ports) || stands_in b.formal given) ≡ false
        → bad_formal ports (given ++ b.formal ∷ []) (map (bind_of all) (drop (i + 1) bs)) ≡ bad_formal ports given (map (bind_of all) (drop i bs))
    good_word good =
        sym (opened
        ∙ ap (λ t. option_or (then_some t b.formal) (bad_formal ports (b.formal ∷ given) (map (bind_of all) (drop (i + 1) bs)))) good
        ∙ same_earlier (b.formal ∷ given) (given ++ b.formal ∷ []) (behind b.formal given) (map (bind_of all) (drop (i + 1) bs)))

-- ---- missing ports

pub find_some : {A : Type 0} (p : Name → Bool) (f : A → Name) (xs : List A) → find p (map f xs) ≡ first_some (λ x. then_some (p (f x)) (f x)) xs
find_some p f [] = refl
find_some {A = A} p f (x ∷ xs) = go (p (f x)) (find_some p f xs)
  where
    go : (t : Bool) → find p (map f xs) ≡ first_some (λ (x : A). then_some (p (f x)) (f x)) xs → cond t (Some (f x)) (find p (map f xs)) ≡ option_or (then_some t (f x)) (first_some (λ (x : A). then_some (p (f x)) (f x)) xs)
    go true rest = refl
    go false rest = rest

find_kept : (p q : Name → Bool) (xs : List Name) → ((m : Name) → q m ≡ false → p m ≡ false) → find p (filter q xs) ≡ find p xs
find_kept p q [] h = refl
find_kept p q (x ∷ xs) h = go (q x) refl (find_kept p q xs h)
  where
    go : (t : Bool) → q x ≡ t → find p (filter q xs) ≡ find p xs → find p (cond t (x ∷ filter q xs) (filter q xs)) ≡ cond (p x) (Some x) (find p xs)
    go true e rest = ap (cond (p x) (Some x)) rest
    go false e rest = rest ∙ ap (λ t. cond t (Some x) (find p xs)) (sym (h x e))

-- repeats are never the first
pub find_first : (p : Name → Bool) (ns : List Name) → find p (first_appearances ns) ≡ find p ns
find_first p [] = refl
find_first p (n ∷ ns) = go (p n) refl (find_first p ns)
  where
    true_of : (t : Bool) → not t ≡ false → t ≡ true
    true_of true h = refl
    true_of false h = cc h

    go : (t : Bool) → p n ≡ t → find p (first_appearances ns) ≡ find p ns
        → cond t (Some n) (find p (filter (λ m. not (same_name n m)) (first_appearances ns))) ≡ cond t (Some n) (find p ns)
    go true e rest = refl
    go false e rest =
        find_kept p (λ m. not (same_name n m)) (first_appearances ns) (λ m other. ap p (sym (same_name-true n m (true_of (same_name n m) other))) ∙ e)
        ∙ rest

-- ports by number
module _ (p : Name → Bool) (f : ℕ → Name) (i count : ℕ) (h : i < count) where
  numbered : find p (map f (range_with_len i (count - i))) ≡ cond (p (f i)) (Some (f i)) (find p (map f (range_with_len (i + 1) (count - (i + 1)))))
  numbered = let e : count - i ≡ suc (count - (i + 1)) = omega arith in ap (λ n. find p (map f (range_with_len i n))) e

  pub number_missing : p (f i) ≡ true → find p (map f (range_with_len i (count - i))) ≡ Some (f i)
  number_missing e = numbered ∙ ap (λ t. cond t (Some (f i)) (find p (map f (range_with_len (i + 1) (count - (i + 1)))))) e

  pub number_given : p (f i) ≡ false → find p (map f (range_with_len (i + 1) (count - (i + 1)))) ≡ find p (map f (range_with_len i (count - i)))
  number_given e = sym (numbered ∙ ap (λ t. cond t (Some (f i)) (find p (map f (range_with_len (i + 1) (count - (i + 1)))))) e)

pub none_left : (p : Name → Bool) (f : ℕ → Name) (i count : ℕ) → count ≤ i → find p (map f (range_with_len i (count - i))) ≡ None
none_left p f i count h = let e : count - i ≡ 0 = omega arith in ap (λ n. find p (map f (range_with_len i n))) e

-- ---- what is placed

-- the ports of a model are its inputs, then its clocks
pub missing_inputs : (p : Name → Bool) (inputs clocks : List Name) → find p (first_appearances (inputs ++ clocks)) ≡ option_or (find p inputs) (find p clocks)
missing_inputs p inputs clocks = find_first p (inputs ++ clocks) ∙ find-append p inputs clocks

module _ (file : File) (library : Library) where
  -- what the words of a `.subckt` are told for, where its name means something
  abbrev pub fault_of : Placed → List Bind → Option Name
  fault_of p binds = option_or (bad_formal (input_ports p ++ output_ports p) [] binds) (missing_port (input_ports p) binds)

  of_option : {A : Type 0} (f : Option A → Placed) (name : Name) (binds : List Bind) → ((x : A) → bad_port_of file library (f (Some x)) name binds ≡ with_model name (fault_of (f (Some x)) binds))
      → (xs : List A) (k : ℕ) → k < length xs → bad_port_of file library (f (slice_get xs k)) name binds ≡ with_model name (fault_of (f (slice_get xs k)) binds)
  of_option f name binds one [] k h = absurd (omega arith)
  of_option f name binds one (x ∷ xs) zero h = one x
  of_option f name binds one (x ∷ xs) (suc k) h = of_option f name binds one xs k (omega arith)

  pub port_fault_is : (meaning : Meaning) (name : Name) (binds : List Bind) → IsMeaningIn file library meaning → (meaning ≢ Cell) → (meaning ≢ Nothing)
      → bad_port_of file library (placed_at file library meaning) name binds ≡ with_model name (fault_of (placed_at file library meaning) binds)
  port_fault_is Cell name binds within no_cell some = absurd (no_cell refl)
  port_fault_is Nothing name binds within no_cell some = absurd (some refl)
  port_fault_is (ModelAt k) name binds within no_cell some = of_option (λ o. model_or o nothing) name binds (λ m. refl) file.models k within
  port_fault_is (TableAt k) name binds within no_cell some = of_option (λ o. table_or o nothing) name binds (λ t. refl) library.tables k within
  port_fault_is (LinearAt k) name binds within no_cell some = of_option linear_or_nothing name binds (λ l. refl) library.linears k within
