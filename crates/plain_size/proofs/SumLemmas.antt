-- Words and sizes that are summed up.
use Rattle.std.proofs.Common.{◌≡◌, refl, sym, ◌∙◌, ap, subst, ℕ, zero, suc, ◌+◌, ◌*◌, ◌^◌, ◌<◌, ◌≤◌, List, [], ◌∷◌, ◌++◌, length, map, get_or, take, drop, arith, Some, None, slice_get, All, Vec}
use Rattle.std.specs.List.{AllZip}
use Rattle.std.proofs.lemmas.List.{length-map, length-take, take_more, take_all, take-append-drop}
use Rattle.std.proofs.lemmas.List.Elements.{recursion_from_All}
use Rattle.std.specs.Prelude.{count_ones, option_map}
use Rattle.std.specs.declared.alloc.Global.{Global}
use Rattle.std.proofs.lemmas.Option.{slice_get_within, get_or_from_slice_get, slice_get-get_or, slice_get-map, same_Some}
use Rattle.block_code.proofs.Words.{weight_bits}
use Rattle.imp_text.specs.declared.names.NameId.{NameId}
use Rattle.blif_read.specs.View.{name_at}
use Rattle.netlist_spec.specs.Netlist.{Name}
use Rattle.guard_spec.specs.Codes.{Code, IsCode, bits_of, data_places, weight}
use Rattle.guard_spec.specs.Words.{Words}
use Rattle.guard_spec.specs.Plain.{AreNets, word_cost}
use Rattle.size_laws.specs.Partial.{IsBitCost, IsWordCost}
use Rattle.size_laws.proofs.OneSize.{nets_of}
use Rattle.plain_size.specs.Cones.{Source, bit}
use Rattle.plain_size.specs.Sums.{IsBit, IsWord}
use Rattle.plain_size.proofs.ConeLemmas.{one_each}
use Rattle.plain_size.proofs.PriceLemmas.{mapped_all}

pub all_zip_push : {A B : Type 0} (R : A → B → Type 0) (xs : List A) (ys : List B) (x : A) (y : B) → AllZip R xs ys → R x y → AllZip R (xs ++ x ∷ []) (ys ++ y ∷ [])
all_zip_push R [] [] x y a r = (r, tt)
all_zip_push R [] (z ∷ ys) x y a r = absurd a
all_zip_push R (z ∷ xs) [] x y a r = absurd a
all_zip_push R (z ∷ xs) (w ∷ ys) x y a r = (a.0, all_zip_push R xs ys x y a.1 r)

-- the net at a place of a word
pub net_at_place : (all : List Name) (word : List ℕ) (nets : List Name) (i place : ℕ) → AreNets all word nets → slice_get word i ≡ Some place → (x : Name) × (slice_get nets i ≡ Some x) × (slice_get all place ≡ Some x)
net_at_place all [] nets i place are at = absurd (cc at)
net_at_place all (k ∷ word) [] i place are at = absurd are
net_at_place all (k ∷ word) (x ∷ nets) zero place are at =
    let same : k ≡ place = cc at in
    (x, refl, ap (slice_get all) (sym same) ∙ are.0)
net_at_place all (k ∷ word) (x ∷ nets) (suc i) place are at = net_at_place all word nets i place are.1 at

-- a word so far: its first nets have these costs
pub record IsSoFar (p : Source) (some : List Name) (i start total : ℕ) : Type 0 where
  pub costs : List ℕ
  pub are : AllZip (bit p) (take i some) costs
  pub sum : total + p.code.columns ≡ start + word_cost p.code costs

abbrev pub WordsGrow : Type 0
WordsGrow =
    (code : Code) (costs : List ℕ) (c : ℕ) → IsCode code → length costs < data_places code → word_cost code (costs ++ c ∷ []) ≡ word_cost code costs + c * (1 + weight (get_or code.rows (length costs) []))

module _ (p : Source) (some : List Name) (start : ℕ) where
  module _ (grow : WordsGrow) (is_code : IsCode p.code) (i total checks : ℕ) (x : Name) (at : slice_get some i ≡ Some x) (few : i < data_places p.code) (ones : checks ≡ weight (get_or p.code.rows i [])) (so_far : IsSoFar p some i start total) where
    here : length so_far.costs ≡ i
    here = sym (one_each (bit p) (take i some) so_far.costs so_far.are) ∙ (length-take i some ∙ (let h = slice_get_within some i x at in omega arith))

    next : take (i + 1) some ≡ take i some ++ x ∷ []
    next = take_more some i x (slice_get_within some i x at) ∙ ap (λ (y : Name). take i some ++ y ∷ []) (get_or_from_slice_get some i x x at)

    grown : (n : ℕ) → word_cost p.code (so_far.costs ++ n ∷ []) ≡ word_cost p.code so_far.costs + n * (1 + checks)
    grown n =
        grow p.code so_far.costs n is_code (let h = here in omega arith)
        ∙ ap (λ (k : ℕ). word_cost p.code so_far.costs + n * (1 + k)) (ap (λ (k : ℕ). weight (get_or p.code.rows k [])) here ∙ sym ones)

    more : (n : ℕ) → bit p x n → AllZip (bit p) (take (i + 1) some) (so_far.costs ++ n ∷ [])
    more n is = subst (λ (l : List Name). AllZip (bit p) l (so_far.costs ++ n ∷ [])) (sym next) (all_zip_push (bit p) (take i some) so_far.costs x n so_far.are is)

    pub word_goes_on : (sum : ℕ) → IsBit p x checks total (Some sum) → IsSoFar p some (i + 1) start sum
    word_goes_on sum (n, is, e) = record {
      costs = so_far.costs ++ n ∷ [];
      are = more n is;
      sum = (let g = grown n in let s = so_far.sum in omega arith);
    }

    pub word_stops : IsBit p x checks total None → IsWord p some start None
    word_stops (n, is, large) =
        (take (i + 1) some, drop (i + 1) some, so_far.costs ++ n ∷ [], sym (take-append-drop (i + 1) some), more n is, (let g = grown n in let s = so_far.sum in omega arith))

  pub word_ends : (i total : ℕ) → length some ≤ i → IsSoFar p some i start total → IsWord p some start (Some total)
  word_ends i total past so_far = (word_cost p.code so_far.costs, (so_far.costs, subst (λ (l : List Name). AllZip (bit p) l so_far.costs) (take_all i some past) so_far.are, refl), so_far.sum)

  pub word_too_large : word_cost p.code [] ≡ p.code.columns → 1000000 < start → IsWord p some start None
  word_too_large none large = ([], some, [], refl, tt, (let e = none in omega arith))

-- what is known of a place of a word
pub record IsPlace (p : Source) (nets : List NameId) (word : List ℕ) (some : List Name) (i row : ℕ) : Type 0 where
  pub x : Name
  pub at : slice_get some i ≡ Some x
  pub named : name_at p.m.names (get_or nets (get_or word i 0) (record { 0 = 0 })) ≡ x
  pub is_code : IsCode p.code
  pub few : i < data_places p.code
  pub ones : count_ones row ≡ weight (get_or p.code.rows i [])

pub place_of_word : (p : Source) (code : Code) (nets : List NameId) (word : List ℕ) (all some : List Name) (i row : ℕ) → p.code ≡ code → IsCode code → length word ≤ data_places code → i < length word
    → All (λ k. k < length nets) word → slice_get code.rows i ≡ Some (bits_of code.columns row) → row < 2 ^ code.columns → map (name_at p.m.names) nets ≡ all → AreNets all word some → IsPlace p nets word some i row
place_of_word p code nets word all some i row same is places inside within at small names are =
    let none : NameId = record { 0 = 0 } in
    let place = get_or word i 0 in
    let (x, here, there) = net_at_place all word some i place are (slice_get-get_or word i 0 inside) in
    let found : slice_get all place ≡ Some (name_at p.m.names (get_or nets place none))
    = ap (λ (l : List Name). slice_get l place) (sym names)
    ∙ (slice_get-map (name_at p.m.names) nets place ∙ ap (option_map (name_at p.m.names)) (slice_get-get_or nets place none (within i 0 inside))) in
    let both : Some x ≡ Some (name_at p.m.names (get_or nets place none)) = sym there ∙ found in
    let rows : get_or p.code.rows i [] ≡ bits_of code.columns row = ap (λ (d : Code). get_or d.rows i []) same ∙ get_or_from_slice_get code.rows i (bits_of code.columns row) [] at in
    record {
      x = x;
      at = here;
      named = same_Some (name_at p.m.names (get_or nets place none)) x (sym both);
      is_code = subst IsCode (sym same) is;
      few = subst (λ (d : Code). i < data_places d) (sym same) (omega arith);
      ones = sym (weight_bits code.columns row small) ∙ ap weight (sym rows);
    }

-- as many nets as places
pub nets_long : (all : List Name) (word : List ℕ) (nets : List Name) → AreNets all word nets → length nets ≡ length word
nets_long all [] [] a = refl
nets_long all [] (x ∷ nets) a = absurd a
nets_long all (k ∷ word) [] a = absurd a
nets_long all (k ∷ word) (x ∷ nets) a = ap suc (nets_long all word nets a.1)

-- ---- words of a layout

abbrev pub items_of : Vec ℕ Global → List ℕ
items_of word = word.items

pub word_of : (vecs : List (Vec ℕ Global)) (i : ℕ) (v : Vec ℕ Global) → i < length vecs → v ≡ get_or vecs i v → slice_get (map items_of vecs) i ≡ Some v.items
word_of vecs i v inside is =
    slice_get-map items_of vecs i ∙ ap (option_map items_of) (slice_get-get_or vecs i v inside ∙ ap (λ (w : Vec ℕ Global). Some w) (sym is))

-- what holds of each word
pub each_word : (P : List ℕ → Type 0) (vecs : List (Vec ℕ Global)) (i : ℕ) (v : Vec ℕ Global) → All P (map items_of vecs) → i < length vecs → v ≡ get_or vecs i v → P v.items
each_word P vecs i v all inside is = subst (λ (w : Vec ℕ Global). P w.items) (sym is) (mapped_all P items_of vecs all i v inside)

pub word_nets : (p : Source) (ids : List NameId) (all : List Name) (vecs : List (Vec ℕ Global)) (i : ℕ) (v : Vec ℕ Global) → map (name_at p.m.names) ids ≡ all → All (λ w. All (λ k. k < length ids) w) (map items_of vecs) → i < length vecs → v ≡ get_or vecs i v
    → (nets : List Name) × AreNets all v.items nets
word_nets p ids all vecs i v names within inside is =
    let long : length ids ≡ length all = sym (length-map ids (name_at p.m.names)) ∙ ap length names in
    nets_of all v.items (recursion_from_All (λ k. k < length all) v.items (subst (λ (n : ℕ). All (λ k. k < n) v.items) long (each_word (λ w. All (λ k. k < length ids) w) vecs i v within inside is)))

-- the cost of a word, where the state words are those of a layout
pub cost_under : (p : Source) (state : Words) (nets : List Name) (cost : ℕ) → p.state ≡ state → IsWordCost p.file p.library p.m p.code p.mode p.radius p.state nets cost → IsWordCost p.file p.library p.m p.code p.mode p.radius state nets cost
cost_under p state nets cost e is = subst (λ (ws : Words). IsWordCost p.file p.library p.m p.code p.mode p.radius ws nets cost) e is

pub bits_under : (p : Source) (state : Words) (nets : List Name) (costs : List ℕ) → p.state ≡ state → AllZip (bit p) nets costs → AllZip (IsBitCost p.file p.library p.m p.code p.mode p.radius state) nets costs
bits_under p state nets costs e is = subst (λ (ws : Words). AllZip (IsBitCost p.file p.library p.m p.code p.mode p.radius ws) nets costs) e is
