-- Tables of what is kept of each net.
use Rattle.std.proofs.Common.{◌≡◌, refl, sym, ◌∙◌, ap, subst, ℕ, zero, suc, ◌+◌, ◌<◌, List, [], ◌∷◌, ◌++◌, length, map, take, drop, replicate, get_or, set, slice_get, Some, true, All, length-append, append-nil, ◌≤◌, arith}
use Rattle.std.proofs.lemmas.List.{length-map, map-set, take_more, take_all, map-append}
use Rattle.std.proofs.lemmas.Option.{slice_get-get_or}
use Rattle.netlist_spec.specs.Netlist.{Name, are_distinct}
use Rattle.netlist_spec.specs.CellBits.{Bit}
use Rattle.imp_text.specs.declared.names.NameId.{NameId}
use Rattle.blif_read.specs.View.{name_at}
use Rattle.audit_laws.specs.FirstBits.{FirstBits, no_bit, with_bit, named_bits}
use Rattle.audit_laws.proofs.Table.{named_set}
use Rattle.independence_audit.specs.declared.kept.Kept.{Kept}
use Rattle.independence_audit.specs.declared.kept.Kept.TheVariants.{NoBit}
use Rattle.independence_audit.specs.Kept.{first_bits, Keeps}

pub keeps_long : (all : List Name) (table : List Kept) (kept : Name → FirstBits) → Keeps all table kept → length table ≡ length all
keeps_long all table kept k = sym (length-map table first_bits) ∙ (ap length k.entries ∙ length-map all kept)

pub keeps_at : (all : List Name) (table : List Kept) (kept : Name → FirstBits) → Keeps all table kept → (id : NameId) → id.0 < length table → (d : Kept) → first_bits (get_or table id.0 d) ≡ kept (name_at all id)
keeps_at all table kept k id h d = at table all k.entries id.0 h
  where
    at : (xs : List Kept) (ns : List Name) → map first_bits xs ≡ map kept ns → (i : ℕ) → i < length xs → first_bits (get_or xs i d) ≡ kept (get_or ns i [])
    at [] ns e i g = absurd (omega arith)
    at (x ∷ xs) [] e i g = absurd (cc e)
    at (x ∷ xs) (n ∷ ns) e zero g = let f : first_bits x ≡ kept n = cc e in f
    at (x ∷ xs) (n ∷ ns) e (suc i) g = at xs ns (let f : map first_bits xs ≡ map kept ns = cc e in f) i (omega arith)

-- the name of a number is that of its place
pub name_stands : (all : List Name) (id : NameId) → id.0 < length all → slice_get all id.0 ≡ Some (name_at all id)
name_stands all id h = slice_get-get_or all id.0 [] h

pub entry_set : (all : List Name) (table : List Kept) (kept after : Name → FirstBits) (id : NameId) (x : Kept) (entry : FirstBits) → Keeps all table kept → first_bits x ≡ entry → map after all ≡ set (map kept all) id.0 entry → Keeps all (set table id.0 x) after
entry_set all table kept after id x entry k e f =
    record { distinct = k.distinct; entries = map-set first_bits table id.0 x ∙ (ap (λ t. set t id.0 (first_bits x)) k.entries ∙ (ap (set (map kept all) id.0) e ∙ sym f)) }

-- one more bit of a net
pub bit_added : (all ks : List Name) (kind : ℕ → Bit) (kept : Name → FirstBits) (table : List Kept) (id : NameId) (bit : Bit) (x d : Kept) → id.0 < length table → bit ≡ kind (length ks)
    → first_bits x ≡ with_bit bit (first_bits (get_or table id.0 d)) → Keeps all table (λ n. named_bits kind 0 ks n (kept n)) → Keeps all (set table id.0 x) (λ n. named_bits kind 0 (ks ++ name_at all id ∷ []) n (kept n))
bit_added all ks kind kept table id bit x d h e f k =
    let before : Name → FirstBits = λ n. named_bits kind 0 ks n (kept n) in
    let after : Name → FirstBits = λ n. named_bits kind 0 (ks ++ name_at all id ∷ []) n (kept n) in
    let within : id.0 < length all = subst (λ l. id.0 < l) (keeps_long all table before k) h in
    entry_set all table before after id x (with_bit (kind (length ks)) (before (name_at all id))) k (f ∙ (ap (λ b. with_bit b (first_bits (get_or table id.0 d))) e ∙ ap (with_bit (kind (length ks))) (keeps_at all table before k id h d)))
    (named_set all kind ks kept id.0 (name_at all id) k.distinct (name_stands all id within))

-- the names so far
pub names_more : (all : List Name) (ids : List NameId) (i : ℕ) (d : NameId) → i < length ids → map (name_at all) (take (i + 1) ids) ≡ map (name_at all) (take i ids) ++ name_at all (get_or ids i d) ∷ []
names_more all ids i d h = ap (map (name_at all)) (take_more ids i d h) ∙ map-append (name_at all) (take i ids) (get_or ids i d ∷ [])

pub count_so_far : (all : List Name) (ids : List NameId) (i : ℕ) → i < length ids → i ≡ length (map (name_at all) (take i ids))
count_so_far all [] i h = absurd (omega arith)
count_so_far all (x ∷ ids) zero h = refl
count_so_far all (x ∷ ids) (suc i) h = ap suc (count_so_far all ids i (omega arith))

-- the numbers in a `.names`
pub out_within : (n : ℕ) (xs : List NameId) (y : NameId) → All (λ (id : NameId). id.0 < n) (xs ++ y ∷ []) → y.0 < n
out_within n [] y h = h 0 y (omega arith)
out_within n (x ∷ xs) y h = out_within n xs y (λ k d g. h (suc k) d (omega arith))

pub ins_within : (n : ℕ) (xs : List NameId) (y : NameId) → All (λ (id : NameId). id.0 < n) (xs ++ y ∷ []) → All (λ (id : NameId). id.0 < n) xs
ins_within n xs y h = λ k d g. subst (λ (id : NameId). id.0 < n) (front xs k d g) (h k d (omega (arith, length-append xs (y ∷ []))))
  where
    front : (zs : List NameId) (k : ℕ) (d : NameId) → k < length zs → get_or (zs ++ y ∷ []) k d ≡ get_or zs k d
    front [] k d g = absurd (omega arith)
    front (z ∷ zs) zero d g = refl
    front (z ∷ zs) (suc k) d g = front zs k d (omega arith)

-- ---- a table that begins without bits

all_none : (all : List Name) → map first_bits (replicate (length all) NoBit) ≡ map (λ n. no_bit) all
all_none [] = refl
all_none (n ∷ all) = ap (λ ks. no_bit ∷ ks) (all_none all)

pub none_kept : (all : List Name) (items : List Kept) (nets : ℕ) → are_distinct all ≡ true → items ≡ replicate nets NoBit → length all ≡ nets → Keeps all items (λ n. no_bit)
none_kept all items nets d e l = record { distinct = d; entries = ap (map first_bits) (e ∙ ap (λ k. replicate k NoBit) (sym l)) ∙ all_none all }

drop_past : (xs : List Kept) (n : ℕ) → length xs ≤ n → drop n xs ≡ []
drop_past [] zero h = refl
drop_past [] (suc n) h = refl
drop_past (x ∷ xs) zero h = absurd (omega arith)
drop_past (x ∷ xs) (suc n) h = drop_past xs n (omega arith)

-- what is written to a whole slice of a vector is what the vector has
pub written : (after items : List Kept) (len : ℕ) → length after ≡ length items → len ≡ length items → take len (after ++ drop (length after) items) ≡ after
written after items len same long =
    ap (λ rest. take len (after ++ rest)) (drop_past items (length after) (omega arith)) ∙ (ap (take len) (append-nil after) ∙ take_all len after (omega arith))
