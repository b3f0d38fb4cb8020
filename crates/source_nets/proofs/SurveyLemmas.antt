-- The nets of statements, by number and by name.
use Rattle.std.proofs.Common.{◌≡◌, refl, sym, ◌∙◌, ap, ap₂, subst, ℕ, zero, suc, ◌+◌, ◌<◌, List, [], ◌∷◌, ◌++◌, length, map, filter, take, get_or, Bool, true, false, cond, Option, Some, None, slice_get, All, arith}
use Rattle.std.proofs.lemmas.List.{map-append, take_more}
use Rattle.std.specs.List.{AllByRecursion, AllZip}
use Rattle.netlist_spec.specs.Netlist.{Name, stands_in, Statement, names, latch, subckt, Bind, File}
use Rattle.netlist_spec.specs.Covers.{Library}
use Rattle.netlist_spec.specs.Placed.{input_ports, output_ports, actuals_among}
use Rattle.netlist_spec.specs.Sound.{reads, drives}
use Rattle.netlist_spec.proofs.OneValue.{All_append}
use Rattle.imp_text.specs.declared.names.NameId.{NameId}
use Rattle.blif_read.specs.declared.file.Bind.{Bind as ReadBind}
use Rattle.blif_read.specs.declared.file.Located.{Located as ReadLocated}
use Rattle.blif_read.specs.declared.file.Statement.{Statement as ReadStatement}
use Rattle.blif_read.specs.declared.file.Statement.TheVariants.{Names, Latch, Subckt}
use Rattle.blif_read.specs.Ids.{IsIdOf, ids_in}
use Rattle.blif_read.specs.View.{name_at, bind_of, statement_of, located_of}
use Rattle.source_nets.specs.declared.types.Meaning.{Meaning}
use Rattle.source_nets.specs.declared.ports.PortKind.TheVariants.{Input, Output}
use Rattle.source_nets.specs.Ports.{actual_ids, net_ids}
use Rattle.source_nets.specs.Survey.{Means, placed_at}

-- ---- lists side by side

pub zip_push : {A B : Type 0} (R : A → B → Type 0) (xs : List A) (ys : List B) (x : A) (y : B) → AllZip R xs ys → R x y → AllZip R (xs ++ x ∷ []) (ys ++ y ∷ [])
zip_push R [] [] x y all r = (r, tt)
zip_push R [] (b ∷ ys) x y all r = absurd all
zip_push R (a ∷ xs) [] x y all r = absurd all
zip_push R (a ∷ xs) (b ∷ ys) x y all r = (all.0, zip_push R xs ys x y all.1 r)

pub zip_left : {A B : Type 0} (R : A → B → Type 0) (xs : List A) (ys : List B) (i : ℕ) (x : A) (y : B) → AllZip R xs ys → slice_get xs i ≡ Some x → slice_get ys i ≡ Some y → R x y
zip_left R [] ys i x y all e f = cc e
zip_left R (a ∷ xs) [] i x y all e f = absurd all
zip_left {A = A} {B = B} R (a ∷ xs) (b ∷ ys) zero x y all e f =
    let left : a ≡ x = cc e in
    let right : b ≡ y = cc f in
    subst (λ (z : A). R z y) left (subst (λ (z : B). R a z) right all.0)
zip_left R (a ∷ xs) (b ∷ ys) (suc i) x y all e f = zip_left R xs ys i x y all.1 e f

pub zip_length : {A B : Type 0} (R : A → B → Type 0) (xs : List A) (ys : List B) → AllZip R xs ys → length xs ≡ length ys
zip_length R [] [] all = refl
zip_length R [] (y ∷ ys) all = absurd all
zip_length R (x ∷ xs) [] all = absurd all
zip_length R (x ∷ xs) (y ∷ ys) all = ap suc (zip_length R xs ys all.1)

pub zip_mapped : {A B C : Type 0} (R : B → C → Type 0) (f : A → B) (xs : List A) (ys : List C) → AllZip (λ x y. R (f x) y) xs ys → AllZip R (map f xs) ys
zip_mapped R f [] [] all = tt
zip_mapped R f [] (y ∷ ys) all = absurd all
zip_mapped R f (x ∷ xs) [] all = absurd all
zip_mapped R f (x ∷ xs) (y ∷ ys) all = (all.0, zip_mapped R f xs ys all.1)

pub mapped_twice : {A B C : Type 0} (g : B → C) (f : A → B) (xs : List A) → map (λ x. g (f x)) xs ≡ map g (map f xs)
mapped_twice g f [] = refl
mapped_twice g f (x ∷ xs) = ap (λ ys. g (f x) ∷ ys) (mapped_twice g f xs)

-- ---- nets by number and by name

pub actuals_named : (ports all : List Name) (bs : List ReadBind) → map (name_at all) (actual_ids ports bs) ≡ actuals_among ports (map (bind_of all) bs)
actuals_named ports all [] = refl
actuals_named ports all (b ∷ bs) = go (stands_in b.formal ports) (actuals_named ports all bs)
  where
    go : (t : Bool) → map (name_at all) (actual_ids ports bs) ≡ actuals_among ports (map (bind_of all) bs) → map (name_at all) (map (λ (b : ReadBind). b.actual) (cond t (b ∷ filter (λ (b : ReadBind). stands_in b.formal ports) bs) (filter (λ (b : ReadBind). stands_in b.formal ports) bs)))
        ≡ map (λ (b : Bind). b.actual) (cond t (bind_of all b ∷ filter (λ (b : Bind). stands_in b.formal ports) (map (bind_of all) bs)) (filter (λ (b : Bind). stands_in b.formal ports) (map (bind_of all) bs)))
    go true rest = ap (λ ns. name_at all b.actual ∷ ns) rest
    go false rest = rest

module _ (file : File) (library : Library) (all : List Name) (found : Meaning) where
  pub reads_named : (s : ReadStatement) → Means file library (statement_of all s) found → map (name_at all) (net_ids file library Input found s) ≡ reads file library (statement_of all s)
  reads_named (Names ins out cover) h = refl
  reads_named (Latch d q clocking init) h = refl
  reads_named (Subckt model binds) h =
      actuals_named (input_ports (placed_at file library found)) all binds.items
      ∙ ap (λ p. actuals_among (input_ports p) (map (bind_of all) binds.items)) h.0

  pub drives_named : (s : ReadStatement) → Means file library (statement_of all s) found → map (name_at all) (net_ids file library Output found s) ≡ drives file library (statement_of all s)
  drives_named (Names ins out cover) h = refl
  drives_named (Latch d q clocking init) h = refl
  drives_named (Subckt model binds) h =
      actuals_named (output_ports (placed_at file library found)) all binds.items
      ∙ ap (λ p. actuals_among (output_ports p) (map (bind_of all) binds.items)) h.0

-- ---- numbers of names

front : {A : Type 0} (P : A → Type 0) (xs ys : List A) → AllByRecursion P (xs ++ ys) → AllByRecursion P xs
front P [] ys a = tt
front P (x ∷ xs) ys a = (a.0, front P xs ys a.1)

back : {A : Type 0} (P : A → Type 0) (xs ys : List A) → AllByRecursion P (xs ++ ys) → AllByRecursion P ys
back P [] ys a = a
back P (x ∷ xs) ys a = back P xs ys a.1

actuals_within : (P : NameId → Type 0) (ports : List Name) (bs : List ReadBind) → AllByRecursion P (map (λ (b : ReadBind). b.actual) bs) → AllByRecursion P (actual_ids ports bs)
actuals_within P ports [] a = tt
actuals_within P ports (b ∷ bs) a = go (stands_in b.formal ports) (actuals_within P ports bs a.1)
  where
    go : (t : Bool) → AllByRecursion P (actual_ids ports bs) → AllByRecursion P (map (λ (b : ReadBind). b.actual) (cond t (b ∷ filter (λ (b : ReadBind). stands_in b.formal ports) bs) (filter (λ (b : ReadBind). stands_in b.formal ports) bs)))
    go true rest = (a.0, rest)
    go false rest = rest

module _ (file : File) (library : Library) (found : Meaning) (P : NameId → Type 0) where
  pub reads_within : (s : ReadStatement) → AllByRecursion P (ids_in s) → AllByRecursion P (net_ids file library Input found s)
  reads_within (Names ins out cover) a = front P ins.items (out ∷ []) a
  reads_within (Latch d q clocking init) a = (a.0, tt)
  reads_within (Subckt model binds) a = actuals_within P (input_ports (placed_at file library found)) binds.items a

  pub drives_within : (s : ReadStatement) → AllByRecursion P (ids_in s) → AllByRecursion P (net_ids file library Output found s)
  drives_within (Names ins out cover) a = back P ins.items (out ∷ []) a
  drives_within (Latch d q clocking init) a = (a.1.0, tt)
  drives_within (Subckt model binds) a = actuals_within P (output_ports (placed_at file library found)) binds.items a

pub all_push : {A : Type 0} (P : A → Type 0) (xs : List A) (x : A) → AllByRecursion P xs → P x → AllByRecursion P (xs ++ x ∷ [])
all_push P xs x a p = All_append P xs (x ∷ []) a (p, tt)

-- ---- at a place

pub row_at : {A B : Type 0} (f : A → B) (xs : List A) (i : ℕ) (x : A) → slice_get xs i ≡ Some x → slice_get (map f xs) i ≡ Some (f x)
row_at f [] i x e = absurd (cc e)
row_at f (y ∷ xs) zero x e = let same : y ≡ x = cc e in ap (λ z. Some (f z)) same
row_at f (y ∷ xs) (suc i) x e = row_at f xs i x e

pub all_at : {A : Type 0} (P : A → Type 0) (xs : List A) (i : ℕ) (x : A) → AllByRecursion P xs → slice_get xs i ≡ Some x → P x
all_at P [] i x a e = cc e
all_at P (y ∷ xs) zero x a e = let same : y ≡ x = cc e in subst P same a.0
all_at P (y ∷ xs) (suc i) x a e = all_at P xs i x a.1 e

-- what stands at a place of lists that are the same
pub same_at : {A : Type 0} (xs ys : List A) (i : ℕ) (x y : A) → xs ≡ ys → slice_get xs i ≡ Some x → slice_get ys i ≡ Some y → x ≡ y
same_at xs ys i x y e f g = let both : Some x ≡ Some y = sym f ∙ ap (λ zs. slice_get zs i) e ∙ g in cc both

-- ---- one more

map-step : {A B : Type 0} (f : A → B) (xs : List A) (i : ℕ) (d : A) → i < length xs → map f (take (i + 1) xs) ≡ map f (take i xs) ++ f (get_or xs i d) ∷ []
map-step f xs i d h = ap (map f) (take_more xs i d h) ∙ map-append f (take i xs) (get_or xs i d ∷ [])

pub zip_get : {A B : Type 0} (R : A → B → Type 0) (xs : List A) (ys : List B) (i : ℕ) (d : A) (e : B) → AllZip R xs ys → i < length xs → R (get_or xs i d) (get_or ys i e)
zip_get R [] ys i d e all h = absurd (omega arith)
zip_get R (x ∷ xs) [] i d e all h = absurd all
zip_get R (x ∷ xs) (y ∷ ys) zero d e all h = all.0
zip_get R (x ∷ xs) (y ∷ ys) (suc i) d e all h = zip_get R xs ys i d e all.1 (omega arith)

pub zip_right : {A B : Type 0} (R : A → B → Type 0) (xs : List A) (ys : List B) (i : ℕ) (x : A) → AllZip R xs ys → slice_get xs i ≡ Some x → (y : B) × (slice_get ys i ≡ Some y) × R x y
zip_right R [] ys i x all e = cc e
zip_right R (a ∷ xs) [] i x all e = absurd all
zip_right {A = A} R (a ∷ xs) (b ∷ ys) zero x all e = let same : a ≡ x = cc e in (b, refl, subst (λ (z : A). R z b) same all.0)
zip_right R (a ∷ xs) (b ∷ ys) (suc i) x all e = zip_right R xs ys i x all.1 e

pub zip_more : {A B : Type 0} (R : A → B → Type 0) (xs : List A) (ys : List B) (i : ℕ) (x : A) (y : B) → i < length xs → x ≡ get_or xs i x → AllZip R (take i xs) ys → R x y → AllZip R (take (i + 1) xs) (ys ++ y ∷ [])
zip_more {A = A} R xs ys i x y h is all r =
    subst (λ (zs : List A). AllZip R zs (ys ++ y ∷ [])) (sym (take_more xs i x h ∙ ap (λ z. take i xs ++ z ∷ []) (sym is))) (zip_push R (take i xs) ys x y all r)

pub rows_more : {X : Type 0} (f : X → List Name) (all : List Name) (rows new : List (List NameId)) (ids : List NameId) (xs : List X) (i : ℕ) (x : X) → i < length xs → x ≡ get_or xs i x → new ≡ rows ++ ids ∷ []
    → map (map (name_at all)) rows ≡ map f (take i xs) → map (name_at all) ids ≡ f x → map (map (name_at all)) new ≡ map f (take (i + 1) xs)
rows_more f all rows new ids xs i x h is e before one =
    ap (map (map (name_at all))) e
    ∙ map-append (map (name_at all)) rows (ids ∷ [])
    ∙ ap₂ (λ (a : List (List Name)) (b : List Name). a ++ b ∷ []) before one
    ∙ sym (map-step f xs i x h ∙ ap (λ z. map f (take i xs) ++ f z ∷ []) (sym is))

pub within_more : (P : NameId → Type 0) (rows new : List (List NameId)) (ids : List NameId) → new ≡ rows ++ ids ∷ [] → AllByRecursion (AllByRecursion P) rows → AllByRecursion P ids → AllByRecursion (AllByRecursion P) new
within_more P rows new ids e before one = subst (AllByRecursion (AllByRecursion P)) (sym e) (all_push (AllByRecursion P) rows ids before one)
