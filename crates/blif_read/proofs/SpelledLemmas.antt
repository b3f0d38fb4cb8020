-- What stands for names that are numbered one after another, and for the words of a line.
use Rattle.std.proofs.Common.{◌≡◌, ℕ, zero, suc, ◌+◌, ◌-◌, ◌<◌, ◌≤◌, List, [], ◌∷◌, ◌++◌, length, map, take, drop, get_or, slice_get, Option, None, Some, Bool, true, false, ◌||◌, refl, sym, subst, ap, ap₂, ◌∙◌, append_assoc, append-nil, length-append, add-one, arith, All, Vec}
use Rattle.std.specs.Prelude.{◌==◌, option_map, option_to_list, if◌then◌else◌, IsSome}
use Rattle.std.specs.declared.alloc.Global.{Global}
use Rattle.std.specs.List.{AllByRecursion}
use Rattle.std.proofs.lemmas.List.{map-append, take_rest}
use Rattle.std.proofs.lemmas.Option.{get_or_from_slice_get, slice_get_within}
use denote.Ref.{Bor}
use Rattle.netlist_spec.specs.Lines.{Word}
use Rattle.netlist_spec.specs.Netlist.{Name, IsName, Row, Cover, Clocking, edge, Bind, Statement, names, latch, subckt, Port}
use Rattle.netlist_spec.specs.Statements.{IsBind, Said, model_line, inputs_line, outputs_line, clock_line, names_line, row_line, latch_line, subckt_line, end_line}
use Rattle.netlist_spec.specs.ReadFaults.{has_equals, formal_part, actual_part}
use Rattle.netlist_spec.specs.Reads.{first_appearances, cover_of, control_nets, ports_at}
use Rattle.netlist_spec.specs.Said.{all_but_last, last_of, latch_said, subckt_said, word_bind, word_control, word_rises}
use Rattle.imp_text.specs.declared.names.NameId.{NameId}
use Rattle.imp_text.specs.declared.cover.Cover.{Cover as ReadCover}
use Rattle.imp_text.specs.Names.{with_name}
use Rattle.imp_text.proofs.NamesLemmas.{with_name_grows, first_appearances_push, slice_get-append_left}
use Rattle.blif_read.specs.declared.file.Port.{Port as ReadPort}
use Rattle.blif_read.specs.declared.file.Bind.{Bind as ReadBind}
use Rattle.blif_read.specs.declared.file.Clocking.{Clocking as ReadClocking}
use Rattle.blif_read.specs.declared.file.Clocking.TheVariants.{Edge}
use Rattle.blif_read.specs.declared.file.Statement.{Statement as ReadStatement}
use Rattle.blif_read.specs.declared.file.Statement.TheVariants.{Names, Latch, Subckt}
use Rattle.blif_read.specs.Ids.{IsIdOf, control_ids}
use Rattle.blif_read.specs.LineTests.{words_in, port_parts, parts_now}
use Rattle.blif_read.specs.View.{name_at, row_of, clocking_of, bind_of, statement_of, port_of}
use Rattle.blif_read.specs.Spelled.{with_names, AreNumbers, port_at, AddsPorts, Spells, statement_said, nets_said, nets_of, clocking_said, init_said, AreBinds}

same_names : (a a' : List Name) (b b' : Name) (c c' : Cover) → a ≡ a' → b ≡ b' → c ≡ c' → names a b c ≡ names a' b' c'
same_names a a' b b' c c' ea eb ec = cc

same_latch : (a a' b b' : Name) (c c' : Clocking) (i i' : Option ℕ) → a ≡ a' → b ≡ b' → c ≡ c' → i ≡ i' → latch a b c i ≡ latch a' b' c' i'
same_latch a a' b b' c c' i i' ea eb ec ei = cc

-- Names that are looked up.

pub with_names-append : (seen xs ys : List Name) → with_names seen (xs ++ ys) ≡ with_names (with_names seen xs) ys
with_names-append seen [] ys = refl
with_names-append seen (x ∷ xs) ys = with_names-append (with_name seen x) xs ys

pub with_names-first : (xs ys : List Name) → with_names (first_appearances xs) ys ≡ first_appearances (xs ++ ys)
with_names-first xs [] = ap first_appearances (sym (append-nil xs))
with_names-first xs (y ∷ ys) =
    ap (λ l. with_names l ys) (sym (first_appearances_push xs y)) ∙ with_names-first (xs ++ y ∷ []) ys
    ∙ ap first_appearances (append_assoc xs (y ∷ []) ys)

pub with_names-grows : (seen ns : List Name) → (more : List Name) × (with_names seen ns ≡ seen ++ more) × (length more ≤ length ns)
with_names-grows seen [] = ([], sym (append-nil seen), omega arith)
with_names-grows seen (n ∷ ns) =
    let one = with_name_grows seen n in
    let rest = with_names-grows (with_name seen n) ns in
    let few : length (one.0 ++ rest.0) ≤ suc (length ns) = omega (arith, length-append one.0 rest.0, one.2, rest.2) in
    (one.0 ++ rest.0, rest.1 ∙ ap (λ l. l ++ rest.0) one.1 ∙ append_assoc seen one.0 rest.0, few)

-- Numbers of names.

pub numbers_kept : (all more : List Name) (ids : List NameId) (ns : List Name) → AreNumbers all ids ns → AreNumbers (all ++ more) ids ns
numbers_kept all more [] [] h = tt
numbers_kept all more [] (n ∷ ns) h = absurd h
numbers_kept all more (id ∷ ids) [] h = absurd h
numbers_kept all more (id ∷ ids) (n ∷ ns) h = (slice_get-append_left all more id.0 n h.0, numbers_kept all more ids ns h.1)

pub numbers_push : (all : List Name) (ids : List NameId) (ns : List Name) (id : NameId) (n : Name) → AreNumbers all ids ns → slice_get all id.0 ≡ Some n → AreNumbers all (ids ++ id ∷ []) (ns ++ n ∷ [])
numbers_push all [] [] id n h e = (e, tt)
numbers_push all [] (m ∷ ns) id n h e = absurd h
numbers_push all (i ∷ ids) [] id n h e = absurd h
numbers_push all (i ∷ ids) (m ∷ ns) id n h e = (h.0, numbers_push all ids ns id n h.1 e)

pub numbers-later : (all ns later : List Name) (ids : List NameId) (spelled : List Name) → later ≡ with_names all ns → AreNumbers all ids spelled → AreNumbers later ids spelled
numbers-later all ns later ids spelled is h =
    let grown = with_names-grows all ns in
    subst (λ (l : List Name). AreNumbers l ids spelled) (sym (is ∙ grown.1)) (numbers_kept all grown.0 ids spelled h)

pub number-later : (all ns later : List Name) (id : NameId) (n : Name) → later ≡ with_names all ns → slice_get all id.0 ≡ Some n → slice_get later id.0 ≡ Some n
number-later all ns later id n is h =
    let grown = with_names-grows all ns in
    subst (λ (l : List Name). slice_get l id.0 ≡ Some n) (sym (is ∙ grown.1)) (slice_get-append_left all grown.0 id.0 n h)

pub name-is : (all more : List Name) (id : NameId) (n : Name) → slice_get all id.0 ≡ Some n → name_at (all ++ more) id ≡ n
name-is all more id n h = get_or_from_slice_get (all ++ more) id.0 n [] (slice_get-append_left all more id.0 n h)

pub names-are : (all more : List Name) (ids : List NameId) (ns : List Name) → AreNumbers all ids ns → map (name_at (all ++ more)) ids ≡ ns
names-are all more [] [] h = refl
names-are all more [] (n ∷ ns) h = absurd h
names-are all more (id ∷ ids) [] h = absurd h
names-are all more (id ∷ ids) (n ∷ ns) h = ap₂ (λ (m : Name) (ms : List Name). m ∷ ms) (name-is all more id n h.0) (names-are all more ids ns h.1)

pub numbers-within : (all : List Name) (ids : List NameId) (ns : List Name) → AreNumbers all ids ns → AllByRecursion (IsIdOf all) ids
numbers-within all [] [] h = tt
numbers-within all [] (n ∷ ns) h = tt
numbers-within all (id ∷ ids) [] h = absurd h
numbers-within all (id ∷ ids) (n ∷ ns) h = (slice_get_within all id.0 n h.0, numbers-within all ids ns h.1)

pub length-numbers : (all : List Name) (ids : List NameId) (ns : List Name) → AreNumbers all ids ns → length ids ≡ length ns
length-numbers all [] [] h = refl
length-numbers all [] (n ∷ ns) h = absurd h
length-numbers all (id ∷ ids) [] h = absurd h
length-numbers all (id ∷ ids) (n ∷ ns) h = ap suc (length-numbers all ids ns h.1)

-- one more name
pub numbers-next : (start all new : List Name) (ids : List NameId) (xs ys : List Name) (id : NameId) (n : Name) → ys ≡ xs ++ n ∷ [] → all ≡ with_names start xs → AreNumbers all ids xs → new ≡ with_name all n → slice_get new id.0 ≡ Some n → (new ≡ with_names start ys) × AreNumbers new (ids ++ id ∷ []) ys × (length new ≤ length all + 1)
numbers-next start all new ids xs ys id n more was h is at =
    let grown = with_name_grows all n in
    let kept = subst (λ (l : List Name). AreNumbers l ids xs) (sym (is ∙ grown.1)) (numbers_kept all grown.0 ids xs h) in
    let few : length new ≤ length all + 1 = omega (arith, ap length (is ∙ grown.1), length-append all grown.0, grown.2) in (
      is ∙ ap (λ l. with_name l n) was ∙ sym (with_names-append start xs (n ∷ [])) ∙ ap (with_names start) (sym more),
      subst (λ (l : List Name). AreNumbers new (ids ++ id ∷ []) l) (sym more) (numbers_push new ids xs id n kept at),
      few,
    )

-- one more item
step : {A B : Type 0} (f : A → B) (xs : List A) (i : ℕ) (d : A) → i < length xs → map f (take (suc i) xs) ≡ map f (take i xs) ++ f (get_or xs i d) ∷ []
step f [] i d h = absurd (omega arith)
step f (x ∷ xs) zero d h = refl
step f (x ∷ xs) (suc i) d h = ap (λ l. f x ∷ l) (step f xs i d (omega arith))

pub map-step : {A B : Type 0} (f : A → B) (xs : List A) (i : ℕ) (d : A) → i < length xs → map f (take (i + 1) xs) ≡ map f (take i xs) ++ f (get_or xs i d) ∷ []
map-step f xs i d h = rw add-one (step f xs i d h)

step_of : {A B C : Type 0} (f : B → C) (h : A → B) (xs : List A) (i : ℕ) (d : A) → i < length xs → map f (map h (take (suc i) xs)) ≡ map f (map h (take i xs)) ++ f (h (get_or xs i d)) ∷ []
step_of f h [] i d inside = absurd (omega arith)
step_of f h (x ∷ xs) zero d inside = refl
step_of f h (x ∷ xs) (suc i) d inside = ap (λ l. f (h x) ∷ l) (step_of f h xs i d (omega arith))

pub map-step_of : {A B C : Type 0} (f : B → C) (h : A → B) (xs : List A) (i : ℕ) (d : A) → i < length xs → map f (map h (take (i + 1) xs)) ≡ map f (map h (take i xs)) ++ f (h (get_or xs i d)) ∷ []
map-step_of f h xs i d inside = rw add-one (step_of f h xs i d inside)

pub all-at : {A : Type 0} (P : A → Type 0) (xs : List A) → AllByRecursion P xs → All P xs
all-at P [] h k d inside = absurd (omega arith)
all-at P (x ∷ xs) h zero d inside = h.0
all-at P (x ∷ xs) h (suc k) d inside = all-at P xs h.1 k d (omega arith)

pub mapped-at : {A B : Type 0} (P : B → Type 0) (f : A → B) (xs : List A) → AllByRecursion P (map f xs) → (k : ℕ) (d : A) → k < length xs → P (f (get_or xs k d))
mapped-at P f [] h k d inside = absurd (omega arith)
mapped-at P f (x ∷ xs) h zero d inside = h.0
mapped-at P f (x ∷ xs) h (suc k) d inside = mapped-at P f xs h.1 k d (omega arith)

pub all_cons : {A : Type 0} (P : A → Type 0) (x : A) (xs : List A) → P x → All P xs → All P (x ∷ xs)
all_cons P x xs p h zero d inside = p
all_cons P x xs p h (suc k) d inside = h k d (omega arith)

pub all_end : {A : Type 0} (P : A → Type 0) (xs : List A) (x : A) → AllByRecursion P xs → P x → All P (xs ++ x ∷ [])
all_end P [] x h p = all_cons P x [] p (λ k d inside. absurd (omega arith))
all_end P (y ∷ xs) x h p = all_cons P y (xs ++ x ∷ []) h.0 (all_end P xs x h.1 p)

pub one-within : (all : List Name) (id : NameId) (name : Name) → slice_get all id.0 ≡ Some name → All (IsIdOf all) (id ∷ [])
one-within all id name at = all-at (IsIdOf all) (id ∷ []) (slice_get_within all id.0 name at, tt)

pub with_names-long : (seen ns : List Name) → length (with_names seen ns) ≤ length seen + length ns
with_names-long seen ns = let grown = with_names-grows seen ns in omega (arith, ap length grown.1, length-append seen grown.0, grown.2)

pub with_names-none : (ns : List Name) → with_names [] ns ≡ first_appearances ns
with_names-none ns = with_names-first [] ns

-- Ports.

pub ports-said : (all more : List Name) (n : ℕ) (ids : List NameId) (spelled : List Name) → AreNumbers all ids spelled → map (port_of (all ++ more)) (map (port_at n) ids) ≡ ports_at n spelled
ports-said all more n [] [] h = refl
ports-said all more n [] (m ∷ ms) h = absurd h
ports-said all more n (id ∷ ids) [] h = absurd h
ports-said all more n (id ∷ ids) (m ∷ ms) h =
    ap₂ (λ (name : Name) (ports : List Port). record { name = name; line = n } ∷ ports) (name-is all more id m h.0) (ports-said all more n ids ms h.1)

pub ports-within : (all : List Name) (n : ℕ) (ids : List NameId) (spelled : List Name) → AreNumbers all ids spelled → AllByRecursion (λ (port : ReadPort). IsIdOf all port.name) (map (port_at n) ids)
ports-within all n [] [] h = tt
ports-within all n [] (m ∷ ms) h = tt
ports-within all n (id ∷ ids) [] h = absurd h
ports-within all n (id ∷ ids) (m ∷ ms) h = (slice_get_within all id.0 m h.0, ports-within all n ids ms h.1)

pub adds-none : (all : List Name) (n : ℕ) (old : List ReadPort) → AddsPorts all n [] old old
adds-none all n old = ([], sym (append-nil old), tt)

-- one more port
pub adds-next : (start all new : List Name) (n : ℕ) (xs ys : List Name) (old before after : List ReadPort) (id : NameId) (name : Name) → ys ≡ xs ++ name ∷ [] → all ≡ with_names start xs → AddsPorts all n xs old before → new ≡ with_name all name → slice_get new id.0 ≡ Some name → after ≡ before ++ record { name = id; line = n } ∷ [] → (new ≡ with_names start ys) × AddsPorts new n ys old after × (length new ≤ length all + 1)
adds-next start all new n xs ys old before after id name more was h is at pushed =
    let next = numbers-next start all new h.0 xs ys id name more was h.2 is at in
    (next.0, (h.0 ++ id ∷ [], pushed ∙ ap (λ (l : List ReadPort). l ++ port_at n id ∷ []) h.1 ∙ append_assoc old (map (port_at n) h.0) (port_at n id ∷ []) ∙ ap (λ (l : List ReadPort). old ++ l) (sym (map-append (port_at n) h.0 (id ∷ []))), next.1), next.2)

-- Words that are lent.

pub words-behind : (k : ℕ) (ws : List (Bor Word)) → words_in (drop k ws) ≡ drop k (words_in ws)
words-behind zero ws = refl
words-behind (suc k) [] = refl
words-behind (suc k) (w ∷ ws) = words-behind k ws

pub words-rest : (k : ℕ) (ws : List (Bor Word)) → words_in (take (length ws - k) (drop k ws)) ≡ drop k (words_in ws)
words-rest k ws = ap words_in (take_rest ws k) ∙ words-behind k ws

-- a loop's next word
pub words-step : (ws : List (Bor Word)) (i : ℕ) (d : Bor Word) → i < length ws → words_in (take (i + 1) ws) ≡ words_in (take i ws) ++ (get_or ws i d).now ∷ []
words-step ws i d h = map-step (λ (w : Bor Word). w.now) ws i d h

pub word-at : (P : Word → Type 0) (ws : List (Bor Word)) → AllByRecursion P (words_in ws) → (k : ℕ) (d : Bor Word) → k < length ws → P (get_or ws k d).now
word-at P ws h k d inside = mapped-at P (λ (w : Bor Word). w.now) ws h k d inside

pub front-words : (ws : List (Bor Word)) (n : ℕ) → n + 1 ≡ length ws → words_in (take n ws) ≡ all_but_last (words_in ws)
front-words [] n h = absurd (omega arith)
front-words (w ∷ []) zero h = refl
front-words (w ∷ []) (suc n) h = absurd (omega arith)
front-words (w ∷ v ∷ ws) zero h = absurd (omega arith)
front-words (w ∷ v ∷ ws) (suc n) h = ap (λ (l : List Word). w.now ∷ l) (front-words (v ∷ ws) n (omega arith))

pub last-word : (ws : List (Bor Word)) (n : ℕ) (d : Bor Word) → n + 1 ≡ length ws → (get_or ws n d).now ≡ last_of (words_in ws)
last-word [] n d h = absurd (omega arith)
last-word (w ∷ []) zero d h = refl
last-word (w ∷ []) (suc n) d h = absurd (omega arith)
last-word (w ∷ v ∷ ws) zero d h = absurd (omega arith)
last-word (w ∷ v ∷ ws) (suc n) d h = last-word (v ∷ ws) n d (omega arith)

pub some-last : (ws : List (Bor Word)) → IsName (last_of (words_in ws)) → 0 < length ws
some-last [] h = absurd (omega (arith, h.0))
some-last (w ∷ ws) h = omega arith

-- `.names`.

pub names-all : (start n1 n2 front : List Name) (y : Name) → n1 ≡ with_names start front → n2 ≡ with_name n1 y → n2 ≡ with_names start (front ++ y ∷ [])
names-all start n1 n2 front y e1 e2 = e2 ∙ ap (λ l. with_name l y) e1 ∙ sym (with_names-append start front (y ∷ []))

pub names-spelled : (all new : List Name) (ins : Vec NameId Global) (out : NameId) (cover : ReadCover) (front : List Name) (last : Name) → AreNumbers all ins.items front → new ≡ with_name all last → slice_get new out.0 ≡ Some last → cover.on ≡ true → cover.rows.items ≡ [] → Spells new (Names ins out cover) (names front last (cover_of []))
names-spelled all new ins out cover front last numbers is at on none =
    let later = numbers-later all (last ∷ []) new ins.items front is numbers in
    record {
      same = λ more. same_names _ _ _ _ _ _ (names-are new more ins.items front later) (name-is new more out last at) (ap₂ (λ (b : Bool) (rows : List Row). record { on = b; rows = rows }) on (ap (map row_of) none));
      within = all_end (IsIdOf new) ins.items out (numbers-within new ins.items front later) (slice_get_within new out.0 last at);
    }

-- `.latch`.

pub control-named : (all more : List Name) (id : Option NameId) (n : Option Name) → AreNumbers all (option_to_list id) (option_to_list n) → option_map (name_at (all ++ more)) id ≡ n
control-named all more None None h = refl
control-named all more None (Some n) h = absurd h
control-named all more (Some id) None h = absurd h
control-named all more (Some id) (Some n) h = ap Some (name-is all more id n h.0)

pub control-within : (all : List Name) (rising : Bool) (id : Option NameId) (n : Option Name) → AreNumbers all (option_to_list id) (option_to_list n) → All (IsIdOf all) (control_ids (Edge rising id))
control-within all rising None n h = λ k d inside. absurd (omega arith)
control-within all rising (Some id) None h = absurd h
control-within all rising (Some id) (Some n) h = one-within all id n h.0

pub latch-spelled : (n1 n2 n3 : List Name) (d q : NameId) (clocking : ReadClocking) (init i : Option ℕ) (dn qn : Name) (c : Clocking) → slice_get n1 d.0 ≡ Some dn → n2 ≡ with_name n1 qn → slice_get n2 q.0 ≡ Some qn → n3 ≡ with_names n2 (control_nets c) → ((more : List Name) → clocking_of (n3 ++ more) clocking ≡ c) → All (IsIdOf n3) (control_ids clocking) → init ≡ i → Spells n3 (Latch d q clocking init) (latch dn qn c i)
latch-spelled n1 n2 n3 d q clocking init i dn qn c at e2 here e3 same inside is =
    let at3 = number-later n2 (control_nets c) n3 d dn e3 (number-later n1 (qn ∷ []) n2 d dn e2 at) in
    let here3 = number-later n2 (control_nets c) n3 q qn e3 here in
    record {
      same = λ more. same_latch _ _ _ _ _ _ _ _ (name-is n3 more d dn at3) (name-is n3 more q qn here3) (same more) is;
      within = all_cons (IsIdOf n3) d (q ∷ control_ids clocking) (slice_get_within n3 d.0 dn at3) (all_cons (IsIdOf n3) q (control_ids clocking) (slice_get_within n3 q.0 qn here3) inside);
    }

latch_by_parts : (d q : Word) (ws : List Word) → latch_said (d ∷ q ∷ ws) ≡ latch_line d q (clocking_said ws) (init_said ws)
latch_by_parts d q [] = refl
latch_by_parts d q (i ∷ []) = refl
latch_by_parts d q (t ∷ c ∷ []) = refl
latch_by_parts d q (t ∷ c ∷ i ∷ ws) = refl

pub latch-parts : (ws : List (Bor Word)) (e : Bor Word) → 2 ≤ length ws → latch_said (words_in ws) ≡ latch_line (get_or ws 0 e).now (get_or ws 1 e).now (clocking_said (words_in (drop 2 ws))) (init_said (words_in (drop 2 ws)))
latch-parts [] e two = absurd (omega arith)
latch-parts (d ∷ []) e two = absurd (omega arith)
latch-parts (d ∷ q ∷ ws) e two = latch_by_parts d.now q.now (words_in ws)

pub clocking-parts : (ws : List (Bor Word)) (e : Bor Word) → 2 ≤ length ws → clocking_said (words_in ws) ≡ edge (word_rises (get_or ws 0 e).now) (word_control (get_or ws 1 e).now)
clocking-parts [] e two = absurd (omega arith)
clocking-parts (t ∷ []) e two = absurd (omega arith)
clocking-parts (t ∷ c ∷ ws) e two = refl

-- `.subckt`.

pub subckt-parts : (ws : List (Bor Word)) (e : Bor Word) → 0 < length ws → subckt_said (words_in ws) ≡ subckt_line (get_or ws 0 e).now (map word_bind (words_in (drop 1 ws)))
subckt-parts [] e some = absurd (omega arith)
subckt-parts (m ∷ ws) e some = refl

pub binds_kept : (all more : List Name) (binds : List ReadBind) (spelled : List Bind) → AreBinds all binds spelled → AreBinds (all ++ more) binds spelled
binds_kept all more [] [] h = tt
binds_kept all more [] (s ∷ ss) h = absurd h
binds_kept all more (b ∷ bs) [] h = absurd h
binds_kept all more (b ∷ bs) (s ∷ ss) h = ((h.0.0, slice_get-append_left all more b.actual.0 s.actual h.0.1), binds_kept all more bs ss h.1)

binds_push : (all : List Name) (bs : List ReadBind) (ss : List Bind) (b : ReadBind) (s : Bind) → AreBinds all bs ss → b.formal ≡ s.formal → slice_get all b.actual.0 ≡ Some s.actual → AreBinds all (bs ++ b ∷ []) (ss ++ s ∷ [])
binds_push all [] [] b s h f e = ((f, e), tt)
binds_push all [] (t ∷ ss) b s h f e = absurd h
binds_push all (c ∷ bs) [] b s h f e = absurd h
binds_push all (c ∷ bs) (t ∷ ss) b s h f e = (h.0, binds_push all bs ss b s h.1 f e)

pub binds-are : (all more : List Name) (bs : List ReadBind) (ss : List Bind) → AreBinds all bs ss → map (bind_of (all ++ more)) bs ≡ ss
binds-are all more [] [] h = refl
binds-are all more [] (s ∷ ss) h = absurd h
binds-are all more (b ∷ bs) [] h = absurd h
binds-are all more (b ∷ bs) (s ∷ ss) h =
    ap₂ (λ (x : Bind) (xs : List Bind). x ∷ xs) (ap₂ (λ (f a : Name). record { formal = f; actual = a }) h.0.0 (name-is all more b.actual s.actual h.0.1)) (binds-are all more bs ss h.1)

pub binds-within : (all : List Name) (bs : List ReadBind) (ss : List Bind) → AreBinds all bs ss → AllByRecursion (IsIdOf all) (map (λ (b : ReadBind). b.actual) bs)
binds-within all [] [] h = tt
binds-within all [] (s ∷ ss) h = tt
binds-within all (b ∷ bs) [] h = absurd h
binds-within all (b ∷ bs) (s ∷ ss) h = (slice_get_within all b.actual.0 s.actual h.0.1, binds-within all bs ss h.1)

pub bound-at : (ws : List (Bor Word)) → AllByRecursion IsBind (map word_bind (words_in ws)) → (k : ℕ) (d : Bor Word) → k < length ws → IsBind (word_bind (get_or ws k d).now)
bound-at [] h k d inside = absurd (omega arith)
bound-at (w ∷ ws) h zero d inside = h.0
bound-at (w ∷ ws) h (suc k) d inside = bound-at ws h.1 k d (omega arith)

-- one more port word
pub binds-next : (start all new : List Name) (bs : List ReadBind) (xs ys : List Word) (b : ReadBind) (w : Word) → ys ≡ xs ++ w ∷ [] → all ≡ with_names start (map actual_part xs) → AreBinds all bs (map word_bind xs) → new ≡ with_name all (actual_part w) → b.formal ≡ formal_part w → slice_get new b.actual.0 ≡ Some (actual_part w) → (new ≡ with_names start (map actual_part ys)) × AreBinds new (bs ++ b ∷ []) (map word_bind ys) × (length new ≤ length all + 1)
binds-next start all new bs xs ys b w more was h is formal at =
    let grown = with_name_grows all (actual_part w) in
    let kept = subst (λ (l : List Name). AreBinds l bs (map word_bind xs)) (sym (is ∙ grown.1)) (binds_kept all grown.0 bs (map word_bind xs) h) in
    let few : length new ≤ length all + 1 = omega (arith, ap length (is ∙ grown.1), length-append all grown.0, grown.2) in
    let names : map actual_part ys ≡ map actual_part xs ++ actual_part w ∷ [] = ap (map actual_part) more ∙ map-append actual_part xs (w ∷ []) in
    let binds : map word_bind ys ≡ map word_bind xs ++ word_bind w ∷ [] = ap (map word_bind) more ∙ map-append word_bind xs (w ∷ []) in (
      is ∙ ap (λ l. with_name l (actual_part w)) was ∙ sym (with_names-append start (map actual_part xs) (actual_part w ∷ [])) ∙ ap (with_names start) (sym names),
      subst (λ (l : List Bind). AreBinds new (bs ++ b ∷ []) l) (sym binds) (binds_push new bs (map word_bind xs) b (word_bind w) kept formal at),
      few,
    )

pub actuals-are : (ws : List Word) → map (λ (b : Bind). b.actual) (map word_bind ws) ≡ map actual_part ws
actuals-are [] = refl
actuals-are (w ∷ ws) = ap (λ (l : List Name). actual_part w ∷ l) (actuals-are ws)

pub subckt-spelled : (all : List Name) (model m : Name) (binds : Vec ReadBind Global) (ss : List Bind) → model ≡ m → AreBinds all binds.items ss → Spells all (Subckt model binds) (subckt m ss)
subckt-spelled all model m binds ss is h =
    record {
      same = λ more. ap₂ (λ (n : Name) (bs : List Bind). subckt n bs) is (binds-are all more binds.items ss h);
      within = all-at (IsIdOf all) _ (binds-within all binds.items ss h);
    }

actual_some : (w : Word) → 0 < length (actual_part w) → has_equals w ≡ true
actual_some [] h = absurd (omega arith)
actual_some (c ∷ cs) h = at (c == 61) (actual_some cs) h
  where
    at : (b : Bool) → (0 < length (actual_part cs) → has_equals cs ≡ true) → 0 < length (if b then cs else actual_part cs) → (b || has_equals cs) ≡ true
    at true rest h = refl
    at false rest h = rest h

pub bind-some : (w : Word) (found : Option (Bor Word × Bor Word)) → IsBind (word_bind w) → parts_now found ≡ port_parts w → IsSome found
bind-some w None h e =
    let has = actual_some w h.2.0 in
    let parts : port_parts w ≡ Some (formal_part w, actual_part w) = ap (λ (b : Bool). if b then Some (formal_part w, actual_part w) else None) has in
    absurd (cc (e, parts))
bind-some w (Some parts) h e = refl

-- Later names.

pub spells-later : (all ns later : List Name) (s : ReadStatement) (spelled : Statement) → later ≡ with_names all ns → Spells all s spelled → Spells later s spelled
spells-later all ns later s spelled is h =
    let grown = with_names-grows all ns in
    let e : later ≡ all ++ grown.0 = is ∙ grown.1 in
    record {
      same = λ more. ap (λ (l : List Name). statement_of l s) (ap (λ (l : List Name). l ++ more) e ∙ append_assoc all grown.0 more) ∙ h.same (grown.0 ++ more);
      within = λ k d inside. let here = h.within k d inside in omega (arith, ap length e, length-append all grown.0, here);
    }

-- the nets of a statement are those on its line
pub nets-of_statement : (said : Said) (s : Statement) → statement_said said ≡ Some s → nets_of (Some s) ≡ nets_said said
nets-of_statement (model_line name) s e = absurd (cc e)
nets-of_statement (inputs_line ports) s e = absurd (cc e)
nets-of_statement (outputs_line ports) s e = absurd (cc e)
nets-of_statement (clock_line ports) s e = absurd (cc e)
nets-of_statement (names_line ins out) s e = ap nets_of (sym e)
nets-of_statement (row_line cells last) s e = absurd (cc e)
nets-of_statement (latch_line d q clocking init) s e = ap nets_of (sym e)
nets-of_statement (subckt_line model binds) s e = ap nets_of (sym e)
nets-of_statement end_line s e = absurd (cc e)
