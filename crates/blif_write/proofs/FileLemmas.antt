-- The statements of a file, and the file.
use Rattle.std.proofs.Common.{◌≡◌, ℕ, zero, suc, ◌+◌, ◌-◌, ◌*◌, ◌<◌, ◌≤◌, List, [], ◌∷◌, ◌++◌, length, map, take, slice_get, Some, None, Bool, true, false, refl, sym, subst, ap, ◌∙◌, append_assoc, append-nil, length-append, zero-add, arith, All, sum_by}
use Rattle.std.specs.Prelude.{nat_lt, not, filter, cond, if◌then◌else◌}
use Rattle.std.specs.Prelude.{Result, Ok, Err}
use Rattle.std.specs.declared.alloc.AllocError.{AllocError}
use Rattle.std.specs.Result.{IfOk}
use Rattle.std.specs.Int.{from_bool}
use Rattle.std.specs.List.{AllByRecursion, flat_map, enumerate_from}
use Rattle.std.proofs.lemmas.Grind.{flat_map-append}
use Rattle.std.proofs.lemmas.Bool.{ltb-true, ltb-false}
use Rattle.std.proofs.lemmas.List.{map-append, length-map}
use Rattle.std.proofs.lemmas.List.Sums.{sum_by-cons, sum_by_push}
use Rattle.std.proofs.lemmas.Option.{get_or_from_slice_get, slice_get-get_or, slice_get_within}
use Rattle.std.proofs.lemmas.Bool.Decides.{nat_tests}
use Rattle.netlist_spec.specs.Netlist.{Name, Row, stands_in, Clocking, plain, edge, Cover, Statement, names, latch, Port, Located, Model, File}
use Rattle.netlist_spec.specs.FileRules.{IsFile}
use Rattle.netlist_spec.specs.Reads.{first_appearances, control_nets, statement_nets}
use Rattle.netlist_spec.specs.Covers.{has_bit}
use Rattle.netlist_spec.specs.Gates.{GateForm, constant, one, two, LatchRow, gate_reads, gate_cover, gate_rows, pair_row}
use Rattle.netlist_spec.specs.Written.{Named, IsNamed, given, named_clocks, output_names, net_name, ports_from, line_count, statements_from, latch_statements, gate_statements}
use Rattle.imp_text.specs.declared.names.NameId.{NameId}
use Rattle.imp_text.specs.declared.cover.Cover.{Cover as ReadCover}
use Rattle.blif_read.specs.declared.file.Clocking.{Clocking as ReadClocking}
use Rattle.blif_read.specs.declared.file.Port.{Port as ReadPort}
use Rattle.blif_read.specs.declared.file.Model.{Model as ReadModel}
use Rattle.blif_read.specs.declared.file.Located.{Located as ReadLocated}
use Rattle.blif_read.specs.declared.file.Statement.{Statement as ReadStatement}
use Rattle.blif_read.specs.declared.file.Statement.TheVariants.{Names, Latch, Subckt}
use Rattle.blif_read.specs.Ids.{IsIdOf, control_ids, ids_in}
use Rattle.imp_text.specs.Names.{with_name}
use Rattle.blif_read.specs.declared.file.File.{File as ReadFile}
use Rattle.blif_read.specs.View.{file_of, name_at, port_of, model_of, clocking_of, cover_of, statement_of, located_of}
use Rattle.imp_text.proofs.NamesLemmas.{slice_get-append_left}
use Rattle.blif_read.specs.Spelled.{with_names, AreNumbers, Spells, SpellsEach}
use Rattle.blif_write.specs.Numbers.{ports_numbered, latch_of, names_of, latch_with, gate_with, statement_at}
use Rattle.named_netlist.proofs.NamedFiles.{latch_written, gate_written, numbered_latches, numbered_gates, statements-numbered, items_long, statements-long}
use Rattle.blif_read.proofs.SpelledLemmas.{all_cons, all_end, name-is, names-are, number-later, numbers-later, numbers-within, all-at, with_names-grows, with_names-append, with_names-first}
use Rattle.blif_write.proofs.NumberLemmas.{ports-named, ports-within}
use Rattle.named_netlist.proofs.WrittenModel.{model_with}

same_latch : (a a' b b' : Name) (c c' : Clocking) (i i' : ℕ) → a ≡ a' → b ≡ b' → c ≡ c' → i ≡ i' → latch a b c (Some i) ≡ latch a' b' c' (Some i')
same_latch a a' b b' c c' i i' ea eb ec ei = cc

same_names : (a a' : List Name) (b b' : Name) (c c' : Cover) → a ≡ a' → b ≡ b' → c ≡ c' → names a b c ≡ names a' b' c'
same_names a a' b b' c c' ea eb ec = cc

pub latch-spells : (g : Named) (q : ℕ) (row : LatchRow) (n1 n2 n3 : List Name) (d id : NameId) (clocking : ReadClocking) (init : ℕ) → slice_get n1 d.0 ≡ Some (net_name g row.d) → n2 ≡ with_name n1 (net_name g q) → slice_get n2 id.0 ≡ Some (net_name g q)
    → n3 ≡ with_names n2 (control_nets g.clocking) → ((more : List Name) → clocking_of (n3 ++ more) clocking ≡ g.clocking) → All (IsIdOf n3) (control_ids clocking) → init ≡ (if row.init then 1 else 0) → Spells n3 (Latch d id clocking (Some init)) (latch_of g q row)
latch-spells g q row n1 n2 n3 d id clocking init at e2 here e3 same inside is =
    let at3 = number-later n2 (control_nets g.clocking) n3 d (net_name g row.d) e3 (number-later n1 (net_name g q ∷ []) n2 d (net_name g row.d) e2 at) in
    let here3 = number-later n2 (control_nets g.clocking) n3 id (net_name g q) e3 here in
    record {
      same = λ more. same_latch _ _ _ _ _ _ _ _ (name-is n3 more d (net_name g row.d) at3) (name-is n3 more id (net_name g q) here3) (same more) is;
      within = all_cons (IsIdOf n3) d (id ∷ control_ids clocking) (slice_get_within n3 d.0 _ at3) (all_cons (IsIdOf n3) id (control_ids clocking) (slice_get_within n3 id.0 _ here3) inside);
    }

pub names-spells : (g : Named) (n : ℕ) (gate : GateForm) (n1 n2 : List Name) (ins : List NameId) (out : NameId) (cover : ReadCover) (s : ReadStatement) → AreNumbers n1 ins (map (net_name g) (gate_reads gate)) → n2 ≡ with_name n1 (net_name g n) → slice_get n2 out.0 ≡ Some (net_name g n)
    → cover_of cover ≡ gate_cover gate → ((all : List Name) → statement_of all s ≡ names (map (name_at all) ins) (name_at all out) (cover_of cover)) → ids_in s ≡ ins ++ out ∷ [] → Spells n2 s (names_of g n gate)
names-spells g n gate n1 n2 ins out cover s reads e2 here is means ids =
    let reads2 = numbers-later n1 (net_name g n ∷ []) n2 ins (map (net_name g) (gate_reads gate)) e2 reads in
    record {
      same = λ more. means (n2 ++ more) ∙ same_names _ _ _ _ _ _ (names-are n2 more ins (map (net_name g) (gate_reads gate)) reads2) (name-is n2 more out (net_name g n) here) is;
      within = subst (λ (l : List NameId). All (IsIdOf n2) l) (sym ids) (all_end (IsIdOf n2) ins out (numbers-within n2 ins (map (net_name g) (gate_reads gate)) reads2) (slice_get_within n2 out.0 _ here));
    }

-- which statement has a number
pub latch-case : (g : Named) (n : ℕ) (row : LatchRow) → n < g.net.leaves → slice_get g.latches (n - g.data_inputs) ≡ Some row → latch_of g n row ≡ statement_at g n
latch-case g n row h at =
    let is : latch_with g n ≡ row = get_or_from_slice_get g.latches (n - g.data_inputs) row _ at in
    let test : nat_lt n g.net.leaves ≡ true = grind (arith, nat_tests) in
    sym (ap (λ (b : Bool). if b then latch_of g n (latch_with g n) else names_of g n (gate_with g n)) test ∙ ap (latch_of g n) is)

pub gate-case : (g : Named) (n : ℕ) (gate : GateForm) → g.net.leaves ≤ n → slice_get g.net.gates (n - g.net.leaves) ≡ Some gate → names_of g n gate ≡ statement_at g n
gate-case g n gate h at =
    let is : gate_with g n ≡ gate = get_or_from_slice_get g.net.gates (n - g.net.leaves) gate _ at in
    let test : nat_lt n g.net.leaves ≡ false = grind (arith, nat_tests) in
    sym (ap (λ (b : Bool). if b then latch_of g n (latch_with g n) else names_of g n (gate_with g n)) test ∙ ap (names_of g n) is)

-- a statement has at most five lines, and names at most three nets
pair_short : (op : ℕ) (a b : Bool) (t : Bool) → length {A = Row} (if t then record { care = 3; value = (if a then 1 else 0) + 2 * (if b then 1 else 0) } ∷ [] else []) ≤ 1
pair_short op a b true = omega arith
pair_short op a b false = omega arith

rows_short : (gate : GateForm) → length (gate_rows gate) ≤ 4
rows_short (constant false) = omega arith
rows_short (constant true) = omega arith
rows_short (one false a) = omega arith
rows_short (one true a) = omega arith
rows_short (two op a b) =
    let w = pair_row op false false in
    let x = pair_row op false true in
    let y = pair_row op true false in
    let z = pair_row op true true in
    let one = pair_short op false false (has_bit op 0) in
    let two = pair_short op false true (has_bit op 1) in
    let three = pair_short op true false (has_bit op 2) in
    let four = pair_short op true true (has_bit op 3) in
    omega (arith, length-append w x, length-append (w ++ x) y, length-append ((w ++ x) ++ y) z, one, two, three, four)

pub few-lines : (g : Named) (n : ℕ) → line_count (statement_at g n) ≤ 5
few-lines g n = by_test (nat_lt n g.net.leaves)
  where
    by_test : (b : Bool) → line_count (if b then latch_of g n (latch_with g n) else names_of g n (gate_with g n)) ≤ 5
    by_test true = omega arith
    by_test false = omega (arith, rows_short (gate_with g n))

few_controls : (c : Clocking) → length (control_nets c) ≤ 1
few_controls plain = omega arith
few_controls (edge rising None) = omega arith
few_controls (edge rising (Some n)) = omega arith

few_reads : (g : Named) (n : ℕ) (gate : GateForm) → length (map (net_name g) (gate_reads gate) ++ net_name g n ∷ []) ≤ 3
few_reads g n (constant b) = omega arith
few_reads g n (one inv a) = omega arith
few_reads g n (two op a b) = omega arith

pub few-nets : (g : Named) (n : ℕ) → length (statement_nets (statement_at g n)) ≤ 3
few-nets g n = by_test (nat_lt n g.net.leaves)
  where
    by_test : (b : Bool) → length (statement_nets (if b then latch_of g n (latch_with g n) else names_of g n (gate_with g n))) ≤ 3
    by_test true = omega (arith, few_controls g.clocking)
    by_test false = few_reads g n (gate_with g n)

pub count-same : (a b : List Name) (s : ReadStatement) → line_count (statement_of a s) ≡ line_count (statement_of b s)
count-same a b (Names ins out cover) = refl
count-same a b (Latch d q clocking init) = refl
count-same a b (Subckt model binds) = refl

-- the statements by the numbers of their nets
item_at : {A B : Type 0} (f : ℕ × A → B) (a : ℕ) (xs : List A) (k : ℕ) (x : A) → slice_get xs k ≡ Some x → slice_get (map f (enumerate_from a xs)) k ≡ Some (f (a + k, x))
item_at f a [] k x e = absurd (cc e)
item_at f a (y ∷ xs) zero x e =
    let same : y ≡ x = cc e in
    let place : a ≡ a + 0 = omega arith in
    ap (λ z. Some (f (a, z))) same ∙ ap (λ n. Some (f (n, x))) place
item_at f a (y ∷ xs) (suc k) x e =
    let place : (a + 1) + k ≡ a + suc k = omega arith in
    item_at f (a + 1) xs k x e ∙ ap (λ n. Some (f (n, x))) place

behind : {A : Type 0} (xs ys : List A) (k : ℕ) (x : A) → slice_get ys k ≡ Some x → slice_get (xs ++ ys) (length xs + k) ≡ Some x
behind [] ys k x e = rw zero-add e
behind (y ∷ xs) ys k x e =
    let place : suc (length xs) + k ≡ suc (length xs + k) = omega arith in
    rw place (behind xs ys k x e)

pub statement-here : (g : Named) → IsNamed g → (n : ℕ) → g.data_inputs ≤ n → n < g.net.leaves + length g.net.gates → slice_get (latch_statements g ++ gate_statements g) (n - g.data_inputs) ≡ Some (statement_at g n)
statement-here g named n low high = subst (λ (l : List Statement). slice_get l (n - g.data_inputs) ≡ Some (statement_at g n)) (sym (statements-numbered g named)) (by_test (nat_lt n g.net.leaves) refl)
  where
    by_test : (b : Bool) → nat_lt n g.net.leaves ≡ b → slice_get (map (latch_written g) (numbered_latches g) ++ map (gate_written g) (numbered_gates g)) (n - g.data_inputs) ≡ Some (if b then latch_of g n (latch_with g n) else names_of g n (gate_with g n))
    by_test true test =
        let below : n < g.net.leaves = ltb-true _ _ test in
        let inside : n - g.data_inputs < length g.latches = omega (arith, named.leaves) in
        let place : g.data_inputs + (n - g.data_inputs) ≡ n = omega arith in
        let at = item_at (latch_written g) g.data_inputs g.latches (n - g.data_inputs) (latch_with g n) (slice_get-get_or g.latches (n - g.data_inputs) _ inside) in
        slice_get-append_left (map (latch_written g) (numbered_latches g)) (map (gate_written g) (numbered_gates g)) (n - g.data_inputs) _ at
        ∙ ap (λ (m : ℕ). Some (latch_of g m (latch_with g n))) place
    by_test false test =
        let above : g.net.leaves ≤ n = ltb-false _ _ test in
        let inside : n - g.net.leaves < length g.net.gates = omega arith in
        let place : g.net.leaves + (n - g.net.leaves) ≡ n = omega arith in
        let long = items_long (latch_written g) g.data_inputs g.latches in
        let index : length (map (latch_written g) (numbered_latches g)) + (n - g.net.leaves) ≡ n - g.data_inputs = omega (arith, long, named.leaves) in
        let at = item_at (gate_written g) g.net.leaves g.net.gates (n - g.net.leaves) (gate_with g n) (slice_get-get_or g.net.gates (n - g.net.leaves) _ inside) in
        subst (λ (i : ℕ). slice_get (map (latch_written g) (numbered_latches g) ++ map (gate_written g) (numbered_gates g)) i ≡ Some (names_of g n (gate_with g n))) index
        (behind (map (latch_written g) (numbered_latches g)) (map (gate_written g) (numbered_gates g)) (n - g.net.leaves) _ (at ∙ ap (λ (m : ℕ). Some (names_of g m (gate_with g n))) place))

-- one more statement
taken : {A : Type 0} (xs : List A) (k : ℕ) (x : A) → slice_get xs k ≡ Some x → take (suc k) xs ≡ take k xs ++ x ∷ []
taken [] k x e = absurd (cc e)
taken (y ∷ xs) zero x e =
    let same : y ≡ x = cc e in
    ap (λ z. z ∷ []) same
taken (y ∷ xs) (suc k) x e = ap (λ l. y ∷ l) (taken xs k x e)

statements_push : (k : ℕ) (xs : List Statement) (s : Statement) → statements_from k (xs ++ s ∷ []) ≡ statements_from k xs ++ record { line = k + sum_by line_count xs; what = s } ∷ []
statements_push k [] s =
    let place : k ≡ k + 0 = omega arith in
    ap (λ (n : ℕ). record { line = n; what = s } ∷ []) place
statements_push k (x ∷ xs) s =
    let place : (k + line_count x) + sum_by line_count xs ≡ k + sum_by line_count (x ∷ xs) = omega (arith, sum_by-cons line_count x xs) in
    ap (λ (l : List Located). record { line = k; what = x } ∷ l) (statements_push (k + line_count x) xs s)
    ∙ ap (λ (n : ℕ). (record { line = k; what = x } ∷ statements_from (k + line_count x) xs) ++ record { line = n; what = s } ∷ []) place

within_later : (all more : List Name) (l : List ReadLocated) → AllByRecursion (λ (s : ReadLocated). All (IsIdOf all) (ids_in s.what)) l → AllByRecursion (λ (s : ReadLocated). All (IsIdOf (all ++ more)) (ids_in s.what)) l
within_later all more [] h = tt
within_later all more (s ∷ l) h = ((λ k d inside. omega (arith, h.0 k d inside, length-append all more)), within_later all more l h.1)

all_push : {A : Type 0} (P : A → Type 0) (xs : List A) (x : A) → AllByRecursion P xs → P x → AllByRecursion P (xs ++ x ∷ [])
all_push P [] x h p = (p, tt)
all_push P (y ∷ xs) x h p = (h.0, all_push P xs x h.1 p)

spells_push : (all new ns : List Name) (l : List ReadLocated) (spelled : List Located) (line : ℕ) (what : ReadStatement) (s : Statement) → new ≡ with_names all ns → SpellsEach all l spelled → Spells new what s → SpellsEach new (l ++ record { line = line; what = what } ∷ []) (spelled ++ record { line = line; what = s } ∷ [])
spells_push all new ns l spelled line what s is h single =
    let grown = with_names-grows all ns in
    let here : ReadLocated = record { line = line; what = what } in
    let new_is : new ≡ all ++ grown.0 = is ∙ grown.1 in
    record {
      same = λ more.
          map-append (located_of (new ++ more)) l (here ∷ [])
          ∙ ap (λ (k : List Name). map (located_of k) l ++ located_of (new ++ more) here ∷ []) (ap (λ (k : List Name). k ++ more) new_is ∙ append_assoc all grown.0 more)
          ∙ ap (λ (k : List Located). k ++ located_of (new ++ more) here ∷ []) (h.same (grown.0 ++ more))
          ∙ ap (λ (t : Statement). spelled ++ record { line = line; what = t } ∷ []) (single.same more);
      within = all_push (λ (x : ReadLocated). All (IsIdOf new) (ids_in x.what)) l here (subst (λ (k : List Name). AllByRecursion (λ (x : ReadLocated). All (IsIdOf k) (ids_in x.what)) l) (sym new_is) (within_later all grown.0 l h.within)) single.within;
    }

pub record Next (start all new : List Name) (first line lines : ℕ) (l : List ReadLocated) (ss : List Statement) : Type 0 where
  pub names : new ≡ with_names start (flat_map statement_nets ss)
  pub spells : SpellsEach new l (statements_from first ss)
  pub counted : line + lines ≡ first + sum_by line_count ss
  pub few : length new ≤ length all + 3

pub next-statement : (g : Named) → IsNamed g → (n : ℕ) (start all new : List Name) (first line lines : ℕ) (l : List ReadLocated) (what : ReadStatement) → g.data_inputs ≤ n → n < g.net.leaves + length g.net.gates
    → all ≡ with_names start (flat_map statement_nets (take (n - g.data_inputs) (latch_statements g ++ gate_statements g)))
    → SpellsEach all l (statements_from first (take (n - g.data_inputs) (latch_statements g ++ gate_statements g)))
    → line ≡ first + sum_by line_count (take (n - g.data_inputs) (latch_statements g ++ gate_statements g))
    → new ≡ with_names all (statement_nets (statement_at g n)) → Spells new what (statement_at g n) → lines ≡ line_count (statement_at g n)
    → Next start all new first line lines (l ++ record { line = line; what = what } ∷ []) (take ((n + 1) - g.data_inputs) (latch_statements g ++ gate_statements g))
next-statement g named n start all new first line lines l what low high known spells at is single count =
    let ss = take (n - g.data_inputs) (latch_statements g ++ gate_statements g) in
    let s = statement_at g n in
    let more : take ((n + 1) - g.data_inputs) (latch_statements g ++ gate_statements g) ≡ ss ++ s ∷ []
    = ap (λ (k : ℕ). take k (latch_statements g ++ gate_statements g)) (let e : (n + 1) - g.data_inputs ≡ suc (n - g.data_inputs) = omega arith in e) ∙ taken (latch_statements g ++ gate_statements g) (n - g.data_inputs) s (statement-here g named n low high) in
    let grown = with_names-grows all (statement_nets s) in
    subst (λ (t : List Statement). Next start all new first line lines (l ++ record { line = line; what = what } ∷ []) t) (sym more) (record {
      names = is ∙ ap (λ (k : List Name). with_names k (statement_nets s)) known ∙ sym (with_names-append start (flat_map statement_nets ss) (statement_nets s))
          ∙ ap (with_names start) (sym (flat_map-append statement_nets ss (s ∷ []) ∙ ap (λ (k : List Name). flat_map statement_nets ss ++ k) (append-nil (statement_nets s))));
      spells = subst (λ (t : List Located). SpellsEach new (l ++ record { line = line; what = what } ∷ []) t) (ap (λ (k : ℕ). statements_from first ss ++ record { line = k; what = s } ∷ []) at ∙ sym (statements_push first ss s))
          (spells_push all new (statement_nets s) l (statements_from first ss) line what s is spells single);
      counted = omega (arith, at, count, sum_by_push line_count ss s);
      few = omega (arith, ap length (is ∙ grown.1), length-append all grown.0, grown.2, few-nets g n);
    })

-- How large a gate list with names is.
ports_long : (k : ℕ) (ns : List Name) → length (ports_from k ns) ≡ length ns
ports_long k [] = refl
ports_long k (n ∷ ns) = ap suc (ports_long (k + 1) ns)

lines_long : (k : ℕ) (ss : List Statement) → length (statements_from k ss) ≡ length ss
lines_long k [] = refl
lines_long k (s ∷ ss) = ap suc (lines_long (k + line_count s) ss)

few_kept : {A : Type 0} (p : A → Bool) (xs : List A) → length (filter p xs) ≤ length xs
few_kept p [] = omega arith
few_kept {A} p (x ∷ xs) = by_test (p x) (few_kept p xs)
  where
    by_test : (b : Bool) → length (filter p xs) ≤ length xs → length (cond b (x ∷ filter p xs) (filter p xs)) ≤ suc (length xs)
    by_test true h = omega arith
    by_test false h = omega arith

front_long : {A : Type 0} (n : ℕ) (xs : List A) → n ≤ length xs → length (take n xs) ≡ n
front_long zero xs h = refl
front_long (suc n) [] h = absurd (omega arith)
front_long (suc n) (x ∷ xs) h = ap suc (front_long n xs (omega arith))

pub record IsSmall (g : Named) : Type 0 where
  pub inputs : length g.inputs ≤ 131072
  pub outputs : length g.outputs ≤ 131072
  pub clocks : length g.clocks ≤ 131072
  pub labels : length g.labels ≤ 2131072

pub is-small : (g : Named) → IsNamed g → IsSmall g
is-small g named =
    let within = named.limits.models.0 in
    let outputs_at = 3 + length g.inputs in
    let clocks_at = outputs_at + length g.outputs in
    let statements_at = clocks_at + length g.clocks in
    let inputs : length g.inputs ≤ 131072 = omega (arith, within.inputs, ports_long 3 g.inputs) in
    let front : length (take g.data_inputs g.labels) ≡ g.data_inputs = front_long g.data_inputs g.labels (omega (arith, named.leaves, named.labels)) in
    let kept = filter (λ n. not (stands_in n (named_clocks g))) g.inputs in
    let leading : g.data_inputs ≤ 131072 = omega (arith, front, ap length named.first_labels, length-map kept (λ n. given n), few_kept (λ n. not (stands_in n (named_clocks g))) g.inputs) in
    let all = statements-long g named in
    let few : length g.latches + length g.net.gates ≤ 2000000 = omega (arith, named.limits.statements, lines_long statements_at (latch_statements g ++ gate_statements g), all) in
    record {
      inputs = inputs;
      outputs = omega (arith, within.outputs, ports_long outputs_at (output_names g), length-map g.outputs (net_name g));
      clocks = omega (arith, within.clocks, ports_long clocks_at g.clocks);
      labels = omega (arith, named.labels, named.leaves, leading, few);
    }

pub bit-is : (b : Bool) → from_bool b ≡ (if b then 1 else 0)
bit-is true = refl
bit-is false = refl

pub names-long : (old new ns : List Name) → new ≡ with_names old ns → length new ≤ length old + length ns
names-long old new ns is =
    let grown = with_names-grows old ns in
    omega (arith, ap length (is ∙ grown.1), length-append old grown.0, grown.2)

-- The file of the parts.
pub one-model : (models : List ReadModel) (m : ReadModel) (spelled : Model) → models ≡ m ∷ [] → model_of m ≡ spelled → map model_of models ≡ spelled ∷ []
one-model models m spelled is e = ap (map model_of) is ∙ ap (λ (x : Model). x ∷ []) e

-- the names of a file, kind by kind
pub all-names : (i o c s n0 n1 n2 n3 n4 : List Name) → n0 ≡ [] → n1 ≡ with_names n0 i → n2 ≡ with_names n1 o → n3 ≡ with_names n2 c → n4 ≡ with_names n3 s → n4 ≡ first_appearances (((i ++ o) ++ c) ++ s)
all-names i o c s n0 n1 n2 n3 n4 e0 e1 e2 e3 e4 =
    e4 ∙ ap (λ (l : List Name). with_names l s) (e3 ∙ ap (λ (l : List Name). with_names l c) (e2 ∙ ap (λ (l : List Name). with_names l o) (e1 ∙ ap (λ (l : List Name). with_names l i) e0)))
    ∙ ap (λ (l : List Name). with_names (with_names (with_names l o) c) s) (with_names-first [] i)
    ∙ ap (λ (l : List Name). with_names (with_names l c) s) (with_names-first i o)
    ∙ ap (λ (l : List Name). with_names l s) (with_names-first (i ++ o) c)
    ∙ with_names-first ((i ++ o) ++ c) s

-- ports with their names, where more names come behind
pub ports-at : (all ns later : List Name) (ids : List NameId) (spelled : List Name) (line : ℕ) (ports : List ReadPort) → later ≡ with_names all ns → AreNumbers all ids spelled → ports ≡ ports_numbered line ids → (map (port_of later) ports ≡ ports_from line spelled) × All (λ (port : ReadPort). IsIdOf later port.name) ports
ports-at all ns later ids spelled line ports is h e =
    let there = numbers-later all ns later ids spelled is h in
    let named : map (name_at later) ids ≡ spelled = ap (λ (l : List Name). map (name_at l) ids) (sym (append-nil later)) ∙ names-are later [] ids spelled there in (
      ap (map (port_of later)) e ∙ ports-named later line ids ∙ ap (ports_from line) named,
      subst (λ (l : List ReadPort). All (λ (port : ReadPort). IsIdOf later port.name) l) (sym e)
          (all-at (λ (port : ReadPort). IsIdOf later port.name) (ports_numbered line ids) (ports-within later line ids (numbers-within later ids spelled there))),
    )

pub statements-at : (all : List Name) (l : List ReadLocated) (spelled : List Located) → SpellsEach all l spelled → (map (located_of all) l ≡ spelled) × All (λ (s : ReadLocated). All (IsIdOf all) (ids_in s.what)) l
statements-at all l spelled h = (
  ap (λ (k : List Name). map (located_of k) l) (sym (append-nil all)) ∙ h.same [],
  all-at (λ (s : ReadLocated). All (IsIdOf all) (ids_in s.what)) l h.within,
)

pub later-two : (n2 n3 n4 c s : List Name) → n3 ≡ with_names n2 c → n4 ≡ with_names n3 s → n4 ≡ with_names n2 (c ++ s)
later-two n2 n3 n4 c s e3 e4 = e4 ∙ ap (λ (l : List Name). with_names l s) e3 ∙ sym (with_names-append n2 c s)

pub later-three : (n1 n2 n3 n4 o c s : List Name) → n2 ≡ with_names n1 o → n3 ≡ with_names n2 c → n4 ≡ with_names n3 s → n4 ≡ with_names n1 (o ++ (c ++ s))
later-three n1 n2 n3 n4 o c s e2 e3 e4 = later-two n2 n3 n4 c s e3 e4 ∙ ap (λ (l : List Name). with_names l (c ++ s)) e2 ∙ sym (with_names-append n1 o (c ++ s))

pub same-model : (a a' : Name) (b b' : List Name) (i i' o o' c c' : List Port) (s s' : List Located) → a ≡ a' → b ≡ b' → i ≡ i' → o ≡ o' → c ≡ c' → s ≡ s' → model_with a b i o c s ≡ model_with a' b' i' o' c' s'
same-model a a' b b' i i' o o' c c' s s' ea eb ei eo ec es =
    ap (λ (x : Name). model_with x b i o c s) ea
    ∙ ap (λ (x : List Name). model_with a' x i o c s) eb
    ∙ ap (λ (x : List Port). model_with a' b' x o c s) ei
    ∙ ap (λ (x : List Port). model_with a' b' i' x c s) eo
    ∙ ap (λ (x : List Port). model_with a' b' i' o' x s) ec
    ∙ ap (λ (x : List Located). model_with a' b' i' o' c' x) es

-- what holds of the file that is meant holds of the file that is made
pub file-where : (made : Result ReadFile AllocError) (file : File) → IsFile file → IfOk made (λ f. file_of f ≡ file) → IfOk made (λ f. IsFile (file_of f))
file-where (Ok f) file is same = subst IsFile (sym same) is
file-where (Err e) file is same = tt
