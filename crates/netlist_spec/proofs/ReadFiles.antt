-- A file that is read keeps what holds of every file.
use Rattle.std.proofs.Common.{◌≡◌, refl, sym, ◌∙◌, ap, subst, ℕ, ◌+◌, ◌≤◌, List, [], ◌∷◌, ◌++◌, map, filter, length, Bool, true, false, ◌||◌, ◌&&◌, not, cond, Some, None, arith}
use Rattle.std.specs.Prelude.{IsTrue}
use Rattle.std.specs.List.{AllByRecursion, AllZip, list_all, flat_map}
use Rattle.std.specs.Cmp.Lexicographic.{bytes_decides}
use Rattle.netlist_spec.specs.Lines.{Word, Line, logical_lines}
use Rattle.netlist_spec.specs.Netlist.{Name, IsName, IsWordName, is_word_byte, same_name, stands_in, are_distinct, Clocking, plain, edge, Bind, subckt, Port, File}
use Rattle.netlist_spec.specs.Statements.{Said, model_line, inputs_line, outputs_line, clock_line, names_line, row_line, latch_line, subckt_line, end_line, clocking_words, init_words, bind_word, spelling, IsClocking, IsBind, IsStatement, Says, EachMayFollow, BeginsWithModel}
use Rattle.netlist_spec.specs.Reads.{Numbered, model_body, ports_at, inputs_in, outputs_in, clocks_in, statements_in, control_nets, statement_nets, nets_in, first_appearances, model_of, models_of, Reads}
use Rattle.netlist_spec.specs.Placed.{port_names}
use Rattle.netlist_spec.specs.FileRules.{HasControl, IsDeclarable, nets_of, HaveLines, IsFileModel, IsFile}
use Rattle.netlist_spec.proofs.OneValue.{at_name, All_append, passes_both}
use Rattle.netlist_spec.proofs.Occurrences.{occ, occ_append, stands_occ, occ_stands, first_stands}
use Rattle.netlist_spec.proofs.ReadRows.{cover_rows}
use Rattle.netlist_spec.proofs.ReadLines.{said_up, models_have_lines}
use Rattle.netlist_spec.proofs.ReadNames.{HasWordBytes, HasGoodWords, All_filter, logical_lines_good}

-- ---- what each line says, and the bytes of its words

pub record IsGoodLine (n : Numbered) : Type 0 where
  pub says : IsStatement n.1
  pub bytes : AllByRecursion HasWordBytes (spelling n.1)

good_lines : (lines : List Line) (ns : List Numbered) → AllZip (λ line n. (line.number ≡ n.0) × Says line n.1) lines ns
    → AllByRecursion HasGoodWords lines → AllByRecursion IsGoodLine ns
good_lines [] [] h g = tt
good_lines [] (n ∷ ns) h g = absurd h
good_lines (l ∷ ls) [] h g = absurd h
good_lines (l ∷ ls) (n ∷ ns) h g =
    (record { says = h.0.1.1; bytes = subst (AllByRecursion HasWordBytes) h.0.1.0 g.0 }, good_lines ls ns h.1 g.1)

-- ---- names

word_name : (n : Name) → IsName n → HasWordBytes n → IsWordName n
word_name n h b = record { is_name = h; bytes = b }

word_names : (ns : List Name) → AllByRecursion IsName ns → AllByRecursion HasWordBytes ns → AllByRecursion IsWordName ns
word_names [] h b = tt
word_names (n ∷ ns) h b = (word_name n h.0 b.0, word_names ns h.1 b.1)

after_equals : (f a : List ℕ) → list_all is_word_byte (f ++ 61 ∷ a) ≡ true → HasWordBytes f × HasWordBytes a
after_equals [] a h = (refl, h)
after_equals (c ∷ cs) a h =
    let parts = passes_both _ _ h in
    let rest = after_equals cs a parts.1 in
    (ap (λ x. x && list_all is_word_byte cs) parts.0 ∙ rest.0, rest.1)

bind_formals : (bs : List Bind) → AllByRecursion IsBind bs → AllByRecursion HasWordBytes (map bind_word bs) → AllByRecursion (λ b. IsWordName b.formal) bs
bind_formals [] h w = tt
bind_formals (b ∷ bs) h w = (word_name b.formal h.0.0 (after_equals b.formal b.actual w.0).0, bind_formals bs h.1 w.1)

bind_actuals : (bs : List Bind) → AllByRecursion IsBind bs → AllByRecursion HasWordBytes (map bind_word bs) → AllByRecursion IsWordName (map (λ b. b.actual) bs)
bind_actuals [] h w = tt
bind_actuals (b ∷ bs) h w = (word_name b.actual h.0.2 (after_equals b.formal b.actual w.0).1, bind_actuals bs h.1 w.1)

control_names : (c : Clocking) (rest : List Word) → IsClocking c → AllByRecursion HasWordBytes (clocking_words c ++ rest) → AllByRecursion IsWordName (control_nets c)
control_names plain rest h w = tt
control_names (edge r None) rest h w = tt
control_names (edge r (Some n)) rest h w = (word_name n h.0 w.1.0, tt)

line_nets : (n : ℕ) (s : Said) → IsGoodLine (n, s) → AllByRecursion IsWordName (nets_in (n, s))
line_nets n (model_line x) g = tt
line_nets n (inputs_line ps) g = word_names ps g.says g.bytes.1
line_nets n (outputs_line ps) g = word_names ps g.says g.bytes.1
line_nets n (clock_line ps) g = word_names ps g.says g.bytes.1
line_nets n (names_line ins out) g = word_names (ins ++ out ∷ []) (All_append IsName ins (out ∷ []) g.says.0 (g.says.1, tt)) g.bytes.1
line_nets n (row_line cells b) g = tt
line_nets n (latch_line d q c i) g =
    (word_name d g.says.0 g.bytes.1.0, (word_name q g.says.1 g.bytes.1.1.0, control_names c (init_words i) g.says.2 g.bytes.1.1.1))
line_nets n (subckt_line m bs) g = bind_actuals bs g.says.1 g.bytes.1.1
line_nets n end_line g = tt

lines_nets : (ls : List Numbered) → AllByRecursion IsGoodLine ls → AllByRecursion IsWordName (flat_map nets_in ls)
lines_nets [] h = tt
lines_nets (l ∷ ls) h = All_append IsWordName (nets_in l) (flat_map nets_in ls) (line_nets l.0 l.1 h.0) (lines_nets ls h.1)

first_good : (P : Name → Type 0) (ns : List Name) → AllByRecursion P ns → AllByRecursion P (first_appearances ns)
first_good P [] h = tt
first_good P (n ∷ ns) h = (h.0, All_filter P (λ m. not (same_name n m)) (first_appearances ns) (first_good P ns h.1))

-- ---- distinct names

none_left_case : (n m : Name) (ms : List Name) (b : Bool) → same_name n m ≡ b → stands_in n (filter (λ x. not (same_name n x)) ms) ≡ false
    → stands_in n (cond (not b) (m ∷ filter (λ x. not (same_name n x)) ms) (filter (λ x. not (same_name n x)) ms)) ≡ false
none_left_case n m ms true e h = h
none_left_case n m ms false e h = ap (λ c. c || stands_in n (filter (λ x. not (same_name n x)) ms)) e ∙ h

none_left : (n : Name) (ns : List Name) → stands_in n (filter (λ m. not (same_name n m)) ns) ≡ false
none_left n [] = refl
none_left n (m ∷ ms) = none_left_case n m ms (same_name n m) refl (none_left n ms)

fewer_case : (n k : Name) (test : Name → Bool) (ks : List Name) (b : Bool) → (same_name n k || stands_in n ks) ≡ false → stands_in n (filter test ks) ≡ false
    → stands_in n (cond b (k ∷ filter test ks) (filter test ks)) ≡ false
fewer_case n k test ks true h r = both (same_name n k) (stands_in n ks) h r
  where
    both : (a c : Bool) → (a || c) ≡ false → stands_in n (filter test ks) ≡ false → (a || stands_in n (filter test ks)) ≡ false
    both true c h r = cc h
    both false c h r = r
fewer_case n k test ks false h r = r

behind_false : (a c : Bool) → (a || c) ≡ false → c ≡ false
behind_false true c h = cc h
behind_false false c h = h

fewer : (n : Name) (test : Name → Bool) (ns : List Name) → stands_in n ns ≡ false → stands_in n (filter test ns) ≡ false
fewer n test [] h = refl
fewer n test (k ∷ ks) h = fewer_case n k test ks (test k) h (fewer n test ks (behind_false (same_name n k) (stands_in n ks) h))

not_true : (a : Bool) → not a ≡ true → a ≡ false
not_true true h = cc h
not_true false h = refl

still_case : (n : Name) (test : Name → Bool) (ns : List Name) (b : Bool) → stands_in n ns ≡ false → are_distinct (filter test ns) ≡ true
    → are_distinct (cond b (n ∷ filter test ns) (filter test ns)) ≡ true
still_case n test ns true h r = ap (λ x. not x && are_distinct (filter test ns)) (fewer n test ns h) ∙ r
still_case n test ns false h r = r

still_distinct : (test : Name → Bool) (ns : List Name) → are_distinct ns ≡ true → are_distinct (filter test ns) ≡ true
still_distinct test [] h = refl
still_distinct test (n ∷ ns) h =
    let parts = passes_both _ _ h in
    still_case n test ns (test n) (not_true _ parts.0) (still_distinct test ns parts.1)

firsts_distinct : (ns : List Name) → are_distinct (first_appearances ns) ≡ true
firsts_distinct [] = refl
firsts_distinct (n ∷ ns) =
    let others = filter (λ m. not (same_name n m)) (first_appearances ns) in
    ap (λ x. not x && are_distinct others) (none_left n (first_appearances ns)) ∙ still_distinct _ (first_appearances ns) (firsts_distinct ns)

-- ---- the names are the nets of ports and statements

ports_back : (n : ℕ) (ps : List Name) → port_names (ports_at n ps) ≡ ps
ports_back n [] = refl
ports_back n (p ∷ ps) = λ i. p ∷ ports_back n ps i

names_append : (ps qs : List Port) → port_names (ps ++ qs) ≡ port_names ps ++ port_names qs
names_append [] qs = refl
names_append (p ∷ ps) qs = λ i. p.name ∷ names_append ps qs i

abbrev nets_said : List Numbered → List Name
nets_said ls = flat_map (λ s. statement_nets s.what) (statements_in ls)

module _ (x : Name) where
  one_port : (n : ℕ) (ps : List Name) (more : List Port) → occ x (port_names (ports_at n ps ++ more)) ≡ occ x ps + occ x (port_names more)
  one_port n ps more =
      ap (occ x) (names_append (ports_at n ps) more) ∙ occ_append x (port_names (ports_at n ps)) (port_names more)
      ∙ ap (λ ns. occ x ns + occ x (port_names more)) (ports_back n ps)

  nets_split : (ls : List Numbered) → occ x (flat_map nets_in ls)
      ≡ occ x (port_names (flat_map inputs_in ls)) + (occ x (port_names (flat_map outputs_in ls)) + (occ x (port_names (flat_map clocks_in ls)) + occ x (nets_said ls)))
  nets_split [] = refl
  nets_split ((n, model_line y) ∷ ls) = nets_split ls
  nets_split ((n, inputs_line ps) ∷ ls) =
      let e = nets_split ls in let a = occ_append x ps (flat_map nets_in ls) in let b = one_port n ps (flat_map inputs_in ls) in omega arith
  nets_split ((n, outputs_line ps) ∷ ls) =
      let e = nets_split ls in let a = occ_append x ps (flat_map nets_in ls) in let b = one_port n ps (flat_map outputs_in ls) in omega arith
  nets_split ((n, clock_line ps) ∷ ls) =
      let e = nets_split ls in let a = occ_append x ps (flat_map nets_in ls) in let b = one_port n ps (flat_map clocks_in ls) in omega arith
  nets_split ((n, names_line ins out) ∷ ls) =
      let e = nets_split ls in
      let a = occ_append x (ins ++ out ∷ []) (flat_map nets_in ls) in
      let b = occ_append x (ins ++ out ∷ []) (nets_said ls) in
      omega arith
  nets_split ((n, row_line cells b) ∷ ls) = nets_split ls
  nets_split ((n, latch_line d q c i) ∷ ls) =
      let e = nets_split ls in
      let a = occ_append x (d ∷ q ∷ control_nets c) (flat_map nets_in ls) in
      let b = occ_append x (d ∷ q ∷ control_nets c) (nets_said ls) in
      omega (arith, a, b, e)
  nets_split ((n, subckt_line m bs) ∷ ls) =
      let e = nets_split ls in
      let a = occ_append x (map (λ b. b.actual) bs) (flat_map nets_in ls) in
      let b = occ_append x (map (λ b. b.actual) bs) (nets_said ls) in
      omega arith
  nets_split ((n, end_line) ∷ ls) = nets_split ls

  nets_same : (n : ℕ) (y : Name) (ls : List Numbered) → occ x (flat_map nets_in ls) ≡ occ x (nets_of (model_of n y ls))
  nets_same n y ls =
      let ins = port_names (flat_map inputs_in ls) in
      let outs = port_names (flat_map outputs_in ls) in
      let clocks = port_names (flat_map clocks_in ls) in
      let e = nets_split ls in
      let a = occ_append x (ins ++ outs ++ clocks) (nets_said ls) in
      let b = occ_append x (ins ++ outs) clocks in
      let c = occ_append x ins outs in
      omega arith

-- what holds of each name that stands in a list
itself : (n : Name) → same_name n n ≡ true
itself n = (bytes_decides n n).1 refl

each_name : (P : Name → Type 0) (ns : List Name) → ((n : Name) → stands_in n ns ≡ true → P n) → AllByRecursion P ns
each_name P [] h = tt
each_name P (n ∷ ns) h =
    (h n (ap (λ b. b || stands_in n ns) (itself n)), each_name P ns (λ k s. h k (or_behind (same_name k n) (stands_in k ns) s)))
  where
    or_behind : (a b : Bool) → b ≡ true → (a || b) ≡ true
    or_behind true b s = refl
    or_behind false b s = s

first_came : (n : Name) (ns : List Name) → stands_in n (first_appearances ns) ≡ true → stands_in n ns ≡ true
first_came n ns h = at_name (λ k. stands_in k ns ≡ true) n (first_appearances ns) (first_good _ ns (each_name _ ns (λ k s. s))) h

-- ---- statements

next_follow : (s : Said) (ss : List Said) → EachMayFollow (s ∷ ss) → EachMayFollow ss
next_follow s [] h = tt
next_follow s (a ∷ ss) h = h.1

abbrev saids : List Numbered → List Said
saids ls = map (λ n. n.1) ls

binds_formal : (m : Name) (bs : List Bind) (n : ℕ) → IsGoodLine (n, subckt_line m bs) → IsDeclarable (subckt m bs)
binds_formal m bs n g = (word_name m g.says.0 g.bytes.1.0, bind_formals bs g.says.1 g.bytes.1.1)

has_control : (c : Clocking) → IsClocking c → HasControl c
has_control plain h = tt
has_control (edge r None) h = tt
has_control (edge r (Some n)) h = h.1

statements_good : (ls : List Numbered) → AllByRecursion IsGoodLine ls → EachMayFollow (saids ls) → AllByRecursion (λ s. IsDeclarable s.what) (statements_in ls)
statements_good [] g h = tt
statements_good ((n, model_line x) ∷ ls) g h = statements_good ls g.1 (next_follow (model_line x) (saids ls) h)
statements_good ((n, inputs_line ps) ∷ ls) g h = statements_good ls g.1 (next_follow (inputs_line ps) (saids ls) h)
statements_good ((n, outputs_line ps) ∷ ls) g h = statements_good ls g.1 (next_follow (outputs_line ps) (saids ls) h)
statements_good ((n, clock_line ps) ∷ ls) g h = statements_good ls g.1 (next_follow (clock_line ps) (saids ls) h)
statements_good ((n, names_line ins out) ∷ ls) g h = (cover_rows ins out ls h, statements_good ls g.1 (next_follow (names_line ins out) (saids ls) h))
statements_good ((n, row_line cells b) ∷ ls) g h = statements_good ls g.1 (next_follow (row_line cells b) (saids ls) h)
statements_good ((n, latch_line d q c i) ∷ ls) g h = ((has_control c g.0.says.2, g.0.says.3), statements_good ls g.1 (next_follow (latch_line d q c i) (saids ls) h))
statements_good ((n, subckt_line m bs) ∷ ls) g h = (binds_formal m bs n g.0, statements_good ls g.1 (next_follow (subckt_line m bs) (saids ls) h))
statements_good ((n, end_line) ∷ ls) g h = statements_good ls g.1 (next_follow end_line (saids ls) h)

-- ---- the lines of one model

body_cases : (P : List Numbered → Type 0) (n : ℕ) (s : Said) (ls : List Numbered) → P [] → P ((n, s) ∷ model_body ls) → P (model_body ((n, s) ∷ ls))
body_cases P n (model_line x) ls a b = a
body_cases P n (inputs_line ps) ls a b = b
body_cases P n (outputs_line ps) ls a b = b
body_cases P n (clock_line ps) ls a b = b
body_cases P n (names_line ins out) ls a b = b
body_cases P n (row_line cells c) ls a b = b
body_cases P n (latch_line d q c i) ls a b = b
body_cases P n (subckt_line m bs) ls a b = b
body_cases P n end_line ls a b = b

body_good : (ls : List Numbered) → AllByRecursion IsGoodLine ls → AllByRecursion IsGoodLine (model_body ls)
body_good [] g = tt
body_good (l ∷ ls) g = body_cases (AllByRecursion IsGoodLine) l.0 l.1 ls tt (g.0, body_good ls g.1)

body_follows : (s : Said) (ls : List Numbered) → EachMayFollow (s ∷ saids ls) → EachMayFollow (s ∷ saids (model_body ls))
body_follows s [] h = tt
body_follows s (l ∷ ls) h = body_cases (λ b. EachMayFollow (s ∷ saids b)) l.0 l.1 ls tt (h.0, body_follows l.1 ls h.1)

model_good : (n : ℕ) (x : Name) (ls : List Numbered) → AllByRecursion IsGoodLine ((n, model_line x) ∷ ls) → EachMayFollow (model_line x ∷ saids ls) → IsFileModel (model_of n x (model_body ls))
model_good n x ls g h =
    let body = model_body ls in
    let nets = flat_map nets_in body in
    let good = body_good ls g.1 in
    record {
      name = word_name x g.0.says g.0.bytes.1.0;
      distinct = firsts_distinct nets;
      word_names = first_good IsWordName nets (lines_nets body good);
      used = each_name (λ k. IsTrue (stands_in k (nets_of (model_of n x body)))) (first_appearances nets)
          (λ k s. occ_stands k (nets_of (model_of n x body)) (subst (λ c. 1 ≤ c) (nets_same k n x body) (stands_occ k nets (first_came k nets s))));
      named = each_name (λ k. IsTrue (stands_in k (first_appearances nets))) (nets_of (model_of n x body))
          (λ k s. first_stands k nets (occ_stands k nets (subst (λ c. 1 ≤ c) (sym (nets_same k n x body)) (stands_occ k (nets_of (model_of n x body)) s))));
      statements = statements_good body good (next_follow (model_line x) (saids body) (body_follows (model_line x) ls h));
    }

models_good : (ls : List Numbered) → AllByRecursion IsGoodLine ls → EachMayFollow (saids ls) → AllByRecursion IsFileModel (models_of ls)
models_good [] g h = tt
models_good ((n, model_line x) ∷ ls) g h = (model_good n x ls g h, models_good ls g.1 (next_follow (model_line x) (saids ls) h))
models_good ((n, inputs_line ps) ∷ ls) g h = models_good ls g.1 (next_follow (inputs_line ps) (saids ls) h)
models_good ((n, outputs_line ps) ∷ ls) g h = models_good ls g.1 (next_follow (outputs_line ps) (saids ls) h)
models_good ((n, clock_line ps) ∷ ls) g h = models_good ls g.1 (next_follow (clock_line ps) (saids ls) h)
models_good ((n, names_line ins out) ∷ ls) g h = models_good ls g.1 (next_follow (names_line ins out) (saids ls) h)
models_good ((n, row_line cells b) ∷ ls) g h = models_good ls g.1 (next_follow (row_line cells b) (saids ls) h)
models_good ((n, latch_line d q c i) ∷ ls) g h = models_good ls g.1 (next_follow (latch_line d q c i) (saids ls) h)
models_good ((n, subckt_line m bs) ∷ ls) g h = models_good ls g.1 (next_follow (subckt_line m bs) (saids ls) h)
models_good ((n, end_line) ∷ ls) g h = models_good ls g.1 (next_follow end_line (saids ls) h)

some_model : (ls : List Numbered) → BeginsWithModel (saids ls) → 1 ≤ length (models_of ls)
some_model [] h = absurd h
some_model ((n, model_line x) ∷ ls) h = omega arith
some_model ((n, _) ∷ ls) h = absurd h

pub reads_file : (bytes : List ℕ) (file : File) → Reads bytes file → IsFile file
reads_file bytes file r =
    let models = sym r.models in
    record {
      some_model = subst (λ ms. 1 ≤ length ms) models (some_model r.lines r.begins);
      distinct = r.distinct;
      models = subst (AllByRecursion IsFileModel) models (models_good r.lines (good_lines (logical_lines bytes) r.lines r.cases (logical_lines_good bytes)) r.order);
      limits = r.limits;
      lines = subst HaveLines models (models_have_lines 1 r.lines (said_up bytes r.lines r.cases));
    }
