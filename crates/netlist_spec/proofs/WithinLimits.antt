-- Lines without a fault stay within the limits, and no model is declared twice.
use Rattle.std.proofs.Common.{◌≡◌, refl, sym, ◌∙◌, ap, subst, ℕ, ◌+◌, ◌-◌, ◌≤◌, List, [], ◌∷◌, ◌++◌, map, length, Bool, true, false, ◌&&◌, not, cond, Some, None, nat_lt, arith, lit≤, length-append}
use Rattle.std.specs.Prelude.{sum_by, count_by}
use Rattle.std.specs.List.{AllByRecursion, list_any, flat_map}
use Rattle.std.proofs.lemmas.Bool.{or_parts, or_from, and_from, ltb-false}
use Rattle.netlist_spec.specs.Lines.{Line}
use Rattle.netlist_spec.specs.Netlist.{cover_inputs, model_inputs, model_outputs, model_clocks, model_latches, file_statements, Port, Name, same_name, stands_in, are_distinct}
use Rattle.netlist_spec.specs.Statements.{Said, model_line, inputs_line, outputs_line, clock_line, names_line, row_line, latch_line, subckt_line, end_line}
use Rattle.netlist_spec.specs.Reads.{Numbered, models_of, model_of, model_body, statements_in, inputs_in, outputs_in, clocks_in, latch_count_of, IsNarrow, IsWithinModelLimits}
use Rattle.netlist_spec.specs.ReadFaults.{Kind, model_kind, inputs_kind, outputs_kind, clock_kind, names_kind, latch_kind, is_kind, arguments, is_model_again, fault_from, model_names, names_declared, lines_of_model, is_statement}
use Rattle.netlist_spec.proofs.NoFault.{line_at, both_absent, other_way, behind_hit, behind_miss, sum_snoc, sum_cons, declares, counts, IsOther, other_kind_no, body_step, models_step, inputs_said, outputs_said, clocks_said, latches_said, statements_said, declared_more, counted_more, all_counted_more, Room, left_names, Unused, new_names, Names}
use Rattle.netlist_spec.proofs.FirstFault.{first_passes}
use Rattle.netlist_spec.proofs.Passes.{Passes, line_passes}

-- ---- the counts of the lines so far

record Bounded (earlier : List Line) : Type 0 where
  inputs : names_declared inputs_kind (lines_of_model earlier) ≤ 131072
  outputs : names_declared outputs_kind (lines_of_model earlier) ≤ 131072
  clocks : names_declared clock_kind (lines_of_model earlier) ≤ 131072
  latches : count_by (is_kind latch_kind) (lines_of_model earlier) ≤ 131072
  statements : count_by is_statement earlier ≤ 2000000

nothing_counted : Bounded []
nothing_counted = record { inputs = lit≤ tt; outputs = lit≤ tt; clocks = lit≤ tt; latches = lit≤ tt; statements = lit≤ tt }

-- no count is past its number
each_small : (a b c d e f : Bool) → cond a (Some cover_inputs) (cond b (Some model_inputs) (cond c (Some model_outputs) (cond d (Some model_clocks) (cond e (Some model_latches) (cond f (Some file_statements) None))))) ≡ None
    → (a ≡ false) × (b ≡ false) × (c ≡ false) × (d ≡ false) × (e ≡ false) × (f ≡ false)
each_small true b c d e f h = cc h
each_small false true c d e f h = cc h
each_small false false true d e f h = cc h
each_small false false false true e f h = cc h
each_small false false false false true f h = cc h
each_small false false false false false true h = cc h
each_small false false false false false false h = (refl, refl, refl, refl, refl, refl)

-- what a line adds to a count is tested where it is more than nothing
sum_bound : (p : Line → Bool) (g : Line → ℕ) (most : ℕ) (xs : List Line) (l : Line) → (p l && nat_lt most (sum_by (λ k. cond (p k) (g k) 0) (xs ++ l ∷ []))) ≡ false
    → sum_by (λ k. cond (p k) (g k) 0) xs ≤ most → sum_by (λ k. cond (p k) (g k) 0) (xs ++ l ∷ []) ≤ most
sum_bound p g most xs l h before = go (p l) refl (sum_by (λ k. cond (p k) (g k) 0) (xs ++ l ∷ [])) (sum_snoc (λ k. cond (p k) (g k) 0) xs l) h
  where
    go : (b : Bool) → p l ≡ b → (n : ℕ) → n ≡ sum_by (λ k. cond (p k) (g k) 0) xs + cond b (g l) 0 → (b && nat_lt most n) ≡ false → n ≤ most
    go true e n s h = ltb-false most n h
    go false e n s h = omega arith

-- of one model: its `.model` line begins with nothing
model_bound : (p : Line → Bool) (g : Line → ℕ) (most : ℕ) (earlier : List Line) (l : Line) → (p l && nat_lt most (sum_by (λ k. cond (p k) (g k) 0) (lines_of_model earlier ++ l ∷ []))) ≡ false
    → sum_by (λ k. cond (p k) (g k) 0) (lines_of_model earlier) ≤ most → sum_by (λ k. cond (p k) (g k) 0) (lines_of_model (earlier ++ l ∷ [])) ≤ most
model_bound p g most earlier l h before = go (is_kind model_kind l) refl
  where
    total : List Line → ℕ
    total xs = sum_by (λ k. cond (p k) (g k) 0) xs

    go : (b : Bool) → is_kind model_kind l ≡ b → sum_by (λ k. cond (p k) (g k) 0) (lines_of_model (earlier ++ l ∷ [])) ≤ most
    go true e = let none = ap (sum_by (λ k. cond (p k) (g k) 0)) (behind_hit (is_kind model_kind) earlier l e) in omega arith
    go false e = subst (λ xs. sum_by (λ k. cond (p k) (g k) 0) xs ≤ most) (sym (behind_miss (is_kind model_kind) earlier l e)) (sum_bound p g most (lines_of_model earlier) l h before)

still_bounded : (earlier : List Line) (l : Line) → Passes earlier l → Bounded earlier → Bounded (earlier ++ l ∷ [])
still_bounded earlier l p b =
    let small = each_small _ _ _ _ _ _ p.counts in
    record {
      inputs = model_bound (is_kind inputs_kind) (λ k. length (arguments k)) 131072 earlier l small.1 b.inputs;
      outputs = model_bound (is_kind outputs_kind) (λ k. length (arguments k)) 131072 earlier l small.2 b.outputs;
      clocks = model_bound (is_kind clock_kind) (λ k. length (arguments k)) 131072 earlier l small.3 b.clocks;
      latches = model_bound (is_kind latch_kind) (λ k. 1) 131072 earlier l small.4 b.latches;
      statements = sum_bound is_statement (λ k. 1) 2000000 earlier l small.5 b.statements;
    }

-- ---- the counts of the lines before with those of the lines that are left

room_left : (earlier : List Line) → Bounded earlier → Room earlier []
room_left earlier b =
    record {
      inputs = let h = b.inputs in omega arith;
      outputs = let h = b.outputs in omega arith;
      clocks = let h = b.clocks in omega arith;
      latches = let h = b.latches in omega arith;
      statements = let h = b.statements in omega arith;
      covers = tt;
      later = tt;
    }

port_back : (k : Kind) (f : Numbered → List Port) (earlier : List Line) (n : ℕ) (s : Said) (rest : List Numbered) → IsOther s → declares k (line_at (n, s)) ≡ length (f (n, s))
    → names_declared k (lines_of_model (earlier ++ line_at (n, s) ∷ [])) + length (flat_map f (model_body rest)) ≤ 131072
    → names_declared k (lines_of_model earlier) + length (flat_map f (model_body ((n, s) ∷ rest))) ≤ 131072
port_back k f earlier n s rest o d h =
    let e : names_declared k (lines_of_model (earlier ++ line_at (n, s) ∷ [])) ≡ names_declared k (lines_of_model earlier) + declares k (line_at (n, s)) = declared_more k earlier n s (other_kind_no n s o) in
    let g : length (flat_map f (model_body ((n, s) ∷ rest))) ≡ length (f (n, s)) + length (flat_map f (model_body rest)) =
    ap (λ b. length (flat_map f b)) (body_step n s rest o) ∙ length-append (f (n, s)) (flat_map f (model_body rest)) in
    omega arith

cover_narrow : (n : ℕ) (ins : List Name) (out : Name) → nat_lt 16 (length (ins ++ out ∷ []) - 1) ≡ false → length ins ≤ 16
cover_narrow n ins out h = let k = ltb-false 16 (length (ins ++ out ∷ []) - 1) h in let e = length-append ins (out ∷ []) in omega arith

covers_back : (n : ℕ) (s : Said) (rest : List Numbered) → (is_kind names_kind (line_at (n, s)) && nat_lt 16 (length (arguments (line_at (n, s))) - 1)) ≡ false
    → AllByRecursion (λ t. IsNarrow t.what) (statements_in rest) → AllByRecursion (λ t. IsNarrow t.what) (statements_in ((n, s) ∷ rest))
covers_back n (model_line x) rest h a = a
covers_back n (inputs_line ps) rest h a = a
covers_back n (outputs_line ps) rest h a = a
covers_back n (clock_line ps) rest h a = a
covers_back n (names_line ins out) rest h a = (cover_narrow n ins out h, a)
covers_back n (row_line cells b) rest h a = a
covers_back n (latch_line d q k init) rest h a = (tt, a)
covers_back n (subckt_line m bs) rest h a = (tt, a)
covers_back n end_line rest h a = a

room_other_back : (earlier : List Line) (n : ℕ) (s : Said) (rest : List Numbered) → IsOther s → Passes earlier (line_at (n, s)) → Room (earlier ++ line_at (n, s) ∷ []) rest → Room earlier ((n, s) ∷ rest)
room_other_back earlier n s rest o p r =
    record {
      inputs = port_back inputs_kind inputs_in earlier n s rest o (inputs_said n s) r.inputs;
      outputs = port_back outputs_kind outputs_in earlier n s rest o (outputs_said n s) r.outputs;
      clocks = port_back clock_kind clocks_in earlier n s rest o (clocks_said n s) r.clocks;
      latches =
          let e : count_by (is_kind latch_kind) (lines_of_model (earlier ++ line_at (n, s) ∷ [])) ≡ count_by (is_kind latch_kind) (lines_of_model earlier) + counts (is_kind latch_kind) (line_at (n, s)) = counted_more (is_kind latch_kind) earlier n s (other_kind_no n s o) in
          let g : sum_by (λ t. latch_count_of t.what) (statements_in (model_body ((n, s) ∷ rest))) ≡ counts (is_kind latch_kind) (line_at (n, s)) + sum_by (λ t. latch_count_of t.what) (statements_in (model_body rest)) =
          ap (λ b. sum_by (λ t. latch_count_of t.what) (statements_in b)) (body_step n s rest o) ∙ latches_said n s (model_body rest) in
          let h = r.latches in
          omega arith;
      statements =
          let e : count_by is_statement (earlier ++ line_at (n, s) ∷ []) ≡ count_by is_statement earlier + counts is_statement (line_at (n, s)) = all_counted_more is_statement earlier (line_at (n, s)) in
          let g : length (statements_in (model_body ((n, s) ∷ rest))) ≡ counts is_statement (line_at (n, s)) + length (statements_in (model_body rest)) =
          ap (λ b. length (statements_in b)) (body_step n s rest o) ∙ statements_said n s (model_body rest) in
          let m : sum_by (λ m. length m.statements) (models_of ((n, s) ∷ rest)) ≡ sum_by (λ m. length m.statements) (models_of rest) = ap (sum_by (λ m. length m.statements)) (models_step n s rest o) in
          let h = r.statements in
          omega arith;
      covers = subst (λ b. AllByRecursion (λ t. IsNarrow t.what) (statements_in b)) (sym (body_step n s rest o)) (covers_back n s (model_body rest) (each_small _ _ _ _ _ _ p.counts).0 r.covers);
      later = subst (AllByRecursion IsWithinModelLimits) (sym (models_step n s rest o)) r.later;
    }

-- the counts of the model that a line begins are those of the lines that are left
model_within : (earlier : List Line) (n : ℕ) (x : Name) (rest : List Numbered) → Room (earlier ++ line_at (n, model_line x) ∷ []) rest → IsWithinModelLimits (model_of n x (model_body rest))
model_within earlier n x rest r =
    record {
      covers = r.covers;
      inputs = let h = r.inputs in omega arith;
      outputs = let h = r.outputs in omega arith;
      clocks = let h = r.clocks in omega arith;
      latches = let h = r.latches in omega arith;
    }

room_model_back : (earlier : List Line) (n : ℕ) (x : Name) (rest : List Numbered) → Bounded earlier → Room (earlier ++ line_at (n, model_line x) ∷ []) rest → Room earlier ((n, model_line x) ∷ rest)
room_model_back earlier n x rest b r =
    record {
      inputs = let h = b.inputs in omega arith;
      outputs = let h = b.outputs in omega arith;
      clocks = let h = b.clocks in omega arith;
      latches = let h = b.latches in omega arith;
      statements =
          let e : count_by is_statement (earlier ++ line_at (n, model_line x) ∷ []) ≡ count_by is_statement earlier + 0 = all_counted_more is_statement earlier (line_at (n, model_line x)) in
          let g : sum_by (λ m. length m.statements) (models_of ((n, model_line x) ∷ rest)) ≡ length (statements_in (model_body rest)) + sum_by (λ m. length m.statements) (models_of rest) =
          sum_cons (λ m. length m.statements) (model_of n x (model_body rest)) (models_of rest) in
          let h = r.statements in
          let goal : count_by is_statement earlier + (0 + sum_by (λ m. length m.statements) (models_of ((n, model_line x) ∷ rest))) ≤ 2000000 = omega arith in
          goal;
      covers = tt;
      later = (model_within earlier n x rest r, r.later);
    }

room_back : (earlier : List Line) (n : ℕ) (s : Said) (rest : List Numbered) → Bounded earlier → Passes earlier (line_at (n, s)) → Room (earlier ++ line_at (n, s) ∷ []) rest → Room earlier ((n, s) ∷ rest)
room_back earlier n (model_line x) rest b p r = room_model_back earlier n x rest b r
room_back earlier n s rest b p r = room_other_back earlier n s rest tt p r

room_of : (earlier : List Line) (ns : List Numbered) → Bounded earlier → fault_from earlier (map line_at ns) ≡ None → Room earlier ns
room_of earlier [] b h = room_left earlier b
room_of earlier (n ∷ ns) b h =
    let parts = first_passes earlier (line_at n) (map line_at ns) h in
    let here : Passes earlier (line_at n) = line_passes earlier (line_at n) parts.0 in
    room_back earlier n.0 n.1 ns b here (room_of (earlier ++ line_at n ∷ []) ns (still_bounded earlier (line_at n) here b) parts.1)

pub lines_have_room : (ns : List Numbered) → fault_from [] (map line_at ns) ≡ None → Room [] ns
lines_have_room ns h = room_of [] ns nothing_counted h

-- ---- the names of the models

absent_before : (f : Line → List Name) (p : Name → Bool) (xs : List Line) (l : Line) → list_any p (flat_map f (xs ++ l ∷ [])) ≡ false → (list_any p (flat_map f xs) ≡ false) × (list_any p (f l) ≡ false)
absent_before f p [] l h = (refl, (both_absent p (f l) [] h).0)
absent_before f p (x ∷ xs) l h =
    let parts = both_absent p (f x) (flat_map f (xs ++ l ∷ [])) h in
    let rest = absent_before f p xs l parts.1 in
    (absent_both p (f x) (flat_map f xs) parts.0 rest.0, rest.1)
  where
    absent_both : (p : Name → Bool) (xs ys : List Name) → list_any p xs ≡ false → list_any p ys ≡ false → list_any p (xs ++ ys) ≡ false
    absent_both p [] ys h k = k
    absent_both p (x ∷ xs) ys h k = let parts = or_parts _ _ h in or_from _ _ parts.0 (absent_both p xs ys parts.1 k)

unused_before : (earlier : List Line) (l : Line) (ns : List Name) → Unused (earlier ++ l ∷ []) ns → Unused earlier ns
unused_before earlier l [] u = tt
unused_before earlier l (y ∷ ns) u = ((absent_before new_names (same_name y) earlier l u.0).0, unused_before earlier l ns u.1)

new_name_absent : (earlier : List Line) (n : ℕ) (x : Name) (ns : List Name) → Unused (earlier ++ line_at (n, model_line x) ∷ []) ns → stands_in x ns ≡ false
new_name_absent earlier n x [] u = refl
new_name_absent earlier n x (y ∷ ns) u =
    let here : list_any (same_name y) (x ∷ []) ≡ false = (absent_before new_names (same_name y) earlier (line_at (n, model_line x)) u.0).1 in
    or_from _ _ (other_way y x (or_parts _ _ here).0) (new_name_absent earlier n x ns u.1)

names_model_back : (earlier : List Line) (n : ℕ) (x : Name) (rest : List Numbered) → is_model_again earlier (line_at (n, model_line x)) ≡ false → Names (earlier ++ line_at (n, model_line x) ∷ []) rest → Names earlier ((n, model_line x) ∷ rest)
names_model_back earlier n x rest again h = (
  (((or_parts (stands_in x (model_names earlier)) false again).0), unused_before earlier (line_at (n, model_line x)) (left_names rest) h.0),
  and_from _ _ (ap not (new_name_absent earlier n x (left_names rest) h.0)) h.1,
)

names_other_back : (earlier : List Line) (n : ℕ) (s : Said) (rest : List Numbered) → IsOther s → Names (earlier ++ line_at (n, s) ∷ []) rest → Names earlier ((n, s) ∷ rest)
names_other_back earlier n s rest o h =
    let same : left_names ((n, s) ∷ rest) ≡ left_names rest = ap (map (λ m. m.name)) (models_step n s rest o) in
    (subst (Unused earlier) (sym same) (unused_before earlier (line_at (n, s)) (left_names rest) h.0), ap are_distinct same ∙ h.1)

names_back : (earlier : List Line) (n : ℕ) (s : Said) (rest : List Numbered) → is_model_again earlier (line_at (n, s)) ≡ false → Names (earlier ++ line_at (n, s) ∷ []) rest → Names earlier ((n, s) ∷ rest)
names_back earlier n (model_line x) rest again h = names_model_back earlier n x rest again h
names_back earlier n s rest again h = names_other_back earlier n s rest tt h

pub names_of : (earlier : List Line) (ns : List Numbered) → fault_from earlier (map line_at ns) ≡ None → Names earlier ns
names_of earlier [] h = (tt, refl)
names_of earlier (n ∷ ns) h =
    let parts = first_passes earlier (line_at n) (map line_at ns) h in
    names_back earlier n.0 n.1 ns (line_passes earlier (line_at n) parts.0).again (names_of (earlier ++ line_at n ∷ []) ns parts.1)
