-- Latches, and the counts that have a limit.
use Rattle.std.proofs.Common.{◌≡◌, refl, sym, ◌∙◌, ap, ap₂, ℕ, suc, ◌+◌, ◌<◌, ◌≤◌, min, List, [], ◌∷◌, map, length, count_by, filter_map, Bool, true, false, ◌||◌, not, cond, nat_lt, Option, Some, None, arith}
use Rattle.std.specs.List.{cons_option, list_any}
use Rattle.std.proofs.lemmas.List.Sums.{sum_by-cons}
use Rattle.netlist_spec.specs.Lines.{is_empty}
use Rattle.netlist_spec.specs.Netlist.{Name, Quantity, model_inputs, model_outputs, model_latches, source_cost}
use Rattle.netlist_spec.specs.Models.{Latch, as_latch}
use Rattle.blif_read.specs.declared.file.Located.{Located}
use Rattle.blif_read.specs.declared.file.Statement.{Statement}
use Rattle.blif_read.specs.declared.file.Statement.TheVariants.{Names, Latch as ReadLatch, Subckt}
use Rattle.blif_read.specs.View.{statement_of, located_of}
use Rattle.main_check.specs.Counts.{is_latch}

count_cons : {A : Type 0} (p : A → Bool) (x : A) (xs : List A) → count_by p (x ∷ xs) ≡ cond (p x) (suc (count_by p xs)) (count_by p xs)
count_cons p x xs = sum_by-cons (λ y. cond (p y) 1 0) x xs ∙ one (p x) (count_by p xs)
  where
    one : (b : Bool) (n : ℕ) → cond b 1 0 + n ≡ cond b (suc n) n
    one true n = omega arith
    one false n = omega arith

one_counted : (all : List Name) (s : Statement) (n : ℕ) (ls : List Latch) → n ≡ length ls → cond (is_latch s) (suc n) n ≡ length (cons_option (as_latch (statement_of all s)) ls)
one_counted all (Names ins out cover) n ls e = e
one_counted all (ReadLatch d q clocking init) n ls e = ap suc e
one_counted all (Subckt model binds) n ls e = e

-- how many statements are latches
pub latches_counted : (all : List Name) (ss : List Located) → count_by (λ (s : Located). is_latch s.what) ss ≡ length (filter_map (λ s. as_latch s.what) (map (located_of all) ss))
latches_counted all [] = refl
latches_counted all (s ∷ ss) =
    count_cons (λ (x : Located). is_latch x.what) s ss
    ∙ one_counted all s.what (count_by (λ (x : Located). is_latch x.what) ss) (filter_map (λ s. as_latch s.what) (map (located_of all) ss)) (latches_counted all ss)

one_any : (all : List Name) (s : Statement) (rest : Bool) (ls : List Latch) → rest ≡ not (is_empty ls) → (is_latch s || rest) ≡ not (is_empty (cons_option (as_latch (statement_of all s)) ls))
one_any all (Names ins out cover) rest ls e = e
one_any all (ReadLatch d q clocking init) rest ls e = refl
one_any all (Subckt model binds) rest ls e = e

-- whether some statement is one
pub any_latch : (all : List Name) (ss : List Located) → list_any (λ (s : Located). is_latch s.what) ss ≡ not (is_empty (filter_map (λ s. as_latch s.what) (map (located_of all) ss)))
any_latch all [] = refl
any_latch all (s ∷ ss) = one_any all s.what (list_any (λ (x : Located). is_latch x.what) ss) (filter_map (λ s. as_latch s.what) (map (located_of all) ss)) (any_latch all ss)

-- the first count past its limit, where the counts are the same and the cost is cut off past its limit
pub same_counts : (a b c d a' b' c' d' : ℕ) → a ≡ a' → b ≡ b' → c ≡ c' → d ≡ min d' 1000001
    → cond (nat_lt 4096 a) (Some model_inputs) (cond (nat_lt 4096 b) (Some model_outputs) (cond (nat_lt 4096 c) (Some model_latches) (cond (nat_lt 1000000 d) (Some source_cost) None)))
    ≡ cond (nat_lt 4096 a') (Some model_inputs) (cond (nat_lt 4096 b') (Some model_outputs) (cond (nat_lt 4096 c') (Some model_latches) (cond (nat_lt 1000000 d') (Some source_cost) None)))
same_counts a b c d a' b' c' d' e f g h =
    ap (λ x. cond (nat_lt 4096 x) (Some model_inputs) (cond (nat_lt 4096 b) (Some model_outputs) (cond (nat_lt 4096 c) (Some model_latches) (cond (nat_lt 1000000 d) (Some source_cost) None)))) e
    ∙ (ap (λ x. cond (nat_lt 4096 a') (Some model_inputs) (cond (nat_lt 4096 x) (Some model_outputs) (cond (nat_lt 4096 c) (Some model_latches) (cond (nat_lt 1000000 d) (Some source_cost) None)))) f
    ∙ (ap (λ x. cond (nat_lt 4096 a') (Some model_inputs) (cond (nat_lt 4096 b') (Some model_outputs) (cond (nat_lt 4096 x) (Some model_latches) (cond (nat_lt 1000000 d) (Some source_cost) None)))) g
    ∙ ap (λ (x : Bool). cond (nat_lt 4096 a') (Some model_inputs) (cond (nat_lt 4096 b') (Some model_outputs) (cond (nat_lt 4096 c') (Some model_latches) (cond x (Some source_cost) None)))) (ap (nat_lt 1000000) h ∙ cut d')))
  where
    cut : (n : ℕ) → nat_lt 1000000 (min n 1000001) ≡ nat_lt 1000000 n
    cut n = grind arith
