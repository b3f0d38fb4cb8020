-- How latches are clocked, statement by statement.
use Rattle.std.proofs.Common.{◌≡◌, refl, sym, ◌∙◌, ap, ap₂, List, [], ◌∷◌, ◌++◌, map, filter, find, filter_map, Bool, true, false, ◌||◌, ◌&&◌, not, cond, Option, Some, None, option_map}
use Rattle.std.specs.Bool.{then_some}
use Rattle.std.specs.List.{AllByRecursion, cons_option, flat_map}
use Rattle.std.specs.Option.{option_or}
use Rattle.std.proofs.lemmas.List.Folds.{find-append}
use Rattle.netlist_spec.specs.Netlist.{Name, same_name, stands_in, Statement, names, latch, subckt, Model}
use Rattle.netlist_spec.specs.Reads.{control_nets}
use Rattle.netlist_spec.specs.Placed.{port_names}
use Rattle.netlist_spec.specs.Models.{Latch, as_latch, latches_of, first_clocking, same_clocking, is_declared, clock_nets}
use Rattle.netlist_spec.specs.Sound.{is_clocked}
use Rattle.imp_text.proofs.NamesLemmas.{same_name_self, stands_in-append}
use Rattle.blif_read.specs.declared.file.Port.{Port}
use Rattle.blif_read.specs.declared.file.Located.{Located}
use Rattle.blif_read.specs.View.{name_at, statement_of, located_of}
use Rattle.main_check.specs.Clocking.{odd_output, odd_among, read_clock_of}
use Rattle.main_check.proofs.Firsts.{first_some}

one_odd : (m : Model) (s : Statement) (ls : List Latch)
    → option_map (λ l. l.q) (find (λ l. not (is_clocked m l)) (cons_option (as_latch s) ls)) ≡ option_or (odd_output m s) (option_map (λ l. l.q) (find (λ l. not (is_clocked m l)) ls))
one_odd m (names ins out cover) ls = refl
one_odd m (subckt name binds) ls = refl
one_odd m (latch d q clocking init) ls = at (not (same_clocking clocking (first_clocking (latches_of m)) && is_declared m clocking))
  where
    at : (b : Bool) → option_map (λ (l : Latch). l.q) (cond b (Some (record { d = d; q = q; clocking = clocking; init = init })) (find (λ l. not (is_clocked m l)) ls))
        ≡ option_or (then_some b q) (option_map (λ (l : Latch). l.q) (find (λ l. not (is_clocked m l)) ls))
    at true = refl
    at false = refl

pub odd_is : (m : Model) (all : List Name) (ss : List Located) → first_some (λ (s : Located). odd_output m (statement_of all s.what)) ss ≡ odd_among m (map (located_of all) ss)
odd_is m all [] = refl
odd_is m all (s ∷ ss) =
    ap (option_or (odd_output m (statement_of all s.what))) (odd_is m all ss)
    ∙ sym (one_odd m (statement_of all s.what) (filter_map (λ s. as_latch s.what) (map (located_of all) ss)))

-- ---- clock nets that are read

abbrev pub read_at : List Name → List Name → List Name → Port → Option Name
read_at all nets reads port =
    then_some (stands_in (name_at all port.name) nets && stands_in (name_at all port.name) reads) (name_at all port.name)

pub read_is : (all nets reads : List Name) (ports : List Port)
    → first_some (read_at all nets reads) ports ≡ find (λ n. stands_in n reads) (filter (λ n. stands_in n nets) (map (λ (port : Port). name_at all port.name) ports))
read_is all nets reads [] = refl
read_is all nets reads (p ∷ ps) =
    ap (option_or (read_at all nets reads p)) (read_is all nets reads ps)
    ∙ at (name_at all p.name) (filter (λ n. stands_in n nets) (map (λ (port : Port). name_at all port.name) ps)) (stands_in (name_at all p.name) nets)
  where
    one : (n : Name) (rest : Option Name) (r : Bool) → option_or (then_some r n) rest ≡ cond r (Some n) rest
    one n rest true = refl
    one n rest false = refl

    at : (n : Name) (rest : List Name) (b : Bool) → option_or (then_some (b && stands_in n reads) n) (find (λ k. stands_in k reads) rest) ≡ find (λ k. stands_in k reads) (cond b (n ∷ rest) rest)
    at n rest true = one n (find (λ k. stands_in k reads) rest) (stands_in n reads)
    at n rest false = refl

-- what the marks of a port tell
pub read_told : (a b a' b' : Bool) (n : Name) (r : Bool) → a ≡ a' → b ≡ b' → (a && b) ≡ r → then_some (a' && b') n ≡ then_some r n
read_told a b a' b' n r e f g = ap (λ (x : Bool). then_some x n) (ap₂ (λ (x y : Bool). x && y) (sym e) (sym f) ∙ g)

or_last : (a b : Bool) → b ≡ true → (a || b) ≡ true
or_last true b e = refl
or_last false b e = e

or_first : (a b : Bool) → a ≡ true → (a || b) ≡ true
or_first true b e = refl
or_first false b e = cc e

each_more : (n : Name) (whole ns : List Name) → AllByRecursion (λ k. stands_in k whole ≡ true) ns → AllByRecursion (λ k. stands_in k (n ∷ whole) ≡ true) ns
each_more n whole [] a = tt
each_more n whole (k ∷ ks) a = (or_last (same_name k n) (stands_in k whole) a.0, each_more n whole ks a.1)

each_own : (ns : List Name) → AllByRecursion (λ k. stands_in k ns ≡ true) ns
each_own [] = tt
each_own (n ∷ ns) = (or_first (same_name n n) (stands_in n ns) (same_name_self n), each_more n ns ns (each_own ns))

each_front : (whole more ns : List Name) → AllByRecursion (λ k. stands_in k whole ≡ true) ns → AllByRecursion (λ k. stands_in k (whole ++ more) ≡ true) ns
each_front whole more [] a = tt
each_front whole more (k ∷ ks) a =
    (stands_in-append k whole more ∙ or_first (stands_in k whole) (stands_in k more) a.0, each_front whole more ks a.1)

all_kept : (t : Name → Bool) (ns : List Name) → AllByRecursion (λ n. t n ≡ true) ns → filter t ns ≡ ns
all_kept t [] a = refl
all_kept t (n ∷ ns) a = ap (λ b. cond b (n ∷ filter t ns) (filter t ns)) a.0 ∙ ap (λ ks. n ∷ ks) (all_kept t ns a.1)

clocks_kept : (m : Model) → filter (λ n. stands_in n (clock_nets m)) (port_names m.clocks) ≡ port_names m.clocks
clocks_kept m =
    all_kept (λ n. stands_in n (clock_nets m)) (port_names m.clocks)
    (each_front (port_names m.clocks) (flat_map (λ (l : Latch). control_nets l.clocking) (latches_of m)) (port_names m.clocks) (each_own (port_names m.clocks)))

-- the clock nets among inputs and then those of `.clock`
pub read_clock_is : (m : Model) (reads : List Name)
    → read_clock_of m reads ≡ option_or (find (λ n. stands_in n reads) (filter (λ n. stands_in n (clock_nets m)) (port_names m.inputs))) (find (λ n. stands_in n reads) (filter (λ n. stands_in n (clock_nets m)) (port_names m.clocks)))
read_clock_is m reads =
    find-append (λ n. stands_in n reads) (filter (λ n. stands_in n (clock_nets m)) (port_names m.inputs)) (port_names m.clocks)
    ∙ ap (λ ns. option_or (find (λ n. stands_in n reads) (filter (λ n. stands_in n (clock_nets m)) (port_names m.inputs))) (find (λ n. stands_in n reads) ns)) (sym (clocks_kept m))

pub first_part : (a b whole : Option Name) (n : Name) → whole ≡ option_or a b → Some n ≡ a → Some n ≡ whole
first_part a b whole n e some = sym (e ∙ ap (λ o. option_or o b) (sym some))

pub second_part : (a b whole c : Option Name) → whole ≡ option_or a b → None ≡ a → c ≡ b → c ≡ whole
second_part a b whole c e none is = is ∙ sym (e ∙ ap (λ o. option_or o b) (sym none))
