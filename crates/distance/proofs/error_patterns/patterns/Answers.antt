use Rattle.std.proofs.Common.{◌≡◌, sym, ◌∙◌, ap, ap₂, subst, ℕ, ◌+◌, ◌^◌, ◌<◌, List, [], ◌++◌, map, length, arith}
use Rattle.std.proofs.lemmas.List.{map-append}
use Rattle.std.proofs.lemmas.List.Elements.{All-from_recursion}
use Rattle.distance.specs.declared.error_patterns.Pattern.{Pattern}
use Rattle.distance.specs.Patterns.{pattern_at}
use Rattle.distance.proofs.PairLemmas.{every_weaken}
use Rattle.distance.proofs.LevelLemmas.{level_zero, level_next}
use Rattle.distance.proofs.PatternLemmas.{AreErrors, below_all, no_errors, errors_more, are_patterns, within, few}
use Rattle.distance.proofs.error_patterns.patterns.Goals as goal

pub loop-init : goal.loop-init
loop-init c = record {
  level = rw c.in_ok-errors.ensures.items (level_zero (c.args.m + c.args.c.now.columns));
  found = ([], c.new-found.ensures.items, no_errors (c.args.m + c.args.c.now.columns));
}

pub push_patterns-requires-clause-within : goal.push_patterns-requires-clause-within
push_patterns-requires-clause-within c =
    let next = level_next c.args.m _ _ _ _ _ _ c.r.ensures.columns c.loop.invariant.level c.deref.ensures.value c.in_ok-errors-2.ensures in
    rw c.deref-in-loop.ensures.value (All-from_recursion (λ x. x < 2 ^ (c.args.m + c.args.c.now.columns)) _ (every_weaken _ (λ x. x < 2 ^ (c.args.m + c.args.c.now.columns)) (λ x h. h.0) _ next.each))

pub loop-preserved : goal.loop-preserved
loop-preserved c =
    let (xs, is, errors) = c.loop.invariant.found in
    let ys = c.in_ok-errors-2.errors.items in
    let pattern = pattern_at c.args.c.now c.args.m in
    let next = level_next c.args.m _ _ _ _ _ _ c.r.ensures.columns c.loop.invariant.level c.deref.ensures.value c.in_ok-errors-2.ensures in
    record {
      level = next;
      found = (xs ++ ys, c.in_ok-push_patterns.ensures ∙ (ap₂ (λ (a : List Pattern) (b : List ℕ). a ++ map pattern b) is c.deref-in-loop.ensures.value ∙ sym (map-append pattern xs ys)), errors_more _ _ xs ys errors next);
    }

-- at the end of the loop its invariant speaks of all t places
last : (c : goal.After-drop-errors-2) → (xs : List ℕ) × (c.loop.found.items ≡ map (pattern_at c.args.c.now c.args.m) xs) × AreErrors (c.args.m + c.args.c.now.columns) c.args.t xs
last c =
    let (xs, is, errors) = c.loop.invariant.found in
    let end : c.loop.counter ≡ c.args.t = omega arith in
    (xs, is, subst (λ (t : ℕ). AreErrors (c.args.m + c.args.c.now.columns) t xs) end errors)

pub returns-clause-all : goal.returns-clause-all
returns-clause-all c =
    let (xs, is, errors) = last c in
    rw is (are_patterns c.args.c.now c.r.ensures.valid c.args.m c.args.t xs errors)

pub returns-clause-within : goal.returns-clause-within
returns-clause-within c =
    let (xs, is, errors) = last c in
    rw is (within c.args.c.now c.r.ensures.valid c.args.m c.args.t xs errors)

pub returns-clause-few : goal.returns-clause-few
returns-clause-few c =
    let (xs, is, errors) = last c in
    let (d, is_distance, wide) = c.requires.distance in
    let short = few c.args.c.now c.r.ensures.valid c.args.m c.requires.places d is_distance c.args.t wide xs errors in
    let same = ap length is in
    omega (arith, c.loop.found.ok)

pub returns-clause-at_most : goal.returns-clause-at_most
returns-clause-at_most c =
    let short = returns-clause-few c in
    let columns = below_all _ c.r.ensures.valid.columns.1 in
    omega arith
