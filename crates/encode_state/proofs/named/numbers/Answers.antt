use Rattle.std.proofs.Common.{◌≡◌, sym, ◌∙◌, ap, subst, ◌<◌, ℕ, [], ◌∷◌, ◌++◌, List, Some, false, not, take, get_or}
use Rattle.std.proofs.lemmas.List.{take_more}
use Rattle.std.specs.List.{AllZip}
use Rattle.std.specs.Prelude.{slice_get}
use Rattle.netlist_spec.specs.Netlist.{Name, stands_in}
use Rattle.guard_spec.specs.Words.{as_fault, no_such_net}
use Rattle.encode_state.specs.Listed.{Numbers}
use Rattle.encode_state.proofs.ListedLemmas.{all_known, find_at, item_at, zip_push}
use Rattle.encode_state.proofs.named.numbers.Goals as goal

pub returns-in-None-clause-fault : goal.returns-in-None-clause-fault
returns-in-None-clause-fault c = λ nets are.
    let word = c.args.word.now in
    let i = c.loop-name.name-index in
    let is : get_or word i [] ≡ c.name-item.result = item_at word i c.name-item.result [] c.loop-name-test.true c.name-item.is in
    let absent : stands_in (get_or word i []) nets ≡ false = ap (λ n. stands_in n nets) (is ∙ sym c.bytes.ensures.bytes) ∙ c.in-None.ensures nets are in
    ap (as_fault (λ n. no_such_net n))
    (find_at (λ n. not (stands_in n nets)) word i [] c.loop-name-test.true (all_known nets (take i word) c.loop-name.numbers.items (c.loop-name.invariant nets are)) (ap not absent))
    ∙ ap (λ n. Some (no_such_net n)) (is ∙ (sym c.bytes-in-None.ensures.bytes ∙ sym c.in_ok-name-in-None.ensures))

pub loop-name-preserved : goal.loop-name-preserved
loop-name-preserved c = λ nets are.
    let word = c.args.word.now in
    let i = c.loop-name.name-index in
    let is : get_or word i [] ≡ c.name-item.result = item_at word i c.name-item.result [] c.loop-name-test.true c.name-item.is in
    let here : Numbers nets (get_or word i []) c.in-Some.place = c.in-Some.ensures nets are ∙ ap (λ n. Some n) (c.bytes.ensures.bytes ∙ sym is) in
    rw c.in_ok-push-in-Some.ensures.items
    (subst (λ (ns : List Name). AllZip (Numbers nets) ns (c.loop-name.numbers.items ++ c.in-Some.place ∷ [])) (sym (take_more word i [] c.loop-name-test.true))
    (zip_push (Numbers nets) (take i word) c.loop-name.numbers.items (get_or word i []) c.in-Some.place (c.loop-name.invariant nets are) here))
