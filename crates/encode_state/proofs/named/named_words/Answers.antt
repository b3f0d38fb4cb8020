use Rattle.std.proofs.Common.{◌≡◌, sym, ◌∙◌, ap, subst, arith, ◌<◌, ◌+◌, ℕ, ◌++◌, ◌∷◌, [], List, Option, Some, None, not, find, length, map, take, get_or}
use Rattle.std.specs.Prelude.{Vec}
use Rattle.std.specs.declared.alloc.Global.{Global}
use Rattle.std.specs.List.{AllZip, flat_map, take-map}
use Rattle.std.proofs.lemmas.List.{get_or-map, length-map, map-append, take_more}
use Rattle.std.proofs.lemmas.Result.{err_from_is_err_and}
use Rattle.netlist_spec.specs.Netlist.{Name, stands_in}
use Rattle.guard_spec.specs.Words.{AreNamed, no_such_net}
use Rattle.blif_read.specs.View.{name_at}
use Rattle.encode_state.specs.Faults.{fault_of}
use Rattle.encode_state.specs.Listed.{Numbers, first_unknown}
use Rattle.encode_state.specs.Places.{ArePlaces}
use Rattle.encode_state.specs.Types.{names_in, words_in}
use Rattle.encode_state.proofs.FaultLemmas.{fault_within}
use Rattle.encode_state.proofs.ListedLemmas.{find_within, words_known, zip_push}
use Rattle.encode_state.proofs.named.named_words.Goals as goal

-- the names of the word that was read
word_named : (words : List (Vec Name Global)) (i : ℕ) (w : Vec Name Global) → i < length words → w ≡ get_or words i w → get_or (map names_in words) i [] ≡ names_in w
word_named words i w inside is = get_or-map names_in words i w [] inside ∙ ap names_in (sym is)

pub returns-in_err-numbers-clause-fault : goal.returns-in_err-numbers-clause-fault
returns-in_err-numbers-clause-fault c =
    let nets = map (name_at c.args.names.now) c.args.nets.now in
    let words = c.args.words.now in
    let i = c.loop-word.word-index in
    let word = c.word-item.result in
    let inside : i < length (map names_in words) = (let n = length-map words names_in in let t = c.loop-word-test.true in omega arith) in
    let known : first_unknown nets (flat_map (λ ns. ns) (take i (map names_in words))) ≡ None
    = ap (λ named. first_unknown nets (flat_map (λ ns. ns) named)) (take-map names_in i words) ∙ words_known nets (map names_in (take i words)) (words_in c.loop-word.found.items) c.loop-word.invariant in
    let same : get_or (map names_in words) i [] ≡ c.deref-in-loop-word.result.now = word_named words i word c.loop-word-test.true c.word-item.is ∙ sym c.deref-in-loop-word.ensures.value in
    let are : ArePlaces c.args.names.now nets c.deref.result.now = subst (ArePlaces c.args.names.now nets) (sym c.deref.ensures.value) c.in_ok-places.ensures in
    let p = err_from_is_err_and c.from_residual-in_err-numbers.result c.from_residual-in_err-numbers.ensures.1 in
    rw (p.1, p.2) (
    fault_within (λ n. no_such_net n) (first_unknown nets c.deref-in-loop-word.result.now) (first_unknown nets (flat_map (λ ns. ns) (map names_in words))) (fault_of c.in_err-numbers.field-0.0)
    (λ n e. find_within (λ m. not (stands_in m nets)) (map names_in words) i [] n inside known (ap (first_unknown nets) same ∙ e))
    (c.in_err-numbers.ensures.fault nets are)
    )

pub loop-word-preserved : goal.loop-word-preserved
loop-word-preserved c =
    let nets = map (name_at c.args.names.now) c.args.nets.now in
    let words = c.args.words.now in
    let i = c.loop-word.word-index in
    let word = c.word-item.result in
    let are : ArePlaces c.args.names.now nets c.deref.result.now = subst (ArePlaces c.args.names.now nets) (sym c.deref.ensures.value) c.in_ok-places.ensures in
    let here : AllZip (Numbers nets) word.items c.in_ok-numbers.numbers.items = subst (λ (ns : List Name). AllZip (Numbers nets) ns c.in_ok-numbers.numbers.items) c.deref-in-loop-word.ensures.value (c.in_ok-numbers.ensures.ok nets are) in
    let named : map names_in (take (i + 1) words) ≡ map names_in (take i words) ++ word.items ∷ []
    = ap (map names_in) (take_more words i word c.loop-word-test.true) ∙ (map-append names_in (take i words) (get_or words i word ∷ []) ∙ ap (λ (w : Vec Name Global). map names_in (take i words) ++ w.items ∷ []) (sym c.word-item.is)) in
    let found : words_in c.push.new.self.items ≡ words_in c.loop-word.found.items ++ c.in_ok-numbers.numbers.items ∷ []
    = ap words_in c.in_ok-push.ensures.items ∙ map-append (λ (v : Vec ℕ Global). v.items) c.loop-word.found.items (c.in_ok-numbers.numbers ∷ []) in
    rw (named, found) (zip_push (AllZip (Numbers nets)) (map names_in (take i words)) (words_in c.loop-word.found.items) word.items c.in_ok-numbers.numbers.items c.loop-word.invariant here)
