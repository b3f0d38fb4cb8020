use Rattle.std.proofs.Common.{◌≡◌, sym, ◌∙◌, ap, subst, arith, ◌<◌, [], List, Some, true, false, not, length, map, get_or}
use Rattle.std.proofs.lemmas.List.{length-map}
use Rattle.netlist_spec.specs.Netlist.{stands_in}
use Rattle.guard_spec.specs.Words.{as_fault, not_in_a_word}
use Rattle.imp_text.specs.declared.names.NameId.{NameId}
use Rattle.blif_read.specs.View.{name_at}
use Rattle.encode_state.proofs.ListedLemmas.{find_at, none_more}
use Rattle.encode_state.proofs.MarkLemmas.{mark_at, named_at}
use Rattle.encode_state.proofs.checks.check_all_marked.Goals as goal

pub returns-then-not-marks-i-clause-fault : goal.returns-then-not-marks-i-clause-fault
returns-then-not-marks-i-clause-fault c = λ listed e.
    let nets = map (name_at c.args.names.now) c.args.nets.now in
    let i = c.loop-i.i in
    let none : NameId = record { 0 = 0 } in
    let inside : i < length nets = let n = length-map c.args.nets.now (name_at c.args.names.now) in let t = c.loop-i-test.true in omega arith in
    let out : stands_in (get_or nets i []) listed ≡ false = sym (mark_at nets listed i inside) ∙ (ap (λ bs. get_or bs i false) (sym e) ∙ c.if-not-marks-i.true) in
    ap (as_fault (λ n. not_in_a_word n)) (find_at (λ n. not (stands_in n listed)) nets i [] inside (c.loop-i.invariant listed e) (ap not out))
    ∙ ap (λ n. Some (not_in_a_word n)) (named_at c.args.names.now c.args.nets.now i none c.loop-i-test.true ∙ sym c.in_ok-name.ensures)

pub loop-i-preserved : goal.loop-i-preserved
loop-i-preserved c = λ listed e.
    let nets = map (name_at c.args.names.now) c.args.nets.now in
    let i = c.loop-i.i in
    let inside : i < length nets = let n = length-map c.args.nets.now (name_at c.args.names.now) in let t = c.loop-i-test.true in omega arith in
    let there : stands_in (get_or nets i []) listed ≡ true = sym (mark_at nets listed i inside) ∙ (ap (λ bs. get_or bs i false) (sym e) ∙ c.if-not-marks-i.false) in
    none_more (λ n. not (stands_in n listed)) nets i [] inside (c.loop-i.invariant listed e) (ap not there)
