use Rattle.std.proofs.Common.{◌≡◌, ◌<◌, sym, ◌∙◌, ap, subst, List, All, length, map, get_or, take, arith}
use Rattle.std.specs.Prelude.{filter_map}
use Rattle.std.proofs.lemmas.List.{take_all}
use Rattle.imp_text.specs.declared.names.NameId.{NameId}
use Rattle.blif_read.specs.declared.file.Located.{Located}
use Rattle.blif_read.specs.Ids.{IsIdOf}
use Rattle.blif_read.specs.View.{name_at}
use Rattle.plain_size.specs.Nets.{stored_id}
use Rattle.encode_state.proofs.NetLemmas.{found_some, found_none}
use Rattle.plain_size.proofs.NetLemmas.{stored_names, stored_within}
use Rattle.plain_size.proofs.nets.latch_inputs.Goals as goal
use Rattle.plain_size.proofs.nets.latch_inputs.Goals.{in-Some+in_ok-push, in_default}

pub returns : goal.returns
returns c =
    let all = c.args.m.now.names in
    let ss = c.args.m.now.statements.items in
    let whole : take c.loop-s.s-index ss ≡ ss = take_all c.loop-s.s-index ss (let t = c.loop-s-test.false in let d = c.deref-s-items.ensures.len in let o = c.args.m.now.statements.ok.0 in omega arith) in
    let found : c.loop-s.ids.items ≡ filter_map (λ (s : Located). stored_id s.what) ss = c.loop-s.invariant ∙ ap (filter_map (λ (s : Located). stored_id s.what)) whole in
    record {
      names = ap (map (name_at all)) found ∙ stored_names all ss;
      within = subst (λ (ids : List NameId). All (IsIdOf all) ids) (sym found) (stored_within (IsIdOf all) ss c.requires.statements);
    }

pub loop-s-preserved : goal.loop-s-preserved
loop-s-preserved c =
    let ss = c.args.m.now.statements.items in
    let i = c.loop-s.s-index in
    let inside : i < length ss = (let t = c.loop-s-test.true in let d = ap length c.deref-s-items.ensures.value in omega arith) in
    let is : c.s-item.result ≡ get_or ss i c.s-item.result = c.s-item.is ∙ ap (λ (l : List Located). get_or l i c.s-item.result) c.deref-s-items.ensures.value in
    elim c.match-stored.branch [
      | in-Some+in_ok-push w ↦
          found_some (λ (s : Located). stored_id s.what) ss i c.s-item.result w.in-Some.id c.loop-s.ids.items c.match-stored.ids.items inside is (sym w.in-Some.ensures) (ap (λ v. v.items) w.ids-is ∙ w.in_ok-push.ensures.items) c.loop-s.invariant
      | in_default w ↦
          found_none (λ (s : Located). stored_id s.what) ss i c.s-item.result c.loop-s.ids.items c.match-stored.ids.items inside is (sym w.in_default.ensures) (ap (λ v. v.items) w.ids-is) c.loop-s.invariant
    ]
