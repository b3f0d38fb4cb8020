use Rattle.std.proofs.Common.{◌≡◌, ◌∙◌, ◌++◌, ◌∷◌, [], List, ap, ap₂, length, rules}
use Rattle.imp_text.specs.declared.names.NameId.{NameId}
use Rattle.source_nets.specs.declared.rows.Span.{Span}
use Rattle.source_nets.specs.Rows.{rows_in}
use Rattle.source_nets.proofs.RowLemmas.{rows_pushed}
use Rattle.source_nets.proofs.rows.NetRows.push.Goals as goal

pub returns : goal.returns
returns c =
    let ids = c.self.inside.ids.items in
    let row = c.args.row.now in
    let span : Span = record { start = c.len-start.result; end = c.len-end.result } in
    let first : c.len-start.result ≡ length ids = search rules in
    let last : c.len-end.result ≡ length c.extend_from_slice.new.self.items = search rules in
    ap₂ (λ (xs : List NameId) (ys : List Span). rows_in xs ys) c.in_ok-extend_from_slice.ensures.items c.in_ok-push.ensures.items
    ∙ rows_pushed ids row c.self.inside.spans.items span c.self.invariant first (last ∙ ap length c.in_ok-extend_from_slice.ensures.items)
    ∙ ap (λ (rs : List (List NameId)). rs ++ row ∷ []) c.self.view_is
