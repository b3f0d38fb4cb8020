use Rattle.std.proofs.Common.{◌≡◌, ℕ, List, [], ◌++◌, sym, ap, ◌∙◌, append_assoc, append-nil, rules}
use Rattle.std.specs.List.{flat_map}
use Rattle.std.specs.Slice.Iter.{chunks_rest}
use Rattle.std.proofs.lemmas.Grind.{flat_map-append}
use Rattle.std.proofs.lemmas.List.{nil_from_length}
use Rattle.std.proofs.lemmas.Result.{err_from_is_err_and}
use Rattle.imp_io.proofs.PutLemmas.{Puts-append, Puts-nil, Puts-stopped}
use Rattle.netlist_spec.specs.Escapes.{escape}
use Rattle.refusals.proofs.LineLemmas.{Puts-text}
use Rattle.refusals.proofs.escaped.put_escaped.Goals as goal

-- one more piece, and what is still to come behind it
piece_next : (name done rest piece left : List ℕ) → rest ≡ piece ++ left → done ++ flat_map escape rest ≡ flat_map escape name
    → (done ++ flat_map escape piece) ++ flat_map escape left ≡ flat_map escape name
piece_next name done rest piece left parts so_far =
    append_assoc done (flat_map escape piece) (flat_map escape left)
    ∙ ap (λ (text : List ℕ). done ++ text) (sym (flat_map-append escape piece left) ∙ ap (flat_map escape) (sym parts))
    ∙ so_far

-- nothing is still to come
piece_last : (name done rest : List ℕ) → rest ≡ [] → done ++ flat_map escape rest ≡ flat_map escape name → done ≡ flat_map escape name
piece_last name done rest none so_far = sym (append-nil done) ∙ ap (λ (left : List ℕ). done ++ flat_map escape left) (sym none) ∙ so_far

pub loop-chunk-init : goal.loop-chunk-init
loop-chunk-init g c = (
  search rules,
  tt,
  search rules,
  ([], Puts-nil _ tt, ap (λ s. flat_map escape (chunks_rest s)) c.into_iter-chunk-iterator.ensures.into_iter_gives ∙ ap (flat_map escape) c.chunks-chunk-items.ensures.rest),
)

pub loop-chunk-preserved : goal.loop-chunk-preserved
loop-chunk-preserved g c =
    let piece : c.deref.result.now ≡ flat_map escape c.in-Some.chunk.now = c.deref.ensures.0 ∙ c.escaped.ensures in
    let steps = c.in-Some.ensures.steps in
    let so_far = c.loop-chunk.invariant.3 in (
      search rules,
      tt,
      steps.0 ∙ c.loop-chunk.invariant.2,
      (
        so_far.0 ++ flat_map escape c.in-Some.chunk.now,
        Puts-append _ _ _ _ _ _ _ so_far.1 (rw piece at c.in_ok-put.ensures.puts),
        piece_next c.args.name.now so_far.0 _ c.in-Some.chunk.now (chunks_rest c.next.new.self) steps.1.0 so_far.2,
      ),
    )

pub returns-in_err-put : goal.returns-in_err-put
returns-in_err-put g c =
    let p = err_from_is_err_and c.from_residual.result c.from_residual.ensures.1 in
    let piece : c.deref.result.now ≡ flat_map escape c.in-Some.chunk.now = c.deref.ensures.0 ∙ c.escaped.ensures in
    let so_far = c.loop-chunk.invariant.3 in
    rw (p.1, p.2)
    (Puts-text _ _ _ _ _ (piece_next c.args.name.now so_far.0 _ c.in-Some.chunk.now (chunks_rest c.next.new.self) c.in-Some.ensures.steps.1.0 so_far.2)
    (Puts-stopped _ _ _ _ _ (Puts-append _ _ _ _ _ _ _ so_far.1 (rw piece at c.in_err-put.ensures.puts))))

pub returns : goal.returns
returns g c =
    let so_far = c.loop-chunk.invariant.3 in
    Puts-text _ _ _ _ _ (piece_last c.args.name.now so_far.0 _ (nil_from_length _ c.in-None.ensures.steps.1.0) so_far.2) so_far.1
