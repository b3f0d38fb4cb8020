use Rattle.std.proofs.Common.{◌≡◌, [], ◌++◌, refl, sym, ap, ◌∙◌, append_assoc, arith}
use Rattle.std.proofs.lemmas.Grind.{common_steps}
use Rattle.imp_io.proofs.BlockLemmas.{Gives-append, Gives-held, Gives-nil, Gives-put, Gives-text}
use Rattle.imp_io.proofs.blocks.Blocks.put.Goals as goal

pub loop-rest-init : goal.loop-rest-init
loop-rest-init g c = ([], refl, Gives-nil c.args.self.now)

pub loop-rest-preserved : goal.loop-rest-preserved
loop-rest-preserved g c =
    let (done, parts, given) = c.loop-rest.invariant in
    let front = c.split_at.result.0.now in
    let more = c.split_at.result.1.now in
    let cut : c.loop-rest.rest.now ≡ front ++ more = grind (arith, common_steps) in
    let held : c.try_extend_from_slice.new.self.items ≡ c.loop-rest.self.block.items ++ front = grind (arith, common_steps) in (
      done ++ front,
      parts ∙ ap (λ l. done ++ l) cut ∙ sym (append_assoc done front more),
      Gives-append given (Gives-put (Gives-held c.loop-rest.self front c.try_extend_from_slice.new.self held) c.put_block.ensures.gives),
    )

pub returns : goal.returns
returns g c =
    let (done, parts, given) = c.loop-rest.invariant in
    let rest = c.loop-rest.rest.now in
    let held : c.try_extend_from_slice-2.new.self.items ≡ c.loop-rest.self.block.items ++ rest = grind (arith, common_steps) in
    Gives-text (sym parts)
    (Gives-append given (Gives-held c.loop-rest.self rest c.try_extend_from_slice-2.new.self held))
