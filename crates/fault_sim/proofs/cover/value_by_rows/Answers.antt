use Rattle.std.proofs.Common.{◌∙◌, ◌++◌, ◌∷◌, [], sym, ap, map, take, get_or, List, Bool, arith}
use Rattle.std.proofs.lemmas.List.{take_more, take_more_set, map-append, length-set}
use Rattle.imp_text.specs.declared.names.NameId.{NameId}
use Rattle.fault_sim.specs.Gates.{bit_in}
use Rattle.fault_sim.proofs.cover.value_by_rows.Goals as goal

pub loop-i-preserved : goal.loop-i-preserved
loop-i-preserved c =
    let none : NameId = record { 0 = 0 } in
    let i = c.loop-i.i in
    let ins = c.args.ins.now in
    let row = c.args.row.now in
    let b = bit_in row (get_or ins i none) in
    record {
      size = length-set c.loop-i.bits i b ∙ c.loop-i.invariant.size;
      read = take_more_set c.loop-i.bits i b (omega arith)
          ∙ (ap (λ (bs : List Bool). bs ++ b ∷ []) c.loop-i.invariant.read
          ∙ sym (ap (map (bit_in row)) (take_more ins i none c.loop-i-test.true) ∙ map-append (bit_in row) (take i ins) (get_or ins i none ∷ [])));
    }
