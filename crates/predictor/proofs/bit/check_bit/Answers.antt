use Rattle.std.proofs.Common.{sym, ◌∙◌, ap, subst, ℕ, ◌<◌, List, map}
use Rattle.std.specs.List.{AllByRecursion}
use Rattle.gate_net.specs.Gate.{net_number}
use Rattle.gate_net.specs.GateNet.{net_count}
use Rattle.cone_split.specs.Cones.{HasRoom}
use Rattle.predictor.proofs.Checks.{chosen_all, column_copies}
use Rattle.predictor.proofs.bit.check_bit.Goals as goal

pub copy_xor-requires-clause-roots : goal.copy_xor-requires-clause-roots
copy_xor-requires-clause-roots c =
    let chosen = ap (map net_number) c.deref.ensures.value ∙ c.in_ok-chosen.ensures.chosen in
    subst (λ (ns : List ℕ). AllByRecursion (λ n. n < net_count c.args.src.now) ns) (sym chosen)
    (chosen_all (λ n. n < net_count c.args.src.now) c.args.code.now.rows c.args.j (map net_number c.args.roots.now) c.requires.roots)

pub copy_xor-requires-clause-room : goal.copy_xor-requires-clause-room
copy_xor-requires-clause-room c =
    let chosen = ap (map net_number) c.deref.ensures.value ∙ c.in_ok-chosen.ensures.chosen in
    subst (λ (ns : List ℕ). HasRoom c.args.src.now ns c.args.dst.now) (sym chosen) c.requires.room

pub returns-clause-check : goal.returns-clause-check
returns-clause-check c =
    let chosen = ap (map net_number) c.deref.ensures.value ∙ c.in_ok-chosen.ensures.chosen in
    column_copies c.args.src.now (map net_number c.args.roots.now) (map net_number c.deref.result.now) (map net_number c.args.leaf.now) c.args.code.now c.args.j c.args.dst.now c.copy_xor.new.dst c.copy_xor.result
    c.in_ok-chosen.ensures.well_formed c.requires.column chosen c.copy_xor.ensures.copy
