use Rattle.std.proofs.Common.{refl, ◌∙◌, ◌+◌, ◌-◌, arith}
use Rattle.campaign.proofs.RestLemmas.{keeps_more, to_the_end}
use Rattle.campaign.proofs.rest.+keep_rest.Goals as goal

pub returns-then-count-eq0 : goal.returns-then-count-eq0
returns-then-count-eq0 t c =
    let most = c.requires.cycles in
    let count = c.cycles.ensures.count in
    record {
      goes_on = to_the_end c.args.task.now c.args.runner.now c.run_on.new.runner c.args.cycle (c.cycles.result - c.args.cycle) c.run_on.result (omega arith) (omega arith) c.run_on.ensures;
      kept = λ g simulates all. all;
      netlist = c.run_on.ensures.netlist;
      ready = c.run_on.ensures.ready;
    }

pub returns : goal.returns
returns t c =
    let most = c.requires.cycles in
    let some = c.if-count-eq0.false in
    keeps_more c.args.task.now c.args.runner.now c.run_cycle-here.new.runner c.keep_rest.new.runner c.args.cycle c.args.kept.now.items c.keep_rest.new.kept.items c.push.new.self.items c.run_cycle-here.result c.in_ok-rest.rest c.then.result
    (record { cycle = c.args.cycle + 1; stored = c.in_ok-stored.stored; rest = c.in_ok-rest.rest }) (omega arith) c.run_cycle-here.ensures c.in_ok-rest.ensures c.in_ok-push.ensures.items refl
    (c.in_ok-stored.ensures.items_if_clones_equal (λ x y h. h) ∙ c.stored.ensures) refl c.then.ensures
