use Rattle.std.proofs.Common.{◌≡◌, refl, arith, length}
use Rattle.blif_read.specs.View.{cover_of}
use Rattle.fault_sim.specs.declared.gates.GateCell.{GateCell}
use Rattle.fault_sim.proofs.GateLemmas.{gates_after, zip_after}
use Rattle.fault_sim.proofs.gates.Gates.push.Goals as goal

pub returns-clause-gates : goal.returns-clause-gates
returns-clause-gates c =
    let g = c.args.self.now in
    let cell : GateCell = record { first = c.len-first.result; out = c.args.out; width = length c.args.ins.now; table = c.table_of-table.result } in
    let first : c.len-first.result ≡ length g.reads.items = let k = g.reads.ok.0 in let e = c.len-first.ensures in omega arith in
    gates_after g.reads.items c.args.ins.now g.cells.items g.covers.items cell c.in_ok-copy.copy (cover_of c.args.cover.now) first refl c.requires.few c.table_of-table.ensures c.in_ok-copy.ensures c.requires.are_gates.each
    c.extend_from_slice.new.self.items c.push-2.new.self.items c.push.new.self.items c.in_ok-extend_from_slice.ensures.items c.in_ok-push-2.ensures.items c.in_ok-push.ensures.items

pub returns-clause-are_gates : goal.returns-clause-are_gates
returns-clause-are_gates c =
    let g = c.args.self.now in
    let cell : GateCell = record { first = c.len-first.result; out = c.args.out; width = length c.args.ins.now; table = c.table_of-table.result } in
    let first : c.len-first.result ≡ length g.reads.items = let k = g.reads.ok.0 in let e = c.len-first.ensures in omega arith in
    record {
      each = zip_after g.reads.items c.args.ins.now g.cells.items g.covers.items cell c.in_ok-copy.copy (cover_of c.args.cover.now) first refl c.requires.few c.table_of-table.ensures c.in_ok-copy.ensures c.requires.are_gates.each
          c.extend_from_slice.new.self.items c.push-2.new.self.items c.push.new.self.items c.in_ok-extend_from_slice.ensures.items c.in_ok-push-2.ensures.items c.in_ok-push.ensures.items;
    }
