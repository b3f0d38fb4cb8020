use Rattle.std.proofs.Common.{◌≡◌, ◌∙◌, sym, ap, ap₂, None, Bool, ℕ, List, ◌∷◌, [], ◌++◌, map, get_or, append-nil, arith}
use Rattle.std.proofs.lemmas.List.{map-append}
use Rattle.netlist_spec.specs.Gates.{LatchRow}
use Rattle.gate_net.specs.Machine.{latch_row}
use Rattle.source_machine.specs.Rows.{row_by, row_for}
use Rattle.source_machine.proofs.RowLemmas.{given_next, no_row, stores_name}
use Rattle.source_machine.proofs.ports.latch_rows.Goals as goal
use Rattle.source_machine.proofs.ports.latch_rows.Goals.{in-Latch+in_ok-push, in_default}

pub net_of-d-requires : goal.net_of-d-requires
net_of-d-requires c =
    let h = stores_name c.args.model.now c.requires.ids c.deref-located-items.result.now c.deref-located-items.ensures.value c.loop-located.located-index c.located-item.result c.loop-located-test.true c.located-item.is c.in-Latch.d c.in-Latch.q c.in-Latch.clocking c.in-Latch.init c.in-Latch.is in
    let e = c.requires.table in
    omega arith

pub loop-located-preserved : goal.loop-located-preserved
loop-located-preserved c =
    let table = c.args.table.now in
    let next = given_next (row_for table) c.deref-located-items.result.now c.loop-located.located-index c.located-item.result in
    elim c.match-located.branch [
      | in-Latch+in_ok-push w ↦
          let row = latch_row (record { d = w.net_of-d.result; init = w.init_bit-init.result }) in
          let row_is : row ≡ record { d = get_or table w.in-Latch.d.0 0; init = w.init_bit-init.result } = ap (λ (k : ℕ). record { d = k; init = w.init_bit-init.result }) w.net_of-d.ensures in
          ap (λ v. map latch_row v.items) w.rows-is ∙ (ap (map latch_row) w.in_ok-push.ensures.items
          ∙ (map-append latch_row c.loop-located.rows.items (record { d = w.net_of-d.result; init = w.init_bit-init.result } ∷ [])
          ∙ (ap₂ (λ (l : List LatchRow) (r : LatchRow). l ++ r ∷ []) c.loop-located.invariant (row_is ∙ ap (λ (b : Bool). record { d = get_or table w.in-Latch.d.0 0; init = b }) w.init_bit-init.ensures)
          ∙ sym (next _ c.loop-located-test.true c.located-item.is (ap (row_by table) w.in-Latch.is)))))
      | in_default w ↦
          ap (λ v. map latch_row v.items) w.rows-is ∙ (c.loop-located.invariant
          ∙ (sym (append-nil _) ∙ sym (next None c.loop-located-test.true c.located-item.is (no_row table c.located-item.result.what w.in_default.not-Latch))))
    ]
