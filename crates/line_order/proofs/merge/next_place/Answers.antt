use Rattle.std.proofs.Common.{◌≡◌, ◌∙◌, ap, subst, ℕ, ◌<◌, List, map, length, get_or, arith}
use Rattle.blif_read.specs.declared.file.Port.{Port}
use Rattle.blif_read.specs.declared.file.Located.{Located}
use Rattle.line_order.proofs.MergeLemmas.{input_next, output_next, clock_next, statement_next}
use Rattle.line_order.proofs.merge.next_place.Goals as goal

port_read : (i : ℕ) (n : ℕ) (ps qs : List Port) → n ≡ get_or (map (λ (x : Port). x.line) ps) i 4294967296 → ps ≡ qs → n ≡ get_or (map (λ (x : Port). x.line) qs) i 4294967296
port_read i n ps qs h e = h ∙ ap (λ (xs : List Port). get_or (map (λ (x : Port). x.line) xs) i 4294967296) e

statement_read : (i : ℕ) (n : ℕ) (ps qs : List Located) → n ≡ get_or (map (λ (x : Located). x.line) ps) i 4294967296 → ps ≡ qs → n ≡ get_or (map (λ (x : Located). x.line) qs) i 4294967296
statement_read i n ps qs h e = h ∙ ap (λ (xs : List Located). get_or (map (λ (x : Located). x.line) xs) i 4294967296) e

pub returns-then-input-least-clause-some : goal.returns-then-input-least-clause-some
returns-then-input-least-clause-some c =
    input_next c.args.m.now c.args.passed.now c.requires.by_line c.port_line-input.result c.port_line-output.result c.port_line-clock.result c.statement_line-statement.result
    (port_read _ _ _ _ c.port_line-input.ensures.line c.deref.ensures.value) (port_read _ _ _ _ c.port_line-output.ensures.line c.deref-2.ensures.value)
    (port_read _ _ _ _ c.port_line-clock.ensures.line c.deref-3.ensures.value) (statement_read _ _ _ _ c.statement_line-statement.ensures.line c.deref-4.ensures.value)
    (subst (λ (l : List Port). c.args.passed.now.inputs < length l) c.deref.ensures.value (c.port_line-input.ensures.some (omega arith))) (omega arith) (omega arith) (omega arith)

pub returns-then-output-least-clause-some : goal.returns-then-output-least-clause-some
returns-then-output-least-clause-some c =
    output_next c.args.m.now c.args.passed.now c.requires.by_line c.port_line-input.result c.port_line-output.result c.port_line-clock.result c.statement_line-statement.result
    (port_read _ _ _ _ c.port_line-input.ensures.line c.deref.ensures.value) (port_read _ _ _ _ c.port_line-output.ensures.line c.deref-2.ensures.value)
    (port_read _ _ _ _ c.port_line-clock.ensures.line c.deref-3.ensures.value) (statement_read _ _ _ _ c.statement_line-statement.ensures.line c.deref-4.ensures.value)
    (subst (λ (l : List Port). c.args.passed.now.outputs < length l) c.deref-2.ensures.value (c.port_line-output.ensures.some (omega arith))) (omega arith) (omega arith) (omega arith)

pub returns-then-clock-least-clause-some : goal.returns-then-clock-least-clause-some
returns-then-clock-least-clause-some c =
    clock_next c.args.m.now c.args.passed.now c.requires.by_line c.port_line-input.result c.port_line-output.result c.port_line-clock.result c.statement_line-statement.result
    (port_read _ _ _ _ c.port_line-input.ensures.line c.deref.ensures.value) (port_read _ _ _ _ c.port_line-output.ensures.line c.deref-2.ensures.value)
    (port_read _ _ _ _ c.port_line-clock.ensures.line c.deref-3.ensures.value) (statement_read _ _ _ _ c.statement_line-statement.ensures.line c.deref-4.ensures.value)
    (subst (λ (l : List Port). c.args.passed.now.clocks < length l) c.deref-3.ensures.value (c.port_line-clock.ensures.some (omega arith))) (omega arith) (omega arith) (omega arith)

pub returns-else-clock-least-clause-some : goal.returns-else-clock-least-clause-some
returns-else-clock-least-clause-some c =
    statement_next c.args.m.now c.args.passed.now c.requires.by_line c.port_line-input.result c.port_line-output.result c.port_line-clock.result c.statement_line-statement.result
    (port_read _ _ _ _ c.port_line-input.ensures.line c.deref.ensures.value) (port_read _ _ _ _ c.port_line-output.ensures.line c.deref-2.ensures.value)
    (port_read _ _ _ _ c.port_line-clock.ensures.line c.deref-3.ensures.value) (statement_read _ _ _ _ c.statement_line-statement.ensures.line c.deref-4.ensures.value)
    (subst (λ (l : List Located). c.args.passed.now.statements < length l) c.deref-4.ensures.value (c.statement_line-statement.ensures.some (omega arith))) (omega arith) (omega arith) (omega arith)
