use Rattle.std.proofs.Common.{◌≡◌, ◌∙◌, [], get_or, Bool, Option, ap₂, sym, arith}
use Rattle.std.proofs.lemmas.Grind.{common_steps}
use denote.Ref.{Bor}
use Rattle.netlist_spec.specs.Lines.{Word}
use Rattle.netlist_spec.specs.Netlist.{Name, edge}
use Rattle.netlist_spec.specs.Said.{word_control, word_rises}
use Rattle.blif_read.proofs.SpelledLemmas.{clocking-parts, control-named, control-within}
use Rattle.blif_read.proofs.statement.read_clocking.Goals as goal

pub returns-in_ok-read_control-in-len2-up-clause-same : goal.returns-in_ok-read_control-in-len2-up-clause-same
returns-in_ok-read_control-in-len2-up-clause-same c =
    let none : Bor Word = record { ref_ptr = (0, 0); now = [] } in
    let ws = c.args.words.now in
    let rises : c.eq.result ≡ word_rises (get_or ws 0 none).now = grind (arith, common_steps) in
    λ more. ap₂ (λ (b : Bool) (n : Option Name). edge b n) rises (control-named c.read_control.new.names more c.in_ok-read_control-in-len2-up.field-0 (word_control (get_or ws 1 none).now) c.in_ok-read_control-in-len2-up.ensures.control)
    ∙ sym (clocking-parts ws none c.in-len2-up.len_at_least)

pub returns-in_ok-read_control-in-len2-up-clause-within : goal.returns-in_ok-read_control-in-len2-up-clause-within
returns-in_ok-read_control-in-len2-up-clause-within c =
    let none : Bor Word = record { ref_ptr = (0, 0); now = [] } in
    control-within c.read_control.new.names c.eq.result c.in_ok-read_control-in-len2-up.field-0 (word_control (get_or c.args.words.now 1 none).now) c.in_ok-read_control-in-len2-up.ensures.control
