use Rattle.std.proofs.Common.{◌≡◌, sym, ◌∙◌, ap, ap₂, subst, ℕ, ◌<◌, length, Bool, ◌&&◌, All}
use Rattle.netlist_spec.specs.Models.{same_clocking}
use Rattle.imp_text.specs.declared.names.NameId.{NameId}
use Rattle.blif_read.specs.Ids.{control_ids}
use Rattle.blif_read.specs.View.{clocking_of}
use Rattle.main_check.proofs.clocking.is_clocked.Goals as goal

pub returns : goal.returns
returns c = λ m k.
    let own : All (λ (id : NameId). id.0 < length m.names) (control_ids c.args.clocking) = subst (λ (n : ℕ). All (λ (id : NameId). id.0 < n) (control_ids c.args.clocking)) k.declared.each_name c.requires in
    ap₂ (λ (x y : Bool). x && y)
    (c.same_clocking-alike.ensures m.names k.declared.distinct own k.control ∙ ap (same_clocking (clocking_of m.names c.args.clocking)) k.first)
    (c.is_declared-has_control.ensures m k.declared)
