-- The model of a file that is in order.
use Rattle.std.proofs.Common.{◌≡◌, refl, sym, ◌∙◌, ap, subst, List, [], ◌∷◌, map, get_or, All, IfSome, None}
use Rattle.netlist_spec.specs.Netlist.{Model as SpecModel}
use Rattle.netlist_spec.specs.FileRules.{IsFile, HaveLines}
use Rattle.netlist_spec.specs.Models.{first_model, main_model, gates_of}
use Rattle.netlist_spec.specs.Ordered.{IsOrdered}
use Rattle.netlist_spec.specs.CellBits.{cells_of}
use Rattle.blif_read.specs.declared.file.File.{File as ReadFile}
use Rattle.blif_read.specs.declared.file.Model.{Model as ReadModel}
use Rattle.blif_read.specs.View.{model_of, file_of}
use Rattle.line_order.proofs.MarkLemmas.{all_of}
use Rattle.audit_laws.specs.Along.{AreInOrder}
use Rattle.audit_laws.specs.OnePass.{IsNoSubckt}
use Rattle.audit_laws.proofs.GateOrder.{model_in_order, cells_are_no_subckt, no_fault_of}
use Rattle.independence_audit.specs.declared.types.Audit.{Audit}
use Rattle.independence_audit.specs.Audited.{IsAudit}

module _ (file : ReadFile) (m : ReadModel) (first : m ≡ get_or file.models.items 0 m) (is_file : IsFile (file_of file)) (o : IsOrdered (file_of file)) where
  same_of : (ms : List ReadModel) (k : SpecModel) → m ≡ get_or ms 0 m → map model_of ms ≡ k ∷ [] → k ≡ model_of m
  same_of [] k e f = absurd (cc f)
  same_of (x ∷ ms) k e f = let g : model_of x ≡ k = cc f in sym g ∙ ap model_of (sym e)

  same : o.model ≡ model_of m
  same = same_of file.models.items o.model first o.one_model

  pub no_subckts : All IsNoSubckt (cells_of (model_of m))
  no_subckts = subst (λ k. All IsNoSubckt (cells_of k)) same (all_of IsNoSubckt (cells_of o.model) (cells_are_no_subckt o.model (no_fault_of (file_of file) o)))

  pub gates_in_order : AreInOrder (gates_of (model_of m))
  gates_in_order =
      let lines = subst HaveLines o.one_model is_file.lines in
      subst (λ k. AreInOrder (gates_of k)) same (model_in_order o.model (no_fault_of (file_of file) o) o.model.line None lines.0.statements)

  pub audit_of_file : (audit : Audit) → IsAudit (record { models = model_of m ∷ [] }) (model_of m) audit → IfSome (main_model (file_of file)) (λ k. IsAudit (file_of file) k audit)
  audit_of_file audit h =
      let one : map model_of file.models.items ≡ model_of m ∷ [] = o.one_model ∙ ap (λ k. k ∷ []) same in
      subst (λ ms. IfSome (first_model ms) (λ k. IsAudit (record { models = ms }) k audit)) (sym one) h
