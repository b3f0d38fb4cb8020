-- Nets and the gates that are put onto them.
use Rattle.std.proofs.Common.{◌≡◌, sym, ◌∙◌, ap, subst, refl, ℕ, ◌+◌, ◌<◌, ◌^◌, List, [], ◌∷◌, ◌++◌, length, map, arith}
use Rattle.std.proofs.lemmas.List.{map-append, length-append}
use Rattle.std.specs.List.{AllByRecursion}
use Rattle.netlist_spec.specs.Gates.{GateForm, ReadsBelow, gate_reads}
use Rattle.gate_net.specs.declared.gate.Gate.{Gate}
use Rattle.gate_net.specs.declared.gate.Gate.TheVariants.{Const, One, Two}
use Rattle.gate_net.specs.Gate.{gate_form}
use Rattle.gate_net.specs.GateNet.{IsNet}
use Rattle.gate_net.proofs.Evaluation.{all_read_more}

-- the answers of a gate with two inputs are four bits
abbrev pub HasFourAnswers : Gate → Type 0
HasFourAnswers (Two op a b) = op < 16
HasFourAnswers _ = Unit {0}

reads_below : (n : ℕ) (g : Gate) → HasFourAnswers g → AllByRecursion (λ m. m < n) (gate_reads (gate_form g)) → ReadsBelow n (gate_form g)
reads_below n (Const b) four r = tt
reads_below n (One inv a) four r = r.0
reads_below n (Two op a b) four r = (r.0, r.1.0, four)

-- one gate more
pub is_net_more : (leaves : ℕ) (gates more : List Gate) (g : Gate) → more ≡ gates ++ g ∷ [] → IsNet (record { leaves = leaves; gates = map gate_form gates }) → HasFourAnswers g → leaves + length (map gate_form gates) < 2 ^ 23
    → AllByRecursion (λ m. m < leaves + length (map gate_form gates)) (gate_reads (gate_form g)) → IsNet (record { leaves = leaves; gates = map gate_form more })
is_net_more leaves gates more g e net four room reads =
    let P : List GateForm → Type 0 = λ all. IsNet (record { leaves = leaves; gates = all }) in
    subst P (sym (ap (map gate_form) e ∙ map-append gate_form gates (g ∷ [])))
    (record {
      gates = all_read_more (map gate_form gates) (gate_form g) leaves _ refl net.gates (reads_below _ g four reads);
      small = let long = length-append (map gate_form gates) (gate_form g ∷ []) in omega arith;
    })
