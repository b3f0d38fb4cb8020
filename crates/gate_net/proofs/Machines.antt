-- One cycle of a machine, read off a row of bits.
use Rattle.std.proofs.Common.{◌≡◌, sym, ◌∙◌, ap, subst, refl, ℕ, zero, suc, ◌+◌, ◌<◌, Bool, List, [], ◌∷◌, ◌++◌, length, map, take, drop, get_or, arith}
use Rattle.std.proofs.lemmas.List.{drop-take, take-take, take-append-le, take_all}
use Rattle.std.proofs.Math.Seq.{drop-append_seam}
use Rattle.std.specs.List.{AllByRecursion, AllZip, range_with_len}
use Rattle.netlist_spec.specs.Gates.{AnswersWithin, IsEvaluation, Machine, IsMachine, GateStep}
use Rattle.netlist_spec.specs.SourceRun.{Bits}
use Rattle.gate_net.specs.GateNet.{net_bit, net_count}
use Rattle.gate_net.proofs.Evaluation.{bits_read, from_within}

-- what holds of each element after a map holds at each place
pub each_at : {A B : Type 0} (P : B → Type 0) (f : A → B) (xs : List A) (i : ℕ) (d : A) → AllByRecursion P (map f xs) → i < length xs → P (f (get_or xs i d))
each_at P f [] i d all h = absurd (omega arith)
each_at P f (x ∷ xs) zero d all h = all.0
each_at P f (x ∷ xs) (suc i) d all h = each_at P f xs i d all.1 (omega arith)

zip_of_map : (v : ℕ → Bool) (ks : List ℕ) (bits : Bits) → map v ks ≡ bits → AllZip (λ q bit. v q ≡ bit) ks bits
zip_of_map v ks bits e = let P : Bits → Type 0 = λ all. AllZip (λ q bit. v q ≡ bit) ks all in subst P e (own ks)
  where
    own : (ks : List ℕ) → AllZip (λ q bit. v q ≡ bit) ks (map v ks)
    own [] = tt
    own (k ∷ ks) = (refl, own ks)

module _ (m : Machine) (x s row : Bits) (nets : IsMachine m) (inputs : length x ≡ m.inputs) (state : length s ≡ length m.latches) (long : length row ≡ net_count m.net) (leaves : take m.net.leaves row ≡ x ++ s) where
  front : take (m.inputs + length m.latches) row ≡ x ++ s
  front = ap (λ (n : ℕ). take n row) (sym nets.leaves) ∙ leaves

  inputs_read : map (net_bit row) (range_with_len 0 m.inputs) ≡ x
  inputs_read =
      bits_read row 0 m.inputs (let e = nets.leaves in omega arith)
      ∙ (sym (take-take m.inputs (m.inputs + length m.latches) row (omega arith))
      ∙ (ap (λ (bits : Bits). take m.inputs bits) front
      ∙ (take-append-le m.inputs x s (omega arith) ∙ take_all m.inputs x (omega arith))))

  state_read : map (net_bit row) (range_with_len m.inputs (length m.latches)) ≡ s
  state_read =
      bits_read row m.inputs (length m.latches) (let e = nets.leaves in omega arith)
      ∙ (sym (drop-take m.inputs (length m.latches) row)
      ∙ (ap (λ (bits : Bits). drop m.inputs bits) front
      ∙ (ap (λ (n : ℕ). drop n (x ++ s)) (sym inputs) ∙ drop-append_seam x s)))

  pub stepped : AnswersWithin m.net m.net.leaves (net_count m.net) (net_bit row) → GateStep m [] x s (map (net_bit row) m.outputs) (map (net_bit row) (map (λ l. l.d) m.latches))
  stepped answers = record {
    values = net_bit row;
    agrees = record {
      inputs = inputs_read;
      latches = zip_of_map (net_bit row) (range_with_len m.inputs (length m.latches)) s state_read;
      gates = from_within m.net.gates m.net.leaves m.net.leaves (net_count m.net) (net_bit row) (omega arith) (omega arith) answers;
    };
    outputs = refl;
    stores = refl;
  }

  pub evaluated : AnswersWithin m.net m.net.leaves (net_count m.net) (net_bit row) → IsEvaluation m.net (x ++ s) (net_bit row)
  evaluated answers = record { inputs = bits_read row 0 m.net.leaves (omega arith) ∙ leaves; gates = answers }
