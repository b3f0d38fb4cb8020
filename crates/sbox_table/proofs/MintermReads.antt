-- What the gates of minterms read.
use Rattle.std.proofs.Common.{◌≡◌, sym, subst, ℕ, ◌<◌, inl, List, [], ◌∷◌, ◌++◌, length, map, get_or, Result, OnOk, OnErr}
use Rattle.std.specs.List.{AllByRecursion}
use Rattle.netlist_spec.specs.Gates.{GateList, two}
use Rattle.gate_net.specs.declared.gate.NetId.{NetId}
use Rattle.gate_net.specs.Gate.{net_number}
use Rattle.gate_net.specs.GateNet.{net_count}
use Rattle.reduction.specs.Appended.{Extends, IsAppended, ReadsInputsAlone}
use Rattle.reduction.proofs.GateReads.{AreAllowed, allowed_none, allowed_self, allowed_also, allowed_appended, input_at, contains_first, contains_later, reads_further, reads_of_push, extends_of_push}

-- a gate of a term and one net
pub more_read : {E : Type 0} (old now new : GateList) (op : ℕ) (terms : List NetId) (i : ℕ) (d : NetId) (n : ℕ) (r : Result NetId E) → i < length terms
    → Extends old now → ReadsInputsAlone old now (n ∷ map net_number terms)
    → OnOk r (new ≡ record now { gates = now.gates ++ two op (get_or terms i d).0 n ∷ [] }) → OnErr r (new ≡ now)
    → ReadsInputsAlone old new (n ∷ map net_number terms)
more_read old now new op terms i d n r there e before ok err =
    let m = (get_or terms i d).0 in
    let ins = n ∷ map net_number terms in
    let first = net_count old in
    reads_further old now new ins (m ∷ n ∷ []) e (extends_of_push now new (two op m n) r ok err)
    (allowed_also ins (n ∷ []) first m (inl (contains_later n m (map net_number terms) (input_at terms i d there)))
    (allowed_also ins [] first n (inl (contains_first n (map net_number terms))) (allowed_none ins first)))
    before
    (reads_of_push now new (two op m n) (m ∷ n ∷ []) r ok err (allowed_self (m ∷ n ∷ []) (net_count now)))

-- the minterms with one more input
pub input_read : (old now new : GateList) (ins : List NetId) (i : ℕ) (d : NetId) (all terms : List NetId) → i < length ins → terms ≡ all
    → Extends old now → AllByRecursion (IsAppended old now) (map net_number all) → ReadsInputsAlone old now (map net_number ins)
    → Extends now new → ReadsInputsAlone now new ((get_or ins i d).0 ∷ map net_number terms)
    → ReadsInputsAlone old new (map net_number ins)
input_read old now new ins i d all terms there same e appended before more further =
    let n = (get_or ins i d).0 in
    let nets = map net_number ins in
    let P : List NetId → Type 0 = λ ts. AreAllowed nets (net_count old) (map net_number ts) in
    reads_further old now new nets (n ∷ map net_number terms) e more
    (allowed_also nets (map net_number terms) (net_count old) n (inl (input_at ins i d there))
    (subst P (sym same) (allowed_appended nets old now (map net_number all) appended)))
    before further
