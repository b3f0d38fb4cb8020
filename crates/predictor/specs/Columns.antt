-- The nets that a column of a check matrix adds.
use Rattle.std.specs.Prelude.{◌≡◌, ℕ, Bool, false, List, map, filter, Some, slice_get, slice_index_or}
use Rattle.std.specs.List.{zip}
use Rattle.netlist_spec.specs.Gates.{GateList, AnswersWithin, IsEvaluation}
use Rattle.guard_spec.specs.Codes.{Code, checks_of}
use Rattle.gate_net.specs.GateNet.{net_count}

-- the roots whose row has a 1 in column j; root i belongs to row i
abbrev pub column_roots : Code → ℕ → List ℕ → List ℕ
column_roots code j roots = map (λ p. p.0) (filter (λ p. slice_index_or p.1 j false) (zip roots code.rows))

-- The net has check bit j of the word of the roots, in each valuation in which the new gates have their answers, whatever
-- bits the other nets have.
abbrev pub IsCheckBit : GateList → List ℕ → List ℕ → Code → ℕ → (old new : GateList) → ℕ → Type 0
IsCheckBit src roots leaf code j old new n =
    (v u : ℕ → Bool) → AnswersWithin new (net_count old) (net_count new) v → IsEvaluation src (map v leaf) u
    → Some (v n) ≡ slice_get (checks_of code (map u roots)) j
