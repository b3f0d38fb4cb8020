-- The cells of the file that a gate list is written as have the form of written cells.
use Rattle.std.proofs.Common.{◌≡◌, refl, sym, ◌∙◌, ap, subst, ℕ, zero, suc, ◌≤◌, List, [], ◌∷◌, length, map, filter, drop, Bool, true, false, ◌||◌, not, cond, arith}
use Rattle.std.specs.Prelude.{IsTrue, IsSomeAnd}
use Rattle.std.specs.List.{AllByRecursion, range_with_len}
use Rattle.std.specs.Cmp.Lexicographic.{bytes_decides}
use Rattle.std.proofs.lemmas.List.{length-map}
use Rattle.std.proofs.lemmas.List.FromFn.{length-map-range_with_len}
use Rattle.netlist_spec.specs.Netlist.{Name, same_name, stands_in, is_reserved}
use Rattle.netlist_spec.specs.Models.{main_model, Gate, gates_of}
use Rattle.netlist_spec.specs.Gates.{GateForm, constant, one, two, gate_reads}
use Rattle.netlist_spec.specs.GuardNames.{store_name, next_name, check_name, rail_name, inner_name}
use Rattle.netlist_spec.specs.Written.{Named, IsNamed, Label, given, store, next, check, rail, inner, label_name, net_name, file_of}
use Rattle.netlist_spec.specs.WrittenForm.{HasGateForm, inner_outputs, HasWrittenForm}
use Rattle.netlist_spec.proofs.Occurrences.{turn}
use Rattle.named_netlist.specs.Laws.{IsNamedOrInner, is_inner, gate_label_list, inner_labels, HasNumberedInner}
use Rattle.named_netlist.proofs.WrittenModel.{written_model}
use Rattle.named_netlist.proofs.NamedFiles.{gate_at, numbered_gates, gates-of}
use Rattle.named_netlist.proofs.NamedModels.{first_statement}
use Rattle.named_netlist.proofs.NamedOrder.{gates_behind}

module _ (g : Named) where
  forms : (ps : List (ℕ × GateForm)) → AllByRecursion HasGateForm (map (gate_at g) ps)
  forms [] = tt
  forms (p ∷ ps) = (record { form = p.1; reads = length-map (gate_reads p.1) (net_name g); cover = refl }, forms ps)

  few_reads : (x : GateForm) → length (map (net_name g) (gate_reads x)) ≤ 2
  few_reads (constant b) = omega arith
  few_reads (one inv a) = omega arith
  few_reads (two op a b) = omega arith

  narrow : (ps : List (ℕ × GateForm)) → AllByRecursion (λ (gate : Gate). length gate.ins ≤ 2) (map (gate_at g) ps)
  narrow [] = tt
  narrow (p ∷ ps) = (few_reads p.1, narrow ps)

  outs : (ps : List (ℕ × GateForm)) → map (λ (gate : Gate). gate.out) (map (gate_at g) ps) ≡ map (λ (p : ℕ × GateForm). net_name g p.0) ps
  outs [] = refl
  outs (p ∷ ps) = ap (λ (l : List Name). net_name g p.0 ∷ l) (outs ps)

  dropped : (k : ℕ) (ls : List Label) → drop k (map label_name ls) ≡ map label_name (drop k ls)
  dropped zero ls = refl
  dropped (suc k) [] = refl
  dropped (suc k) (l ∷ ls) = dropped k ls

  -- a named net is left out
  left_out : (named : List Name) (n : Name) (ns kept_names : List Name) → stands_in n named ≡ true → filter (λ k. not (stands_in k named)) ns ≡ kept_names → filter (λ k. not (stands_in k named)) (n ∷ ns) ≡ kept_names
  left_out named n ns kept_names stands rest = by_test (stands_in n named) stands
    where
      by_test : (b : Bool) → b ≡ true → cond (not b) (n ∷ filter (λ k. not (stands_in k named)) ns) (filter (λ k. not (stands_in k named)) ns) ≡ kept_names
      by_test true e = rest
      by_test false e = cc e

  -- which labels of gates are none of the named nets
  kept : (named : List Name) (ls : List Label) → AllByRecursion (IsNamedOrInner named) ls → filter (λ n. not (stands_in n named)) (map label_name ls) ≡ map label_name (filter is_inner ls)
  kept named [] h = refl
  kept named (given n ∷ ls) h = left_out named n (map label_name ls) (map label_name (filter is_inner ls)) h.0 (kept named ls h.1)
  kept named (store w i ∷ ls) h = left_out named (store_name w i) (map label_name ls) (map label_name (filter is_inner ls)) h.0 (kept named ls h.1)
  kept named (next w i ∷ ls) h = left_out named (next_name w i) (map label_name ls) (map label_name (filter is_inner ls)) h.0 (kept named ls h.1)
  kept named (check w j ∷ ls) h = left_out named (check_name w j) (map label_name ls) (map label_name (filter is_inner ls)) h.0 (kept named ls h.1)
  kept named (rail i ∷ ls) h = left_out named (rail_name i) (map label_name ls) (map label_name (filter is_inner ls)) h.0 (kept named ls h.1)
  kept named (inner i ∷ ls) h = by_test (not (stands_in (inner_name i) named)) h.0 (kept named ls h.1)
    where
      by_test : (b : Bool) → b ≡ true → filter (λ n. not (stands_in n named)) (map label_name ls) ≡ map label_name (filter is_inner ls)
          → cond b (inner_name i ∷ filter (λ n. not (stands_in n named)) (map label_name ls)) (filter (λ n. not (stands_in n named)) (map label_name ls)) ≡ inner_name i ∷ map label_name (filter is_inner ls)
      by_test true e rest = ap (λ (l : List Name). inner_name i ∷ l) rest
      by_test false e rest = cc e

  inner_names : (is : List ℕ) → map label_name (map (λ i. inner i) is) ≡ map inner_name is
  inner_names [] = refl
  inner_names (i ∷ is) = ap (λ (l : List Name). inner_name i ∷ l) (inner_names is)

  module _ (is_named : IsNamed g) where
    same_gates : gates_of (written_model g) ≡ map (gate_at g) (numbered_gates g)
    same_gates = gates-of g is_named (first_statement g)

    all_forms : AllByRecursion HasGateForm (gates_of (written_model g))
    all_forms = subst (λ (l : List Gate). AllByRecursion HasGateForm l) (sym same_gates) (forms (numbered_gates g))

    all_narrow : AllByRecursion (λ (gate : Gate). length gate.ins ≤ 2) (gates_of (written_model g))
    all_narrow = subst (λ (l : List Gate). AllByRecursion (λ (gate : Gate). length gate.ins ≤ 2) l) (sym same_gates) (narrow (numbered_gates g))

    outs_are : map (λ (gate : Gate). gate.out) (gates_of (written_model g)) ≡ map label_name (gate_label_list g)
    outs_are =
        ap (map (λ (gate : Gate). gate.out)) same_gates ∙ outs (numbered_gates g)
        ∙ gates_behind g g.net.leaves g.net.gates (sym (length-map g.labels label_name ∙ is_named.labels)) ∙ dropped g.net.leaves g.labels

    module _ (named : List Name) (h : HasNumberedInner g named) where
      inner_are : inner_outputs (written_model g) named ≡ map inner_name (range_with_len 0 (length (inner_labels g)))
      inner_are =
          ap (filter (λ n. not (stands_in n named))) outs_are ∙ kept named (gate_label_list g) h.each ∙ ap (map label_name) h.order
          ∙ inner_names (range_with_len 0 (length (inner_labels g)))

      has_form : HasWrittenForm (written_model g) named
      has_form =
          let long : length (inner_labels g) ≡ length (inner_outputs (written_model g) named) = sym (ap length inner_are ∙ length-map-range_with_len inner_name 0 (length (inner_labels g))) in
          record { gates = all_forms; inner = inner_are ∙ ap (λ (k : ℕ). map inner_name (range_with_len 0 k)) long }

pub gates-have_form : (g : Named) → IsNamed g → IsSomeAnd (main_model (file_of g)) (λ m. AllByRecursion HasGateForm (gates_of m) × AllByRecursion (λ gate. length gate.ins ≤ 2) (gates_of m))
gates-have_form g named = (all_forms g named, all_narrow g named)

pub inner-have_form : (g : Named) → IsNamed g → (named : List Name) → HasNumberedInner g named → IsSomeAnd (main_model (file_of g)) (λ m. HasWrittenForm m named)
inner-have_form g is_named named h = has_form g is_named named h

-- an inner name is reserved, so it is none of some free names
pub inner-apart : (named : List Name) → AllByRecursion (λ n. IsTrue (not (is_reserved n))) named → (i : ℕ) → IsTrue (not (stands_in (inner_name i) named))
inner-apart [] h i = refl
inner-apart (n ∷ named) h i = by_test (same_name (inner_name i) n) refl (inner-apart named h.1 i)
  where
    by_test : (b : Bool) → same_name (inner_name i) n ≡ b → not (stands_in (inner_name i) named) ≡ true → not (b || stands_in (inner_name i) named) ≡ true
    by_test true e rest = cc (turn _ h.0, ap is_reserved ((bytes_decides (inner_name i) n).0 e))
    by_test false e rest = rest
