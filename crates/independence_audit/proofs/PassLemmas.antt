-- The pass over the `.names`, from the last to the first.
use Rattle.std.proofs.Common.{◌≡◌, refl, sym, ◌∙◌, ap, subst, ℕ, suc, ◌-◌, ◌<◌, ◌≤◌, List, [], ◌∷◌, ◌++◌, length, map, filter_map, drop, get_or, set, Bool, true, false, cond, arith, drop-cons}
use Rattle.std.specs.List.{cons_option}
use Rattle.netlist_spec.specs.Netlist.{Name, stands_in, Model}
use Rattle.netlist_spec.specs.Models.{Gate, as_gate, output_nets}
use Rattle.imp_text.specs.declared.names.NameId.{NameId}
use Rattle.blif_read.specs.declared.file.Located.{Located}
use Rattle.blif_read.specs.View.{name_at, statement_of, located_of}
use Rattle.audit_laws.specs.FirstBits.{FirstBits, merged}
use Rattle.audit_laws.specs.Along.{bits_along, bits_partly}
use Rattle.audit_laws.proofs.Table.{reads_set}
use Rattle.independence_audit.specs.declared.kept.Kept.{Kept}
use Rattle.independence_audit.specs.Kept.{first_bits, Keeps}
use Rattle.independence_audit.proofs.TableLemmas.{keeps_long, keeps_at, name_stands, entry_set}

module _ (m : Model) (later : List Gate) (g : Gate) where
  abbrev Partly : List Name → Name → FirstBits
  Partly done = bits_partly m later g done

  module _ (done : List Name) (table : List Kept) (id : NameId) (h : id.0 < length table) (k : Keeps m.names table (Partly done)) where
    abbrev net : Name
    net = name_at m.names id

    step : map (Partly (done ++ net ∷ [])) m.names ≡ cond (stands_in net (output_nets m)) (map (Partly done) m.names) (set (map (Partly done) m.names) id.0 (merged (Partly done net) (bits_along m later g.out)))
    step = (reads_set m later g k.distinct).one_more done id.0 net (name_stands m.names id (subst (λ l. id.0 < l) (keeps_long m.names table (Partly done) k) h))

    -- an output that is read stays as it is
    pub output_kept : stands_in net (output_nets m) ≡ true → Keeps m.names table (Partly (done ++ net ∷ []))
    output_kept e =
        record {
          distinct = k.distinct;
          entries = k.entries ∙ sym (step ∙ ap (λ b. cond b (map (Partly done) m.names) (set (map (Partly done) m.names) id.0 (merged (Partly done net) (bits_along m later g.out)))) e);
        }

    -- another net gets the bits of the `.names`
    pub read_merged : (bits x d : Kept) → stands_in net (output_nets m) ≡ false → first_bits bits ≡ bits_along m later g.out → first_bits x ≡ merged (first_bits (get_or table id.0 d)) (first_bits bits) → Keeps m.names (set table id.0 x) (Partly (done ++ net ∷ []))
    read_merged bits x d e b f =
        entry_set m.names table (Partly done) (Partly (done ++ net ∷ [])) id x (merged (Partly done net) (bits_along m later g.out)) k
        (f ∙ (ap (λ o. merged o (first_bits bits)) (keeps_at m.names table (Partly done) k id h d) ∙ ap (merged (Partly done net)) b))
        (step ∙ ap (λ b. cond b (map (Partly done) m.names) (set (map (Partly done) m.names) id.0 (merged (Partly done net) (bits_along m later g.out)))) e)

  pub none_read : (table : List Kept) → Keeps m.names table (bits_along m later) → Keeps m.names table (Partly [])
  none_read table k = record { distinct = k.distinct; entries = k.entries ∙ sym (reads_set m later g k.distinct).none }

  pub all_read : (table : List Kept) → Keeps m.names table (Partly g.ins) → Keeps m.names table (bits_along m (g ∷ later))
  all_read table k = record { distinct = k.distinct; entries = k.entries ∙ (reads_set m later g k.distinct).all }

abbrev pub gates_from : List Name → List Located → List Gate
gates_from all ss = filter_map (λ s. as_gate s.what) (map (located_of all) ss)

pub one_earlier : (all : List Name) (ss : List Located) (i : ℕ) (d : Located) → i < length ss → gates_from all (drop i ss) ≡ cons_option (as_gate (statement_of all (get_or ss i d).what)) (gates_from all (drop (suc i) ss))
one_earlier all ss i d h = ap (gates_from all) (drop-cons ss i d h)

-- one more statement is done
pub earlier_done : (m : Model) (ss : List Located) (i : ℕ) (d : Located) (table : List Kept) → 0 < i → i ≤ length ss
    → Keeps m.names table (bits_along m (cons_option (as_gate (statement_of m.names (get_or ss (i - 1) d).what)) (gates_from m.names (drop i ss)))) → Keeps m.names table (bits_along m (gates_from m.names (drop (i - 1) ss)))
earlier_done m ss i d table some inside k =
    let all = m.names in
    let within : i - 1 < length ss = omega arith in
    let next : suc (i - 1) ≡ i = omega arith in
    let more : gates_from all (drop (i - 1) ss) ≡ cons_option (as_gate (statement_of all (get_or ss (i - 1) d).what)) (gates_from all (drop i ss)) =
    one_earlier all ss (i - 1) d within ∙ ap (λ n. cons_option (as_gate (statement_of all (get_or ss (i - 1) d).what)) (gates_from all (drop n ss))) next in
    subst (λ gs. Keeps all table (bits_along m gs)) (sym more) k
