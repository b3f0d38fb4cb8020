-- The runs of the file that a gate list is written as are those of its gates.
use Rattle.std.proofs.Common.{◌≡◌, refl, sym, ◌∙◌, ap, ap₂, subst, ℕ, ◌+◌, ◌↔◌, List, [], ◌∷◌, map, filter, Bool, true, false, cond, ◌==◌}
use Rattle.std.specs.List.{enumerate_from}
use Rattle.netlist_spec.specs.Netlist.{Model}
use Rattle.netlist_spec.specs.Models.{init_bit, init_bits, Latch}
use Rattle.netlist_spec.specs.SourceRun.{Bits, Stream, CycleStep, RunsFrom}
use Rattle.netlist_spec.specs.Values.{Forced, Values}
use Rattle.netlist_spec.specs.Runs.{forced_at, FaultyCycle, Run}
use Rattle.netlist_spec.specs.Gates.{LatchRow, NetFault, forced_nets_at, GateStep, GateRun}
use Rattle.netlist_spec.specs.Written.{Named, IsNamed, net_name, written_init_of, file_of}
use Rattle.gate_net.specs.Written.{named_machine, SameBits, named_faults, AreFaultsOf}
use Rattle.gate_net.proofs.Written.{same_values, same_outputs, some_names}
use Rattle.named_netlist.specs.Laws.{faults_by_name, AreOfNets}
use Rattle.named_netlist.proofs.WrittenModel.{written_model}
use Rattle.named_netlist.proofs.NamedFiles.{latch_at}
use Rattle.named_netlist.proofs.NamedModels.{same-latches, own-names}

-- where each step of one machine is one of another, so is each run
pub runs_over : (step other : CycleStep) → ((c : ℕ) (x s y next : Bits) → step c x s y next → other c x s y next) → (c : ℕ) (s : Bits) (xs : Stream) (states outs : List Bits) → RunsFrom step c s xs states outs → RunsFrom other c s xs states outs
runs_over step other f c s [] [] outs r = absurd r
runs_over step other f c s [] (now ∷ []) [] r = r
runs_over step other f c s [] (now ∷ []) (y ∷ outs) r = absurd r
runs_over step other f c s [] (now ∷ k ∷ states) outs r = absurd r
runs_over step other f c s (x ∷ xs) [] outs r = absurd r
runs_over step other f c s (x ∷ xs) (now ∷ states) [] r = absurd r
runs_over step other f c s (x ∷ xs) (now ∷ states) (y ∷ outs) r = (r.0, r.1, f c x s y r.1 r.2, runs_over step other f (c + 1) r.1 xs states outs r.3)

module _ (g : Named) where
  -- the faults of one cycle, by name and by number
  one_cycle : (c : ℕ) (faults : List NetFault) → forced_at c (faults_by_name g faults) ≡ named_faults g (forced_nets_at c faults)
  one_cycle c [] = refl
  one_cycle c (a ∷ faults) = by_test (a.cycle == c) (one_cycle c faults)
    where
      by_test : (b : Bool) → forced_at c (faults_by_name g faults) ≡ named_faults g (forced_nets_at c faults)
          → map (λ x. (x.cell, x.bit)) (cond b (record { cycle = a.cycle; cell = net_name g a.cell; bit = a.bit } ∷ filter (λ x. x.cycle == c) (faults_by_name g faults)) (filter (λ x. x.cycle == c) (faults_by_name g faults)))
          ≡ named_faults g (map (λ x. (x.cell, x.bit)) (cond b (a ∷ filter (λ x. x.cycle == c) faults) (filter (λ x. x.cycle == c) faults)))
      by_test true rest = ap (λ (l : Forced). (net_name g a.cell, a.bit) ∷ l) rest
      by_test false rest = rest

  nets_in_cycle : (c : ℕ) (faults : List NetFault) → AreOfNets g faults → AreFaultsOf g (forced_nets_at c faults)
  nets_in_cycle c [] h = tt
  nets_in_cycle c (a ∷ faults) h = by_test (a.cycle == c) (nets_in_cycle c faults h.1)
    where
      by_test : (b : Bool) → AreFaultsOf g (forced_nets_at c faults) → AreFaultsOf g (map (λ x. (x.cell, x.bit)) (cond b (a ∷ filter (λ x. x.cycle == c) faults) (filter (λ x. x.cycle == c) faults)))
      by_test true rest = (h.0, rest)
      by_test false rest = rest

  -- the inits are those of the latches
  bit_back : (b : Bool) → init_bit (written_init_of b) ≡ b
  bit_back true = refl
  bit_back false = refl

  inits_back : (a : ℕ) (ls : List LatchRow) → map (λ (l : Latch). init_bit l.init) (map (latch_at g) (enumerate_from a ls)) ≡ map (λ l. l.init) ls
  inits_back a [] = refl
  inits_back a (l ∷ ls) = ap₂ (λ (b : Bool) (bs : Bits). b ∷ bs) (bit_back l.init) (inits_back (a + 1) ls)

  module _ (named : IsNamed g) (faults : List NetFault) (nets : AreOfNets g faults) where
    abbrev m : Model
    m = written_model g

    cycle_of_gates : (c : ℕ) (x s y next : Bits) → FaultyCycle m (faults_by_name g faults) c x s y next → GateStep (named_machine g) (forced_nets_at c faults) x s y next
    cycle_of_gates c x s y next h =
        let v : ℕ → Bool = λ n. h.values (net_name g n) in
        let same : SameBits g h.values v = λ n below. refl in
        let both = same_values g (own-names g named) h.values v same (forced_nets_at c faults) (nets_in_cycle c faults nets) s x in
        let shown = same_outputs g (own-names g named) h.values v same in
        record {
          values = v;
          agrees = both.0 (subst (λ (f : Forced). Values m s x f h.values) (one_cycle c faults) h.agrees);
          outputs = sym shown.0 ∙ h.outputs;
          stores = sym shown.1 ∙ h.stores;
        }

    cycle_of_file : (c : ℕ) (x s y next : Bits) → GateStep (named_machine g) (forced_nets_at c faults) x s y next → FaultyCycle m (faults_by_name g faults) c x s y next
    cycle_of_file c x s y next h =
        let some = some_names g (own-names g named) h.values in
        let both = same_values g (own-names g named) some.0 h.values some.1 (forced_nets_at c faults) (nets_in_cycle c faults nets) s x in
        let shown = same_outputs g (own-names g named) some.0 h.values some.1 in
        record {
          values = some.0;
          agrees = subst (λ (f : Forced). Values m s x f some.0) (sym (one_cycle c faults)) (both.1 h.agrees);
          outputs = shown.0 ∙ h.outputs;
          stores = shown.1 ∙ h.stores;
        }

    same_inits : init_bits m ≡ map (λ l. l.init) g.latches
    same_inits = ap (map (λ (l : Latch). init_bit l.init)) (same-latches g named) ∙ inits_back g.data_inputs g.latches

    same_runs : (xs : Stream) (states outs : List Bits) → Run (file_of g) xs (faults_by_name g faults) states outs ↔ GateRun (named_machine g) xs faults states outs
    same_runs xs states outs =
        let file : CycleStep = λ c x s y next. FaultyCycle m (faults_by_name g faults) c x s y next in
        let gates : CycleStep = λ c x s y next. GateStep (named_machine g) (forced_nets_at c faults) x s y next in (
          λ r. subst (λ (s : Bits). RunsFrom gates 0 s xs states outs) same_inits (runs_over file gates cycle_of_gates 0 (init_bits m) xs states outs r),
          λ r. runs_over gates file cycle_of_file 0 (init_bits m) xs states outs (subst (λ (s : Bits). RunsFrom gates 0 s xs states outs) (sym same_inits) r),
        )

pub runs-of-gates : (g : Named) → IsNamed g → (faults : List NetFault) → AreOfNets g faults → (xs : Stream) (states outs : List Bits)
    → Run (file_of g) xs (faults_by_name g faults) states outs ↔ GateRun (named_machine g) xs faults states outs
runs-of-gates g named faults nets = same_runs g named faults nets
