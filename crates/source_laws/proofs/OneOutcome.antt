-- A cycle of a sound source has one outcome at most.
use Rattle.std.proofs.Common.{◌≡◌, refl, sym, ◌∙◌, ap, List, [], ◌∷◌, ◌++◌, map, Bool, true, false, not, ◌⊎◌, inl, inr, Option, Some, None}
use Rattle.std.specs.Prelude.{IsSomeAnd, filter_map}
use Rattle.std.specs.List.{AllByRecursion, cons_option, flat_map}
use Rattle.netlist_spec.specs.Netlist.{Name, stands_in, Statement, names, latch, subckt, Located, Model, File}
use Rattle.netlist_spec.specs.Covers.{Library}
use Rattle.netlist_spec.specs.Placed.{port_names}
use Rattle.netlist_spec.specs.Models.{main_model, as_latch, latches_of, latch_outputs, latch_inputs, clock_nets, data_inputs, output_nets, init_bits}
use Rattle.netlist_spec.specs.Reads.{control_nets}
use Rattle.netlist_spec.specs.Fits.{Valuation}
use Rattle.netlist_spec.specs.SourceRun.{Bits, Stream, RunsFrom, SourceCycle, SourceRun}
use Rattle.netlist_spec.specs.Sound.{reads, driven_nets, read_nets, IsMain, IsSound}
use Rattle.netlist_spec.proofs.OneRun.{one_run_by}
use Rattle.source_laws.specs.Settling.{given_nets}
use Rattle.source_laws.specs.Agreement.{AgreeOn}
use Rattle.source_laws.proofs.Lists.{Among, all_among, among_all, among_front, among_back, among_either, among_filter, standing}
use Rattle.source_laws.proofs.Agree.{valuations_agree}

-- lists that are mapped alike agree at each element
alike_at : (v w : Valuation) (ns : List Name) → map v ns ≡ map w ns → AgreeOn v w ns
alike_at v w [] e = tt
alike_at v w (n ∷ ns) e = ((let h : v n ∷ map v ns ≡ w n ∷ map w ns = e in cc h), alike_at v w ns (let h : v n ∷ map v ns ≡ w n ∷ map w ns = e in cc h))

pub mapped_alike : (v w : Valuation) (ns : List Name) → ((n : Name) → Among n ns → v n ≡ w n) → map v ns ≡ map w ns
mapped_alike v w [] f = refl
mapped_alike v w (n ∷ ns) f = let a = f n (inl refl) in let b = mapped_alike v w ns (λ k h. f k (inr h)) in λ i. a i ∷ b i

-- what a latch stores is read
pub stored_is_read : (file : File) (library : Library) (ss : List Located) (n : Name) → Among n (map (λ l. l.d) (filter_map (λ s. as_latch s.what) ss)) → Among n (flat_map (λ s. reads file library s.what) ss)
stored_is_read file library [] n h = absurd h
stored_is_read file library (s ∷ ss) n h = by_case s.what h (stored_is_read file library ss n)
  where
    by_case : (t : Statement) → Among n (map (λ l. l.d) (cons_option (as_latch t) (filter_map (λ s. as_latch s.what) ss)))
        → (Among n (map (λ l. l.d) (filter_map (λ s. as_latch s.what) ss)) → Among n (flat_map (λ s. reads file library s.what) ss))
        → Among n (reads file library t ++ flat_map (λ s. reads file library s.what) ss)
    by_case (names ins out cover) h f = among_back ins (flat_map (λ s. reads file library s.what) ss) n (f h)
    by_case (latch d q clocking init) (inl e) f = inl e
    by_case (latch d q clocking init) (inr h) f = inr (f h)
    by_case (subckt name binds) h f = among_back (reads file library (subckt name binds)) (flat_map (λ s. reads file library s.what) ss) n (f h)

module _ (file : File) (library : Library) (m : Model) where
  -- an input is a clock net or a data input
  pub clock_or_data : (n : Name) → Among n (port_names m.inputs) → Among n (clock_nets m) ⊎ Among n (data_inputs m)
  clock_or_data n h = by_case (stands_in n (clock_nets m)) refl
    where
      by_case : (b : Bool) → stands_in n (clock_nets m) ≡ b → Among n (clock_nets m) ⊎ Among n (data_inputs m)
      by_case true e = inl (standing n (clock_nets m) e)
      by_case false e = inr (among_filter (λ n. not (stands_in n (clock_nets m))) (port_names m.inputs) n h (ap not e))

  module _ (v w : Valuation) (inputs : map v (data_inputs m) ≡ map w (data_inputs m)) (state : map v (latch_outputs m) ≡ map w (latch_outputs m))
      (v_clocks : AllByRecursion (λ n. v n ≡ false) (clock_nets m)) (w_clocks : AllByRecursion (λ n. w n ≡ false) (clock_nets m)) where
    at_clock : (n : Name) → Among n (clock_nets m) → v n ≡ w n
    at_clock n h = all_among (λ n. v n ≡ false) (clock_nets m) v_clocks n h ∙ sym (all_among (λ n. w n ≡ false) (clock_nets m) w_clocks n h)

    pub agree_on_given : AgreeOn v w (given_nets m)
    agree_on_given =
        among_all (λ n. v n ≡ w n) (given_nets m) (λ n h.
        elim (among_either (port_names m.inputs ++ port_names m.clocks) (latch_outputs m) n h) [
          | inl p ↦ elim (among_either (port_names m.inputs) (port_names m.clocks) n p) [
            | inl i ↦ elim (clock_or_data n i) [ inl c ↦ at_clock n c | inr d ↦ all_among (λ n. v n ≡ w n) (data_inputs m) (alike_at v w (data_inputs m) inputs) n d ]
            | inr c ↦ at_clock n (among_front (port_names m.clocks) (flat_map (λ l. control_nets l.clocking) (latches_of m)) n c)
          ]
          | inr q ↦ all_among (λ n. v n ≡ w n) (latch_outputs m) (alike_at v w (latch_outputs m) state) n q
        ])

  pub one_outcome : (x s y next y' next' : Bits) → IsSound file library → IsMain file m → SourceCycle file library m x s y next → SourceCycle file library m x s y' next' → (y ≡ y') × (next ≡ next')
  one_outcome x s y next y' next' sound main a b =
      let all = valuations_agree file library m a.values b.values sound (m, main, 0, refl) a.fits b.fits
      (agree_on_given a.values b.values (a.inputs ∙ sym b.inputs) (a.state ∙ sym b.state) a.clocks b.clocks) in
      let at_read : (n : Name) → Among n (read_nets file library m) → a.values n ≡ b.values n = λ n h.
      all_among (λ n. a.values n ≡ b.values n) (driven_nets file library m ++ read_nets file library m) all n (among_back (driven_nets file library m) (read_nets file library m) n h) in (
        sym a.outputs ∙ (mapped_alike a.values b.values (output_nets m) (λ n h. at_read n (among_back (flat_map (λ s. reads file library s.what) m.statements) (port_names m.outputs) n h)) ∙ b.outputs),
        sym a.stores ∙ (mapped_alike a.values b.values (latch_inputs m) (λ n h. at_read n (among_front (flat_map (λ s. reads file library s.what) m.statements) (port_names m.outputs) n (stored_is_read file library m.statements n h))) ∙ b.stores),
      )

pub one_source_run : (file : File) (library : Library) (xs : Stream) (states outs states' outs' : List Bits) → IsSound file library → SourceRun file library xs states outs → SourceRun file library xs states' outs' → (states ≡ states') × (outs ≡ outs')
one_source_run file library xs states outs states' outs' sound a b = by_main (main_model file) refl a b
  where
    by_main : (o : Option Model) → main_model file ≡ o
        → IsSomeAnd o (λ m. RunsFrom (λ c x s y next. SourceCycle file library m x s y next) 0 (init_bits m) xs states outs)
        → IsSomeAnd o (λ m. RunsFrom (λ c x s y next. SourceCycle file library m x s y next) 0 (init_bits m) xs states' outs')
        → (states ≡ states') × (outs ≡ outs')
    by_main (Some m) e a b =
        one_run_by (λ c x s y next. SourceCycle file library m x s y next) (λ c x s y next y' next' p q. one_outcome file library m x s y next y' next' sound e p q) 0 (init_bits m) xs states outs states' outs' a b
    by_main None e a b = absurd a
