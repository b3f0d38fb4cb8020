-- Whether a valuation meets a statement rests on the nets that the statement reads and drives.
use Rattle.std.proofs.Common.{◌≡◌, refl, sym, ◌∙◌, ap, subst, ℕ, ◌+◌, List, [], ◌∷◌, ◌++◌, Bool, inl, inr, Option, Some, None}
use Rattle.std.specs.Prelude.{IsTrue, IfSome}
use Rattle.std.specs.List.{AllByRecursion, enumerate_from}
use Rattle.netlist_spec.specs.Netlist.{Name, stands_in, Bind, Statement, names, latch, subckt, File}
use Rattle.netlist_spec.specs.Covers.{Library, cover_value, table_value, linear_value}
use Rattle.netlist_spec.specs.Placed.{a_table, a_linear, placed, input_ports, output_ports, actual_of, actuals_among}
use Rattle.netlist_spec.specs.Fits.{Valuation, port_bits, OutputsHave}
use Rattle.netlist_spec.specs.Sound.{drives, reads, PlacesWell, IsPlacement}
use Rattle.source_laws.specs.Agreement.{AgreeOn}
use Rattle.source_laws.specs.Holding.{PlacedFits, by_table, by_linear, by_model, Holds}
use Rattle.source_laws.proofs.Lists.{Among, all_among, among_all, among_either, stands, standing}
use Rattle.source_laws.proofs.Statements.{at_actual, ports_agree, actual_found, maps_agree}

module _ (v w : Valuation) (binds : List Bind) where
  outputs_move : (start : ℕ) (ports : List Name) (f : ℕ → Bool) → ((p n : Name) → Among p ports → actual_of binds p ≡ Some n → v n ≡ w n)
      → AllByRecursion (λ (p : ℕ × Name). IfSome (actual_of binds p.1) (λ n. v n ≡ f p.0)) (enumerate_from start ports)
      → AllByRecursion (λ (p : ℕ × Name). IfSome (actual_of binds p.1) (λ n. w n ≡ f p.0)) (enumerate_from start ports)
  outputs_move start [] f same a = tt
  outputs_move start (p ∷ ports) f same a = (here (actual_of binds p) refl a.0, outputs_move (start + 1) ports f (λ q n h e. same q n (inr h) e) a.1)
    where
      here : (o : Option Name) → actual_of binds p ≡ o → IfSome o (λ n. v n ≡ f start) → IfSome o (λ n. w n ≡ f start)
      here None e a = a
      here (Some n) e a = sym (same p n (inl refl) e) ∙ a

-- the outputs of a library entry, with the bits that its inputs give them
pub outputs_are_local : (v w : Valuation) (binds : List Bind) (ins outs : List Name) (f : List Bool → ℕ → Bool) → AgreeOn v w (actuals_among ins binds) → AgreeOn v w (actuals_among outs binds)
    → OutputsHave v binds outs (f (port_bits v binds ins)) → OutputsHave w binds outs (f (port_bits w binds ins))
outputs_are_local v w binds ins outs f on_reads on_drives o =
    let moved = outputs_move v w binds 0 outs (f (port_bits v binds ins))
    (λ q n h e.
    let (b, in_binds, b_port, b_actual) = actual_found binds q n e in
    subst (λ k. v k ≡ w k) b_actual (at_actual v w outs binds on_drives b in_binds (stands b.formal outs (subst (λ k. Among k outs) (sym b_port) h)))) o in
    subst (λ bs. OutputsHave w binds outs (f bs)) (ports_agree v w ins binds on_reads) moved

module _ (file : File) (library : Library) (v w : Valuation) where
  placed_is_local : (name : Name) (binds : List Bind) → IsPlacement file library name binds → AgreeOn v w (actuals_among (input_ports (placed file library name)) binds)
      → AgreeOn v w (actuals_among (output_ports (placed file library name)) binds) → PlacedFits file library name binds v → PlacedFits file library name binds w
  placed_is_local name binds is on_reads on_drives (by_table t p o) =
      by_table t p
      (outputs_are_local v w binds (input_ports (a_table t)) (output_ports (a_table t)) (table_value t) (subst (λ x. AgreeOn v w (actuals_among (input_ports x) binds)) p on_reads)
      (subst (λ x. AgreeOn v w (actuals_among (output_ports x) binds)) p on_drives) o)
  placed_is_local name binds is on_reads on_drives (by_linear t p o) =
      by_linear t p
      (outputs_are_local v w binds (input_ports (a_linear t)) (output_ports (a_linear t)) (linear_value t) (subst (λ x. AgreeOn v w (actuals_among (input_ports x) binds)) p on_reads)
      (subst (λ x. AgreeOn v w (actuals_among (output_ports x) binds)) p on_drives) o)
  placed_is_local name binds is on_reads on_drives (by_model k inside p f a) =
      by_model k inside p f (among_all (λ (b : Bind). inside b.formal ≡ w b.actual) binds (λ b h. all_among (λ (b : Bind). inside b.formal ≡ v b.actual) binds a b h ∙ at_bind b h))
    where
      at_bind : (b : Bind) → Among b binds → v b.actual ≡ w b.actual
      at_bind b h =
          let port = all_among (λ (b : Bind). IsTrue (stands_in b.formal (input_ports (placed file library name) ++ output_ports (placed file library name)))) binds is.ports b h in
          elim (among_either (input_ports (placed file library name)) (output_ports (placed file library name)) b.formal (standing b.formal (input_ports (placed file library name) ++ output_ports (placed file library name)) port)) [
            | inl i ↦ at_actual v w (input_ports (placed file library name)) binds on_reads b h (stands b.formal (input_ports (placed file library name)) i)
            | inr o ↦ at_actual v w (output_ports (placed file library name)) binds on_drives b h (stands b.formal (output_ports (placed file library name)) o)
          ]

  pub holding_is_local : (s : Statement) → PlacesWell file library s → AgreeOn v w (reads file library s) → AgreeOn v w (drives file library s) → Holds file library v s → Holds file library w s
  holding_is_local (names ins out cover) p on_reads on_drives h = sym on_drives.0 ∙ (h ∙ ap (cover_value cover) (maps_agree v w ins on_reads))
  holding_is_local (latch d q clocking init) p on_reads on_drives h = h
  holding_is_local (subckt name binds) p on_reads on_drives h = placed_is_local name binds p on_reads on_drives h
