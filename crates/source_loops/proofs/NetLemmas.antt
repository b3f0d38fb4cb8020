-- What statements read and drive, by number and by name.
use Rattle.std.proofs.Common.{◌≡◌, ◌⊎◌, inl, inr, refl, sym, ◌∙◌, ap, subst, ℕ, ◌<◌, Bool, true, false, List, [], ◌∷◌, ◌++◌, length, map, Some, slice_get, IsTrue, Contains}
use Rattle.std.specs.Prelude.{filter_map}
use Rattle.std.specs.List.{flat_map, cons_option}
use Rattle.netlist_spec.specs.Netlist.{Name, stands_in, Statement, names, latch, subckt, Located, Model, File}
use Rattle.netlist_spec.specs.Reads.{first_appearances}
use Rattle.netlist_spec.specs.Covers.{Library}
use Rattle.netlist_spec.specs.Placed.{port_names}
use Rattle.netlist_spec.specs.Models.{Latch, as_latch, latch_outputs}
use Rattle.netlist_spec.specs.Sound.{combines, drives, reads, driven_nets, read_nets, IsDrivenWhereRead}
use Rattle.net_graph.specs.Chains.{IsMarked, ends_of}
use Rattle.net_order.specs.Order.{AreDriven}
use Rattle.source_laws.specs.Settling.{given_nets}
use Rattle.source_laws.proofs.Agree.{among_first}
use Rattle.source_laws.proofs.Lists.{Among, all_among, among_front, among_back, among_either, among_flat, flat_among, stands, standing}
use Rattle.source_loops.specs.declared.nets.ModelNets.{ModelNets}
use Rattle.source_loops.specs.Nets.{name_of, AreNetsOf}
use Rattle.source_loops.proofs.NumberLemmas.{at_place, place_among, marked_place, marked_at, row_of, nets_within, named, named_back}

-- a statement that doesn't combine is a latch, and what it drives is a latch output
latch_drives : (file : File) (library : Library) (s : Statement) (ls : List Latch) (x : Name) → combines s ≡ false → Among x (drives file library s) → Among x (map (λ l. l.q) (cons_option (as_latch s) ls))
latch_drives file library (names ins out cover) ls x e h = cc e
latch_drives file library (latch d q clocking init) ls x e (inl same) = inl same
latch_drives file library (latch d q clocking init) ls x e (inr h) = absurd h
latch_drives file library (subckt name binds) ls x e h = cc e

latch_later : (s : Statement) (ls : List Latch) (x : Name) → Among x (map (λ l. l.q) ls) → Among x (map (λ l. l.q) (cons_option (as_latch s) ls))
latch_later (names ins out cover) ls x h = h
latch_later (latch d q clocking init) ls x h = inr h
latch_later (subckt name binds) ls x h = h

latch_shows : (file : File) (library : Library) (ss : List Located) (t : Located) (x : Name) → Among t ss → combines t.what ≡ false → Among x (drives file library t.what) → Among x (map (λ l. l.q) (filter_map (λ s. as_latch s.what) ss))
latch_shows file library [] t x h e d = absurd h
latch_shows file library (s ∷ ss) t x (inl same) e d =
    latch_drives file library s.what (filter_map (λ s. as_latch s.what) ss) x (ap (λ (l : Located). combines l.what) same ∙ e) (subst (λ (l : Located). Among x (drives file library l.what)) (sym same) d)
latch_shows file library (s ∷ ss) t x (inr h) e d = latch_later s.what (filter_map (λ s. as_latch s.what) ss) x (latch_shows file library ss t x h e d)

module _ (file : File) (library : Library) (m : Model) (nets : ModelNets) (are : AreNetsOf file library m nets) where
  abbrev pub Placed : ℕ → Type 0
  Placed i = (s : Located) × (slice_get m.statements i ≡ Some s) × (combines s.what ≡ true)

  pub combining : (i : ℕ) → IsMarked nets.combines.items i → Placed i
  combining i c = marked_place (λ (s : Located). combines s.what) m.statements i (subst (λ l. IsMarked l i) are.combines c)

  pub combines_at : (i : ℕ) (s : Located) → slice_get m.statements i ≡ Some s → combines s.what ≡ true → IsMarked nets.combines.items i
  combines_at i s at c = subst (λ l. IsMarked l i) (sym are.combines) (marked_at (λ (s : Located). combines s.what) m.statements i s at c)

  pub reads_at : (i : ℕ) (s : Located) → slice_get m.statements i ≡ Some s → map (name_of m.names) (ends_of nets.reads i) ≡ reads file library s.what
  reads_at i s at = row_of (map (name_of m.names)) (λ (s : Located). reads file library s.what) nets.reads m.statements i s are.reads at

  pub drives_at : (i : ℕ) (s : Located) → slice_get m.statements i ≡ Some s → map (name_of m.names) (ends_of nets.drives i) ≡ drives file library s.what
  drives_at i s at = row_of (map (name_of m.names)) (λ (s : Located). drives file library s.what) nets.drives m.statements i s are.drives at

  pub read_within : (i k : ℕ) → Contains (ends_of nets.reads i) k → k < length m.names
  read_within i k c = nets_within (length m.names) nets.reads i k are.reads_within c

  pub driven_within : (i k : ℕ) → Contains (ends_of nets.drives i) k → k < length m.names
  driven_within i k c = nets_within (length m.names) nets.drives i k are.drives_within c

  pub reads_name : (i k : ℕ) (s : Located) → slice_get m.statements i ≡ Some s → Contains (ends_of nets.reads i) k → Among (name_of m.names k) (reads file library s.what)
  reads_name i k s at c = subst (Among (name_of m.names k)) (reads_at i s at) (named m.names (ends_of nets.reads i) k c)

  pub drives_name : (i k : ℕ) (s : Located) → slice_get m.statements i ≡ Some s → Contains (ends_of nets.drives i) k → Among (name_of m.names k) (drives file library s.what)
  drives_name i k s at c = subst (Among (name_of m.names k)) (drives_at i s at) (named m.names (ends_of nets.drives i) k c)

  pub drives_number : (i k : ℕ) (s : Located) → slice_get m.statements i ≡ Some s → k < length m.names → Among (name_of m.names k) (drives file library s.what) → Contains (ends_of nets.drives i) k
  drives_number i k s at within h =
      named_back m.names are.given.distinct (ends_of nets.drives i) k (λ j c. driven_within i j c) within (subst (Among (name_of m.names k)) (sym (drives_at i s at)) h)

  pub given_at : (k : ℕ) → k < length m.names → Among (name_of m.names k) (given_nets m) → IsMarked nets.given.items k
  given_at k within h = are.given.marked k within ∙ stands (name_of m.names k) (given_nets m) h

  pub given_named : (k : ℕ) → k < length m.names → IsMarked nets.given.items k → Among (name_of m.names k) (given_nets m)
  given_named k within c = standing (name_of m.names k) (given_nets m) (sym (are.given.marked k within) ∙ c)

  -- each net that is read is given or driven, by number
  pub nets_are_driven : IsDrivenWhereRead file library m → AreDriven nets.reads nets.drives nets.combines.items nets.given.items
  nets_are_driven driven i n c r = at (among_either (first_appearances (port_names m.inputs ++ port_names m.clocks)) (flat_map (λ s. drives file library s.what) m.statements) x is_driven)
    where
      x : Name
      x = name_of m.names n

      within : n < length m.names
      within = read_within i n r

      is_driven : Among x (driven_nets file library m)
      is_driven =
          let s = combining i c in
          let is_read : Among x (read_nets file library m) = among_front (flat_map (λ s. reads file library s.what) m.statements) (port_names m.outputs) x (among_flat (λ (s : Located). reads file library s.what) m.statements s.0 x (place_among m.statements i s.0 s.1) (reads_name i n s.0 s.1 r)) in
          standing x (driven_nets file library m) (all_among (λ n. IsTrue (stands_in n (driven_nets file library m))) (read_nets file library m) driven x is_read)

      by : (t : Located) → Among t m.statements → Among x (drives file library t.what) → (b : Bool) → combines t.what ≡ b → IsMarked nets.given.items n ⊎ ((j : ℕ) × IsMarked nets.combines.items j × Contains (ends_of nets.drives j) n)
      by t h d true e = let (j, at_j) = at_place m.statements t h in inr (j, combines_at j t at_j e, drives_number j n t at_j within d)
      by t h d false e = inl (given_at n within (among_back (port_names m.inputs ++ port_names m.clocks) (latch_outputs m) x (latch_shows file library m.statements t x h e d)))

      at : Among x (first_appearances (port_names m.inputs ++ port_names m.clocks)) ⊎ Among x (flat_map (λ s. drives file library s.what) m.statements) → IsMarked nets.given.items n ⊎ ((j : ℕ) × IsMarked nets.combines.items j × Contains (ends_of nets.drives j) n)
      at (inl h) = inl (given_at n within (among_front (port_names m.inputs ++ port_names m.clocks) (latch_outputs m) x (among_first x (port_names m.inputs ++ port_names m.clocks) h)))
      at (inr h) = let (t, there, d) = flat_among (λ (s : Located). drives file library s.what) m.statements x h in by t there d (combines t.what) refl
