-- The call for a placed model, from what is read of the file.
use Rattle.std.proofs.Common.{◌≡◌, refl, sym, ◌∙◌, ap, subst, ℕ, zero, suc, ◌-◌, ◌<◌, ◌≤◌, List, [], ◌∷◌, length, map, get_or, Option, Some, slice_get, All, arith}
use Rattle.std.specs.Prelude.{option_map}
use Rattle.std.proofs.lemmas.List.{length-map}
use Rattle.netlist_spec.specs.Netlist.{Name, Bind, Statement, subckt, Located, Model, File}
use Rattle.netlist_spec.specs.Covers.{Library}
use Rattle.netlist_spec.specs.Placed.{a_model, nothing, model_or, placed, output_ports}
use Rattle.netlist_spec.specs.Gates.{GateList}
use Rattle.imp_text.specs.declared.names.NameId.{NameId}
use Rattle.blif_read.specs.declared.file.Bind.{Bind as ReadBind}
use Rattle.blif_read.specs.declared.file.Located.{Located as ReadLocated}
use Rattle.blif_read.specs.declared.file.Model.{Model as ReadModel}
use Rattle.blif_read.specs.declared.file.Statement.{Statement as ReadStatement}
use Rattle.blif_read.specs.declared.file.Statement.TheVariants.{Names, Latch, Subckt}
use Rattle.blif_read.specs.Ids.{HasIds, IsIdOf, ids_in}
use Rattle.blif_read.specs.View.{model_of, located_of, statement_of, bind_of}
use Rattle.source_laws.specs.Costs.{statements_of}
use Rattle.source_laws.proofs.Lists.{Among, among_map}
use Rattle.source_loops.specs.Orders.{statement_at}
use Rattle.source_nets.specs.declared.types.Meaning.TheVariants.{Model as ModelAt}
use Rattle.source_nets.specs.declared.types.Source.{Source}
use Rattle.source_nets.specs.Ports.{source_file, source_library}
use Rattle.source_nets.specs.Survey.{Means}
use Rattle.source_check.specs.declared.types.Checked.{Checked}
use Rattle.lowering.specs.Lowers.{Lowers}
use Rattle.model_lowering.specs.Binds.{given_inside, answered_outside, binds_in}
use Rattle.model_lowering.specs.Inside.{IsReady, CanLowerAll, CanLowerModel, LowersModel}
use Rattle.model_lowering.proofs.Places.{mapped_place, same_there, place_among}
use Rattle.model_lowering.proofs.Placement.{has_step, place_can, place_lowers}

-- a statement that means a model is a `.subckt` that places it
subckt_words : (file : File) (library : Library) (place : ℕ) (c : Model) → slice_get file.models place ≡ Some c → (all : List Name) (w : ReadStatement) → Means file library (statement_of all w) (ModelAt place)
    → (name : Name) × (statement_of all w ≡ subckt name (map (bind_of all) (binds_in w))) × (placed file library name ≡ a_model c)
subckt_words file library place c at all (Names ins out cover) h = cc h
subckt_words file library place c at all (Latch d q clocking init) h = cc h
subckt_words file library place c at all (Subckt model binds) h = (model, refl, sym h.0 ∙ ap (λ (o : Option Model). model_or o nothing) at)

-- numbers in a `.subckt`
actual_ids : (P : NameId → Type 0) (w : ReadStatement) → All P (ids_in w) → All (λ (b : ReadBind). P b.actual) (binds_in w)
actual_ids P (Names ins out cover) a = λ j d h. absurd (omega (arith, h))
actual_ids P (Latch d q clocking init) a = λ j e h. absurd (omega (arith, h))
actual_ids P (Subckt model binds) a = λ j d h. subst P (mapped_get binds.items j d h) (a j d.actual (omega (arith, h, length-map binds.items (λ (b : ReadBind). b.actual))))
  where
    mapped_get : (bs : List ReadBind) (j : ℕ) (d : ReadBind) → j < length bs → get_or (map (λ (b : ReadBind). b.actual) bs) j d.actual ≡ (get_or bs j d).actual
    mapped_get [] j d h = absurd (omega (arith, h))
    mapped_get (b ∷ bs) zero d h = refl
    mapped_get (b ∷ bs) (suc j) d h = mapped_get bs j d (omega (arith, h))

module _ (source : Source) (checked : Checked) (ready : IsReady source checked)
    (k : ℕ) (rm : ReadModel) (k_within : k < length source.file.now.models.items) (rm_is : rm ≡ get_or source.file.now.models.items k rm) where
  pub at_m : slice_get (source_file source).models k ≡ Some (model_of rm)
  at_m = mapped_place model_of source.file.now.models.items k rm k_within rm_is

  pub model_ids : HasIds rm
  model_ids = subst HasIds (sym rm_is) (ready.ready.ids k rm k_within)

  module _ (i : ℕ) (loc : ReadLocated) (i_within : i < length rm.statements.items) (loc_is : loc ≡ get_or rm.statements.items i loc) where
    abbrev pub l : Located
    l = located_of rm.names loc

    pub at_l : slice_get (model_of rm).statements i ≡ Some l
    at_l = mapped_place (located_of rm.names) rm.statements.items i loc i_within loc_is

    pub there : statement_at (model_of rm) i ≡ Some l.what
    there = ap (option_map (λ (l : Located). l.what)) at_l

    pub bind_ids : All (λ (b : ReadBind). IsIdOf rm.names b.actual) (binds_in loc.what)
    bind_ids = actual_ids (IsIdOf rm.names) loc.what (subst (λ (x : ReadLocated). All (IsIdOf rm.names) (ids_in x.what)) (sym loc_is) (model_ids.statements i loc i_within))

    module _ (place : ℕ) (rc : ReadModel) (place_within : place < length source.file.now.models.items) (rc_is : rc ≡ get_or source.file.now.models.items place rc) (fuel : ℕ) (old : GateList) (table : List ℕ)
        (means : (m : Model) (s : Statement) → slice_get (source_file source).models k ≡ Some m → statement_at m i ≡ Some s → Means (source_file source) (source_library source) s (ModelAt place))
        (can : (m : Model) (s : Statement) → slice_get (source_file source).models k ≡ Some m → statement_at m i ≡ Some s → CanLowerAll (source_file source) (source_library source) m s fuel old table) where
      abbrev F : File
      F = source_file source

      abbrev L : Library
      L = source_library source

      at_c : slice_get F.models place ≡ Some (model_of rc)
      at_c = mapped_place model_of source.file.now.models.items place rc place_within rc_is

      abbrev binds : List Bind
      binds = map (bind_of rm.names) (binds_in loc.what)

      words : (name : Name) × (l.what ≡ subckt name binds) × (placed F L name ≡ a_model (model_of rc))
      words = subckt_words F L place (model_of rc) at_c rm.names loc.what (means (model_of rm) l.what at_m there)

      in_m : Among (subckt words.0 binds) (statements_of (model_of rm))
      in_m = subst (λ (t : Statement). Among t (statements_of (model_of rm))) words.1 (among_map (λ (l : Located). l.what) (model_of rm).statements l (place_among (model_of rm).statements i l at_l))

      can_words : CanLowerAll F L (model_of rm) (subckt words.0 binds) fuel old table
      can_words = subst (λ (t : Statement). CanLowerAll F L (model_of rm) t fuel old table) words.1 (can (model_of rm) l.what at_m there)

      pub call_has_step : 1 ≤ fuel
      call_has_step = has_step source checked ready k (model_of rm) at_m place (model_of rc) at_c words.0 binds fuel old table in_m words.2 can_words

      pub table_size : length table ≡ length rm.names
      table_size = can_words.can.size

      module _ (inside : List ℕ) (size : length inside ≡ length rc.names) where
        pub inner_can : (x : Model) → slice_get F.models place ≡ Some x → CanLowerModel F L x (fuel - 1) old (given_inside rm.names rc.names table binds inside)
        inner_can x at_x =
            subst (λ (y : Model). CanLowerModel F L y (fuel - 1) old (given_inside rm.names rc.names table binds inside)) (same_there F.models place (model_of rc) x at_c at_x)
            (place_can source checked ready k (model_of rm) at_m place (model_of rc) at_c words.0 binds fuel old table in_m words.2 can_words inside size)

        pub outer_lowers : (new : GateList) (noted after : List ℕ) → ((x : Model) → slice_get F.models place ≡ Some x → LowersModel F L x old (given_inside rm.names rc.names table binds inside) new noted)
            → ((x : Model) → slice_get F.models place ≡ Some x → after ≡ answered_outside rm.names x.names (output_ports (a_model x)) noted binds table)
            → (x : Model) (t : Statement) → slice_get F.models k ≡ Some x → statement_at x i ≡ Some t → Lowers F L x.names t old table new after
        outer_lowers new noted after done is x t at_x there_t =
            let same_model : model_of rm ≡ x = same_there F.models k (model_of rm) x at_m at_x in
            let both : Some l.what ≡ Some t = sym there ∙ (ap (λ (y : Model). statement_at y i) same_model ∙ there_t) in
            let same_statement : l.what ≡ t = cc both in
            subst (λ (y : Model). Lowers F L y.names t old table new after) same_model
            (subst (λ (u : Statement). Lowers F L rm.names u old table new after) (sym words.1 ∙ same_statement)
            (subst (Lowers F L rm.names (subckt words.0 binds) old table new) (sym (is (model_of rc) at_c))
            (place_lowers source checked ready k (model_of rm) at_m place (model_of rc) at_c words.0 binds fuel old table in_m words.2 can_words inside size new noted (done (model_of rc) at_c))))
