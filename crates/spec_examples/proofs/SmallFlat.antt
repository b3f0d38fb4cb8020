-- The flat netlist of a file in which a cell reads a later one.
use Rattle.std.proofs.Common.{◌≡◌, refl, sym, subst, ℕ, ◌+◌, List, [], ◌∷◌, codes, Bool, true, false, if◌then◌else◌, Some, lit≤, lit<}
use Rattle.std.specs.List.{AllZip}
use Rattle.std.specs.Fmt.{digits}
use Rattle.netlist_spec.specs.Netlist.{Name, same_name}
use Rattle.netlist_spec.specs.Statements.{model_line, inputs_line, outputs_line, names_line, row_line, end_line}
use Rattle.netlist_spec.specs.Reads.{Reads}
use Rattle.netlist_spec.specs.Covers.{empty_library, cover_value}
use Rattle.netlist_spec.specs.Fits.{Valuation, Fits, fits, none, fits_names}
use Rattle.netlist_spec.specs.SourceRun.{Bits, CycleStep, Stream, RunsFrom, SourceCycle}
use Rattle.netlist_spec.specs.Values.{shown}
use Rattle.netlist_spec.specs.Runs.{FaultyCycle}
use Rattle.netlist_spec.specs.Gates.{one}
use Rattle.netlist_spec.specs.Written.{IsNamed, file_of}
use Rattle.netlist_spec.specs.Flat.{IsFlat}
use Rattle.netlist_spec.specs.WrittenText.{IsFlatText}
use Rattle.netlist_spec.specs.Text.{text_of}
use Rattle.spec_examples.specs.Examples.{inverter_cover, backward_model, backward_file, backward_text, forward_model, forward_file, forward_named, forward_text}
use Rattle.netlist_spec.proofs.OneReading.{one_reading}

-- ---- texts

pub forward_is_written : file_of forward_named ≡ forward_file
unfolding digits
forward_is_written = refl

pub forward_is_spelled : text_of 0 forward_file ≡ forward_text
unfolding digits
forward_is_spelled = refl

pub backward_reads : Reads backward_text backward_file
backward_reads =
    record {
      lines =
          (1, model_line (codes "r")) ∷ (2, inputs_line (codes "a" ∷ [])) ∷ (3, outputs_line (codes "y" ∷ []))
          ∷ (4, names_line (codes "m" ∷ []) (codes "y")) ∷ (5, row_line (Some false ∷ []) true)
          ∷ (6, names_line (codes "a" ∷ []) (codes "m")) ∷ (7, row_line (Some false ∷ []) true) ∷ [];
      cases = (
        (refl, (refl, (lit< tt, lit≤ tt))),
        (
          (refl, (refl, ((lit< tt, lit≤ tt), tt))),
          (
            (refl, (refl, ((lit< tt, lit≤ tt), tt))),
            (
              (refl, (refl, (((lit< tt, lit≤ tt), tt), (lit< tt, lit≤ tt)))),
              (
                (refl, (refl, tt)),
                ((refl, (refl, (((lit< tt, lit≤ tt), tt), (lit< tt, lit≤ tt)))), ((refl, (refl, tt)), tt)),
              ),
            ),
          ),
        ),
      );
      begins = tt;
      order = (tt, (tt, (tt, (refl, (tt, (refl, tt))))));
      models = refl;
      distinct = refl;
      limits = record {
        models = (record { covers = (lit≤ tt, (lit≤ tt, tt)); inputs = lit≤ tt; outputs = lit≤ tt; clocks = lit≤ tt; latches = lit≤ tt }, tt);
        statements = lit≤ tt;
      };
    }

pub forward_reads : Reads forward_text forward_file
forward_reads =
    record {
      lines =
          (2, model_line (codes "r")) ∷ (3, inputs_line (codes "a" ∷ [])) ∷ (4, outputs_line (codes "y" ∷ []))
          ∷ (5, names_line (codes "a" ∷ []) (codes "guard:n0")) ∷ (6, row_line (Some false ∷ []) true)
          ∷ (7, names_line (codes "guard:n0" ∷ []) (codes "y")) ∷ (8, row_line (Some false ∷ []) true) ∷ (9, end_line) ∷ [];
      cases = (
        (refl, (refl, (lit< tt, lit≤ tt))),
        (
          (refl, (refl, ((lit< tt, lit≤ tt), tt))),
          (
            (refl, (refl, ((lit< tt, lit≤ tt), tt))),
            (
              (refl, (refl, (((lit< tt, lit≤ tt), tt), (lit< tt, lit≤ tt)))),
              (
                (refl, (refl, tt)),
                ((refl, (refl, (((lit< tt, lit≤ tt), tt), (lit< tt, lit≤ tt)))), ((refl, (refl, tt)), ((refl, (refl, tt)), tt))),
              ),
            ),
          ),
        ),
      );
      begins = tt;
      order = (tt, (tt, (tt, (refl, (tt, (refl, (tt, tt)))))));
      models = refl;
      distinct = refl;
      limits = record {
        models = (record { covers = (lit≤ tt, (lit≤ tt, tt)); inputs = lit≤ tt; outputs = lit≤ tt; clocks = lit≤ tt; latches = lit≤ tt }, tt);
        statements = lit≤ tt;
      };
    }

-- ---- the gates with their names

pub forward_is_named : IsNamed forward_named
unfolding digits
forward_is_named =
    record {
      gates = (lit< tt, (lit< tt, tt));
      leaves = refl;
      labels = refl;
      distinct = refl;
      first_labels = refl;
      no_clock = (refl, (refl, (refl, tt)));
      inputs = refl;
      clocks = refl;
      control = tt;
      clocking = λ e. refl;
      outputs = (lit< tt, tt);
      once = refl;
      stores = tt;
      model = (record { is_name = (lit< tt, lit≤ tt); bytes = refl }, refl);
      words = (
        record { is_name = (lit< tt, lit≤ tt); bytes = refl },
        (record { is_name = (lit< tt, lit≤ tt); bytes = refl }, (record { is_name = (lit< tt, lit≤ tt); bytes = refl }, tt)),
      );
      free = (refl, (refl, (refl, tt)));
      limits = record {
        models = (record { covers = (lit≤ tt, (lit≤ tt, tt)); inputs = lit≤ tt; outputs = lit≤ tt; clocks = lit≤ tt; latches = lit≤ tt }, tt);
        statements = lit≤ tt;
      };
    }

-- ---- the same runs

runs_by : (step other : CycleStep) → ((c : ℕ) (x s y next : Bits) → step c x s y next → other c x s y next) → (c : ℕ) (s : Bits) (xs : Stream) (states outs : List Bits)
    → RunsFrom step c s xs states outs → RunsFrom other c s xs states outs
runs_by step other f c s [] [] [] h = h
runs_by step other f c s [] [] (y ∷ outs) h = h
runs_by step other f c s [] (now ∷ []) [] h = h
runs_by step other f c s [] (now ∷ []) (y ∷ outs) h = h
runs_by step other f c s [] (now ∷ k ∷ states) [] h = h
runs_by step other f c s [] (now ∷ k ∷ states) (y ∷ outs) h = h
runs_by step other f c s (x ∷ xs) [] [] h = h
runs_by step other f c s (x ∷ xs) [] (y ∷ outs) h = h
runs_by step other f c s (x ∷ xs) (now ∷ states) [] h = h
runs_by step other f c s (x ∷ xs) (now ∷ states) (y ∷ outs) h = (h.0, h.1, f c x s y h.1 h.2, runs_by step other f (c + 1) h.1 xs states outs h.3)

no_latch : (R : Name → Bool → Type 0) (s : Bits) → AllZip R [] s → [] ≡ s
no_latch R [] h = refl
no_latch R (b ∷ bs) h = absurd h

none_stored : (R : Name → Bool → Type 0) (s : Bits) → [] ≡ s → AllZip R [] s
none_stored R s e = subst (AllZip R []) e tt

-- the values of the source's two cells
two_cells : {v : Valuation} → Fits backward_file empty_library backward_model v
    → (v (codes "y") ≡ cover_value inverter_cover (v (codes "m") ∷ [])) × (v (codes "m") ≡ cover_value inverter_cover (v (codes "a") ∷ []))
two_cells (fits (fits_names e (fits_names f none))) = (e, f)

abbrev renamed : Valuation → Valuation
renamed v n = if same_name n (codes "guard:n0") then v (codes "m") else v n

abbrev named_back : Valuation → Valuation
named_back v n = if same_name n (codes "m") then v (codes "guard:n0") else v n

forward_cycle : (c : ℕ) (x s y next : Bits) → SourceCycle backward_file empty_library backward_model x s y next → FaultyCycle forward_model [] c x s y next
forward_cycle c x s y next h =
    let cells = two_cells h.fits in
    record {
      values = renamed h.values;
      agrees = record { inputs = h.inputs; latches = none_stored (λ q bit. renamed h.values q ≡ shown [] q bit) s h.state; gates = (cells.1, (cells.0, tt)) };
      outputs = h.outputs;
      stores = h.stores;
    }

backward_cycle : (c : ℕ) (x s y next : Bits) → FaultyCycle forward_model [] c x s y next → SourceCycle backward_file empty_library backward_model x s y next
backward_cycle c x s y next h =
    record {
      values = named_back h.values;
      fits = fits (fits_names h.agrees.gates.1.0 (fits_names h.agrees.gates.0 none));
      inputs = h.agrees.inputs;
      state = no_latch (λ q bit. h.values q ≡ shown [] q bit) s h.agrees.latches;
      clocks = tt;
      outputs = h.outputs;
      stores = h.stores;
    }

pub forward_is_flat : IsFlat forward_file backward_file empty_library
unfolding digits
forward_is_flat =
    record {
      ordered = record { model = forward_model; one_model = refl; no_fault = refl };
      flat_model = forward_model;
      is_flat_model = refl;
      source_model = backward_model;
      is_source_model = refl;
      ports = record { name = refl; inputs = refl; outputs = refl; clocks = refl; latches = refl; clocking = refl; inits = refl };
      narrow = (lit≤ tt, (lit≤ tt, tt));
      written = record {
        gates = (record { form = one true 0; reads = refl; cover = refl }, (record { form = one true 1; reads = refl; cover = refl }, tt));
        inner = refl;
      };
      same_runs = λ xs states outs. (
        runs_by (λ c x s y next. SourceCycle backward_file empty_library backward_model x s y next) (λ c x s y next. FaultyCycle forward_model [] c x s y next) forward_cycle 0 [] xs states outs,
        runs_by (λ c x s y next. FaultyCycle forward_model [] c x s y next) (λ c x s y next. SourceCycle backward_file empty_library backward_model x s y next) backward_cycle 0 [] xs states outs,
      );
      size = lit≤ tt;
    }

pub forward_is_flat_text : IsFlatText backward_text forward_text empty_library
forward_is_flat_text =
    record {
      source = backward_file;
      is_source = backward_reads;
      g = forward_file;
      text_of_g = record {
        unknown = 0;
        has_unknown = (backward_model, refl, refl);
        written = sym forward_is_spelled;
        reading = record { reads = forward_reads; only = λ other r. one_reading forward_text other forward_file r forward_reads };
      };
      flat = forward_is_flat;
    }
