-- The definitions computed on small texts.
use Rattle.std.proofs.Common.{◌≡◌, refl, [], ◌∷◌, codes, Bool, true, false, not, if◌then◌else◌, Some, lit≤, lit<}
use Rattle.netlist_spec.specs.Netlist.{plain, Name, same_name}
use Rattle.netlist_spec.specs.Statements.{model_line, outputs_line, latch_line, names_line, row_line, end_line}
use Rattle.netlist_spec.specs.Reads.{Reads}
use Rattle.netlist_spec.specs.Text.{text_of}
use Rattle.netlist_spec.specs.Ordered.{IsOrdered, order_fault, unordered}
use Rattle.netlist_spec.specs.Runs.{FreeRun}
use Rattle.spec_examples.specs.Examples.{empty_text, empty_file, empty_written, inverter_text, inverter_model, inverter_file, inverter_written, backward_file}
use Rattle.std.specs.Fmt.{digits}

pub empty_reads : Reads empty_text empty_file
empty_reads =
    record {
      lines = (1, model_line (codes "e")) ∷ (2, end_line) ∷ [];
      cases = ((refl, (refl, (lit< tt, lit≤ tt))), ((refl, (refl, tt)), tt));
      begins = tt;
      order = (tt, tt);
      models = refl;
      distinct = refl;
      limits = record {
        models = (record { covers = tt; inputs = lit≤ tt; outputs = lit≤ tt; clocks = lit≤ tt; latches = lit≤ tt }, tt);
        statements = lit≤ tt;
      };
    }

pub inverter_reads : Reads inverter_text inverter_file
inverter_reads =
    record {
      lines =
          (1, model_line (codes "inv")) ∷ (2, outputs_line (codes "q" ∷ [])) ∷ (5, latch_line (codes "n") (codes "q") plain (Some 0))
          ∷ (6, names_line (codes "q" ∷ []) (codes "n")) ∷ (7, row_line (Some false ∷ []) true) ∷ [];
      cases = (
        (refl, (refl, (lit< tt, lit≤ tt))),
        (
          (refl, (refl, ((lit< tt, lit≤ tt), tt))),
          (
            (refl, (refl, ((lit< tt, lit≤ tt), (lit< tt, lit≤ tt), tt, lit< tt))),
            (
              (refl, (refl, (((lit< tt, lit≤ tt), tt), (lit< tt, lit≤ tt)))),
              ((refl, (refl, tt)), tt),
            ),
          ),
        ),
      );
      begins = tt;
      order = (tt, (tt, (tt, (refl, tt))));
      models = refl;
      distinct = refl;
      limits = record {
        models = (record { covers = (tt, (lit≤ tt, tt)); inputs = lit≤ tt; outputs = lit≤ tt; clocks = lit≤ tt; latches = lit≤ tt }, tt);
        statements = lit≤ tt;
      };
    }

pub empty_text_is_written : text_of 0 empty_file ≡ empty_written
unfolding digits
empty_text_is_written = refl

pub inverter_text_is_written : text_of 0 inverter_file ≡ inverter_written
unfolding digits
inverter_text_is_written = refl

pub inverter_in_order : IsOrdered inverter_file
inverter_in_order = record { model = inverter_model; one_model = refl; no_fault = refl }

pub backward_out_of_order : order_fault backward_file ≡ Some (unordered 4)
backward_out_of_order = refl

-- the values of the inverter while its register holds this bit
abbrev turning : Bool → Name → Bool
turning bit n = if same_name n (codes "q") then bit else not bit

pub inverter_runs : FreeRun inverter_file ([] ∷ [] ∷ []) ((false ∷ []) ∷ (true ∷ []) ∷ (false ∷ []) ∷ []) ((false ∷ []) ∷ (true ∷ []) ∷ [])
inverter_runs = (
  refl,
  true ∷ [],
  record {
    values = turning false;
    agrees = record { inputs = refl; latches = (refl, tt); gates = (refl, tt) };
    outputs = refl;
    stores = refl;
  },
  (
    refl,
    false ∷ [],
    record {
      values = turning true;
      agrees = record { inputs = refl; latches = (refl, tt); gates = (refl, tt) };
      outputs = refl;
      stores = refl;
    },
    refl,
  ),
)
