-- Small netlists are audited.
use Rattle.std.proofs.Common.{◌≡◌, refl, ◌<◌, ◌≤◌, List, [], ◌∷◌, ◌++◌, map, take, drop, length, codes, true, Some, inl, inr, lit<, lit≤}
use Rattle.std.specs.List.{AllZip}
use Rattle.netlist_spec.specs.Lines.{Line, logical_lines}
use Rattle.netlist_spec.specs.Netlist.{Name, plain}
use Rattle.netlist_spec.specs.Ordered.{has_subckt}
use Rattle.netlist_spec.specs.Reads.{Numbered, IsWithinLimits, Reads}
use Rattle.netlist_spec.specs.Statements.{Says, EachMayFollow, model_line, inputs_line, outputs_line, latch_line, names_line, row_line, subckt_line, end_line}
use Rattle.program_spec.specs.Commands.{audit}
use Rattle.program_spec.specs.Refusals.{out_of_order}
use Rattle.program_spec.specs.Verdict.{IsVerdict, IsDoneText, IsFoundText}
use Rattle.program_spec.specs.Walk.{passes, refused}
use Rattle.spec_examples.specs.Examples.{two_latches}
use Rattle.program_examples.specs.ProgramExamples.{audited_contents, placing_file, two_latches_text}
use Rattle.program_examples.proofs.SmallTexts.{independent_is_printed, finding_is_printed}

-- What the lines of that text say, with the net that the second latch stores: of its name only the length counts.
abbrev latch_lines : Name → List Line
latch_lines d =
    take 4 (logical_lines (two_latches_text (codes "n")))
    ++ record { number = 5; words = codes ".latch" ∷ d ∷ codes "b" ∷ codes "0" ∷ [] } ∷ drop 5 (logical_lines (two_latches_text (codes "n")))

abbrev latches_said : Name → List Numbered
latches_said d =
    (1, model_line (codes "h")) ∷ (2, inputs_line (codes "x" ∷ [])) ∷ (3, outputs_line (codes "y" ∷ []))
    ∷ (4, latch_line (codes "n") (codes "a") plain (Some 0)) ∷ (5, latch_line d (codes "b") plain (Some 0))
    ∷ (6, names_line (codes "x" ∷ []) (codes "n")) ∷ (7, row_line (Some true ∷ []) true)
    ∷ (8, names_line (codes "a" ∷ codes "b" ∷ []) (codes "y")) ∷ (9, row_line (Some true ∷ Some true ∷ []) true) ∷ (10, end_line) ∷ []

latches_are_said : (d : Name) → (0 < length d) × (length d ≤ 255) → AllZip (λ line n. (line.number ≡ n.0) × Says line n.1) (latch_lines d) (latches_said d)
latches_are_said d short = (
  (refl, (refl, (lit< tt, lit≤ tt))),
  (
    (refl, (refl, ((lit< tt, lit≤ tt), tt))),
    (
      (refl, (refl, ((lit< tt, lit≤ tt), tt))),
      (
        (refl, (refl, ((lit< tt, lit≤ tt), (lit< tt, lit≤ tt), tt, lit< tt))),
        (
          (refl, (refl, (short, (lit< tt, lit≤ tt), tt, lit< tt))),
          (
            (refl, (refl, (((lit< tt, lit≤ tt), tt), (lit< tt, lit≤ tt)))),
            (
              (refl, (refl, tt)),
              ((refl, (refl, (((lit< tt, lit≤ tt), ((lit< tt, lit≤ tt), tt)), (lit< tt, lit≤ tt)))), ((refl, (refl, tt)), ((refl, (refl, tt)), tt))),
            ),
          ),
        ),
      ),
    ),
  ),
)

latches_are_ordered : (d : Name) → EachMayFollow (map (λ n. n.1) (latches_said d))
latches_are_ordered d = (tt, (tt, (tt, (tt, (tt, (refl, (tt, (refl, (tt, tt)))))))))

latches_are_within : (d : Name) → IsWithinLimits (record { models = two_latches d ∷ [] })
latches_are_within d =
    record {
      models = (record { covers = (tt, (tt, (lit≤ tt, (lit≤ tt, tt)))); inputs = lit≤ tt; outputs = lit≤ tt; clocks = lit≤ tt; latches = lit≤ tt }, tt);
      statements = lit≤ tt;
    }

shared_reads : Reads (two_latches_text (codes "n")) (record { models = two_latches (codes "n") ∷ [] })
shared_reads =
    record {
      lines = latches_said (codes "n");
      cases = latches_are_said (codes "n") (lit< tt, lit≤ tt);
      begins = tt;
      order = latches_are_ordered (codes "n");
      models = refl;
      distinct = refl;
      limits = latches_are_within (codes "n");
    }

apart_reads : Reads (two_latches_text (codes "x")) (record { models = two_latches (codes "x") ∷ [] })
apart_reads =
    record {
      lines = latches_said (codes "x");
      cases = latches_are_said (codes "x") (lit< tt, lit≤ tt);
      begins = tt;
      order = latches_are_ordered (codes "x");
      models = refl;
      distinct = refl;
      limits = latches_are_within (codes "x");
    }

pub placing_reads : Reads (codes ".model m\n.subckt s\n") placing_file
placing_reads =
    record {
      lines = (1, model_line (codes "m")) ∷ (2, subckt_line (codes "s") []) ∷ [];
      cases = ((refl, (refl, (lit< tt, lit≤ tt))), ((refl, (refl, ((lit< tt, lit≤ tt), tt))), tt));
      begins = tt;
      order = (tt, tt);
      models = refl;
      distinct = refl;
      limits = record {
        models = (record { covers = (tt, tt); inputs = lit≤ tt; outputs = lit≤ tt; clocks = lit≤ tt; latches = lit≤ tt }, tt);
        statements = lit≤ tt;
      };
    }

pub shared_is_found : IsVerdict (audit (codes "shared.blif")) audited_contents passes × IsFoundText (audit (codes "shared.blif")) audited_contents (codes "shared n latch a latch b\n")
shared_is_found = (
  inr (lit≤ tt, inl (record { models = two_latches (codes "n") ∷ [] }, shared_reads, inl (tt, refl, inl (two_latches (codes "n"), refl, refl)))),
  record { file = record { models = two_latches (codes "n") ∷ [] }; reads = shared_reads; is_text = finding_is_printed },
)

pub apart_is_done : IsVerdict (audit (codes "apart.blif")) audited_contents passes
    × IsDoneText (audit (codes "apart.blif")) audited_contents (codes "independent 4\na latch a\nb latch b\nn latch a\ny output y\n")
apart_is_done = (
  inr (lit≤ tt, inl (record { models = two_latches (codes "x") ∷ [] }, apart_reads, inl (tt, refl, inl (two_latches (codes "x"), refl, refl)))),
  record { file = record { models = two_latches (codes "x") ∷ [] }; reads = apart_reads; is_text = independent_is_printed },
)

pub placing_is_refused : IsVerdict (audit (codes "placing.blif")) audited_contents (refused (out_of_order (has_subckt 2)))
placing_is_refused =
    inr (lit≤ tt, inl (placing_file, placing_reads, inr (out_of_order (has_subckt 2), (has_subckt 2, refl, refl), refl)))
