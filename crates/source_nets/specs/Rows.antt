-- Lists of name numbers as parts of one list.
use Rattle.std.specs.Prelude.{◌≤◌, List, map, length, slice_range}
use Rattle.std.specs.List.{AllByRecursion}
use Rattle.imp_text.specs.declared.names.NameId.{NameId}
use Rattle.source_nets.specs.declared.rows.Span.{Span}

abbrev pub rows_in : List NameId → List Span → List (List NameId)
rows_in ids spans = map (λ (s : Span). slice_range ids s.start s.end) spans

-- Each part is within the list.
abbrev pub AreSpans : List NameId → List Span → Type 0
AreSpans ids spans = AllByRecursion (λ (s : Span). (s.start ≤ s.end) × (s.end ≤ length ids)) spans
