-- What is known of the statements so far.
use Rattle.std.proofs.Common.{◌≡◌, map, take}
use Rattle.std.specs.List.{AllByRecursion, AllZip}
use Rattle.netlist_spec.specs.Sound.{reads, drives}
use Rattle.blif_read.specs.declared.file.Located.{Located}
use Rattle.blif_read.specs.Ids.{IsIdOf}
use Rattle.blif_read.specs.View.{name_at, statement_of}
use Rattle.source_nets.specs.Ports.{source_file, source_library}
use Rattle.source_nets.specs.Survey.{Means, IsMeaningIn}
use Rattle.source_nets.proofs.models.survey_model.Given as goal

abbrev pub invariant-loop-s : goal.invariant-loop-s
invariant-loop-s l =
    record {
      means : AllZip (λ (s : Located) found. Means (source_file l.source) (source_library l.source) (statement_of l.m.names s.what) found) (take l.s-index l.s-items) l.meanings.items;
      within : AllByRecursion (IsMeaningIn (source_file l.source) (source_library l.source)) l.meanings.items;
      reads : map (map (name_at l.m.names)) l.reads ≡ map (λ (s : Located). reads (source_file l.source) (source_library l.source) (statement_of l.m.names s.what)) (take l.s-index l.s-items);
      drives : map (map (name_at l.m.names)) l.drives ≡ map (λ (s : Located). drives (source_file l.source) (source_library l.source) (statement_of l.m.names s.what)) (take l.s-index l.s-items);
      reads_within : AllByRecursion (AllByRecursion (IsIdOf l.m.names)) l.reads;
      drives_within : AllByRecursion (AllByRecursion (IsIdOf l.m.names)) l.drives;
    }
