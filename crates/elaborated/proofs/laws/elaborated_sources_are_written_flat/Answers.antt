use Rattle.std.proofs.Common.{◌≡◌, Some}
use Rattle.netlist_spec.specs.Netlist.{Model, File}
use Rattle.netlist_spec.specs.Covers.{Library}
use Rattle.netlist_spec.specs.FileRules.{IsFile}
use Rattle.netlist_spec.specs.Models.{main_model}
use Rattle.netlist_spec.specs.Sound.{IsMain, IsSound}
use Rattle.netlist_spec.specs.Elaborated.{Elaborated, IsElaborated}
use Rattle.elaborated.specs.Flat.{StandsForSource}
use Rattle.elaborated.proofs.FlatIsFlat.{main-of, stands-for, sound-alike}
use Rattle.elaborated.proofs.laws.elaborated_sources_are_written_flat.Goals as goal

stands : (file : File) (library : Library) (e : Elaborated) → IsFile file → IsSound file library → ((m : Model) → IsMain file m → IsElaborated file library m e) → (m : Model) × StandsForSource file library m e
stands file library e is_file sound each =
    let main = main-of file is_file.some_model in
    (main.0, stands-for file library main.0 e main.1 (sound-alike file library main.0 sound main.1) (each main.0 main.1))

pub returns-clause-flat : goal.returns-clause-flat
returns-clause-flat c file library e g is_file sound each named is =
    let s = stands file library e is_file sound each in
    c.flat_netlists_are_flat.ensures.flat file library s.0 e g s.1 named is

pub returns-clause-flat_text : goal.returns-clause-flat_text
returns-clause-flat_text c netlist file library e g reads is_file sound each named is =
    let s = stands file library e is_file sound each in
    c.flat_netlists_are_flat.ensures.flat_text netlist file library s.0 e g reads s.1 named is
