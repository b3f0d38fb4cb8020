use Rattle.std.proofs.Common.{◌≡◌, sym, ap, ◌∙◌}
use Rattle.netlist_spec.specs.ReadFaults.{kind_of, inputs_kind, outputs_kind, clock_kind}
use Rattle.blif_read.specs.Kinds.{kind_in}
use Rattle.blif_read.specs.LineTests.{line_of}
use Rattle.blif_read.proofs.BuildingLemmas.{inputs_more, outputs_more, clocks_more, on_ok, on_ok_both, few_words}
use Rattle.blif_read.proofs.model.ModelSoFar.add_other.Goals as goal

pub returns-in-Inputs-clause-adds : goal.returns-in-Inputs-clause-adds
returns-in-Inputs-clause-adds c =
    let kind : kind_of (line_of c.args.line.now) ≡ inputs_kind = sym c.requires.fits.is_line.kind ∙ ap kind_in c.in-Inputs.is in
    on_ok_both _ _ _ c.add_ports.result
    (inputs_more c.args.self.now.model c.args.self.now.cover (line_of c.args.line.now) c.add_ports.new.names c.add_ports.new.ports kind c.requires.no_cover)
    c.add_ports.ensures.names c.add_ports.ensures.ports

pub returns-in-Inputs-clause-few : goal.returns-in-Inputs-clause-few
returns-in-Inputs-clause-few c =
    on_ok _ _ c.add_ports.result (few_words c.args.self.now.model.names c.add_ports.new.names c.args.line.now.words.now) c.add_ports.ensures.names

pub returns-in-Outputs-clause-adds : goal.returns-in-Outputs-clause-adds
returns-in-Outputs-clause-adds c =
    let kind : kind_of (line_of c.args.line.now) ≡ outputs_kind = sym c.requires.fits.is_line.kind ∙ ap kind_in c.in-Outputs.is in
    on_ok_both _ _ _ c.add_ports-in-Outputs.result
    (outputs_more c.args.self.now.model c.args.self.now.cover (line_of c.args.line.now) c.add_ports-in-Outputs.new.names c.add_ports-in-Outputs.new.ports kind c.requires.no_cover)
    c.add_ports-in-Outputs.ensures.names c.add_ports-in-Outputs.ensures.ports

pub returns-in-Outputs-clause-few : goal.returns-in-Outputs-clause-few
returns-in-Outputs-clause-few c =
    on_ok _ _ c.add_ports-in-Outputs.result (few_words c.args.self.now.model.names c.add_ports-in-Outputs.new.names c.args.line.now.words.now) c.add_ports-in-Outputs.ensures.names

pub returns-in-Clock-clause-adds : goal.returns-in-Clock-clause-adds
returns-in-Clock-clause-adds c =
    let kind : kind_of (line_of c.args.line.now) ≡ clock_kind = sym c.requires.fits.is_line.kind ∙ ap kind_in c.in-Clock.is in
    on_ok_both _ _ _ c.add_ports-in-Clock.result
    (clocks_more c.args.self.now.model c.args.self.now.cover (line_of c.args.line.now) c.add_ports-in-Clock.new.names c.add_ports-in-Clock.new.ports kind c.requires.no_cover)
    c.add_ports-in-Clock.ensures.names c.add_ports-in-Clock.ensures.ports

pub returns-in-Clock-clause-few : goal.returns-in-Clock-clause-few
returns-in-Clock-clause-few c =
    on_ok _ _ c.add_ports-in-Clock.result (few_words c.args.self.now.model.names c.add_ports-in-Clock.new.names c.args.line.now.words.now) c.add_ports-in-Clock.ensures.names
