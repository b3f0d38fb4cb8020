use Rattle.std.proofs.Common.{◌∙◌, ap, map}
use Rattle.netlist_spec.specs.Netlist.{Model, are_distinct}
use Rattle.netlist_spec.specs.Covers.{NamedTable, NamedLinear}
use Rattle.blif_read.specs.declared.file.Model.{Model as ReadModel}
use Rattle.blif_read.specs.View.{model_of}
use Rattle.sbox_table.specs.Named.{named_table_of}
use Rattle.linear_layer.specs.Named.{named_linear_of}
use Rattle.source_nets.proofs.SurveyLemmas.{mapped_twice}
use Rattle.source_nets.proofs.catalog.Catalog.new.Goals as goal

pub returns : goal.returns
returns c =
    let models = c.in_ok-model_index.ensures ∙ ap (map (λ (m : ReadModel). m.name)) c.deref.ensures.value in
    record {
      models = models ∙ mapped_twice (λ (m : Model). m.name) model_of c.args.file.now.models.items;
      tables = c.in_ok-table_index.ensures ∙ mapped_twice (λ (t : NamedTable). t.name) named_table_of c.args.tables.now;
      linears = c.in_ok-linear_index.ensures ∙ mapped_twice (λ (l : NamedLinear). l.name) named_linear_of c.args.linears.now;
      distinct_models = ap are_distinct models ∙ c.requires.models;
      distinct_tables = ap are_distinct c.in_ok-table_index.ensures ∙ c.requires.tables;
      distinct_linears = ap are_distinct c.in_ok-linear_index.ensures ∙ c.requires.linears;
    }
