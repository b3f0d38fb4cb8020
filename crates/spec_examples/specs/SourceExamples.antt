-- A source that places a model.
use Rattle.std.specs.Prelude.{[], ◌∷◌, codes}
use Rattle.netlist_spec.specs.Netlist.{Statement, names, subckt, Model, File}
use Rattle.spec_examples.specs.Examples.{bound, ports_on, buffer_cover}

-- a model that copies its input, and one that places it
abbrev pub copying_model : Model
copying_model =
    record {
      name = codes "s";
      line = 6;
      names = codes "p" ∷ codes "q" ∷ [];
      inputs = ports_on 7 (codes "p" ∷ []);
      outputs = ports_on 8 (codes "q" ∷ []);
      clocks = [];
      statements = record { line = 9; what = names (codes "p" ∷ []) (codes "q") buffer_cover } ∷ [];
    }

abbrev pub placing_statement : Statement
placing_statement = subckt (codes "s") (bound (codes "p") (codes "a") ∷ bound (codes "q") (codes "y") ∷ [])

abbrev pub placing_model : Model
placing_model =
    record {
      name = codes "r";
      line = 1;
      names = codes "a" ∷ codes "y" ∷ [];
      inputs = ports_on 2 (codes "a" ∷ []);
      outputs = ports_on 3 (codes "y" ∷ []);
      clocks = [];
      statements = record { line = 4; what = placing_statement } ∷ [];
    }

abbrev pub placing_file : File
placing_file = record { models = placing_model ∷ copying_model ∷ [] }
