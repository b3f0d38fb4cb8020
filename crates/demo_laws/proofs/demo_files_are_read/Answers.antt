use Rattle.demo_laws.proofs.Ports.{inputs_are, outputs_are, input_count, text_is_read, settings_are}
use Rattle.demo_laws.proofs.Stimulus.{stimulus_is_read}
use Rattle.netlist_spec.specs.Models.{data_inputs}
use Rattle.demo_laws.specs.DemoFile.{demo_model}
use Rattle.std.proofs.Common.{length}
use Rattle.demo_laws.proofs.demo_files_are_read.Goals as goal

pub returns : goal.returns
returns c =
    record {
      settings = text_is_read;
      are_settings = settings_are;
      ports = λ n. (inputs_are n, outputs_are n);
      stimulus = λ n. stimulus_is_read n (length (data_inputs (demo_model n))) (input_count n);
    }
