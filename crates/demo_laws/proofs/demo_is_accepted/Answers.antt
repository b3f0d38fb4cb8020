use Rattle.std.proofs.Common.{lit≤}
use Rattle.demo_laws.specs.DemoFiles.{demo_settings_text}
use Rattle.demo_laws.proofs.TextLength.{demo_is_short}
use Rattle.demo_laws.proofs.Ports.{text_is_read}
use Rattle.demo_laws.proofs.Verdict.{demo_is_accepted}
use Rattle.demo_laws.proofs.demo_is_accepted.Goals as goal

pub returns : goal.returns
returns c =
    record {
      pair = λ n contents settings netlist text size. demo_is_accepted n size contents settings netlist text;
      texts = λ n contents settings netlist size held netlist_held. demo_is_accepted n size contents settings netlist demo_settings_text held (lit≤ tt) text_is_read netlist_held;
      short = demo_is_short;
    }
