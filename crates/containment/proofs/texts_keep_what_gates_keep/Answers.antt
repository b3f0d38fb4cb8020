use Rattle.netlist_spec.specs.Runs.{IsMoving, IsSteady, IsWithin}
use Rattle.containment.specs.Nets.{AreMoving, AreSteady, AreWithin}
use Rattle.containment.proofs.Text.{faithful_text, detecting_text, correcting_text, twice_text, within_nets, steady_nets, moving_nets}
use Rattle.containment.proofs.texts_keep_what_gates_keep.Goals as goal

pub returns : goal.returns
returns k = λ file source library m machine g code l text. record {
  faithful = λ faithful. faithful_text file source library m machine text.is_main text.means g text.net text.written code l faithful;
  detects_within = λ t detects. detecting_text file source library m machine text.is_main text.means g text.net text.written code l (IsWithin t) (AreWithin t) (within_nets text.net t) detects;
  detects_steady = λ t detects. detecting_text file source library m machine text.is_main text.means g text.net text.written code l (IsSteady t) (AreSteady t) (steady_nets text.net t) detects;
  detects_moving = λ t detects. detecting_text file source library m machine text.is_main text.means g text.net text.written code l (IsMoving t) (AreMoving t) (moving_nets text.net t) detects;
  corrects_within = λ t corrects. correcting_text file source library m machine text.is_main text.means g text.net text.written code l t (IsWithin t) (AreWithin t) (within_nets text.net t) corrects;
  corrects_steady = λ t corrects. correcting_text file source library m machine text.is_main text.means g text.net text.written code l t (IsSteady t) (AreSteady t) (steady_nets text.net t) corrects;
  corrects_moving = λ t corrects. correcting_text file source library m machine text.is_main text.means g text.net text.written code l t (IsMoving t) (AreMoving t) (moving_nets text.net t) corrects;
  contains_twice = λ t s twice. twice_text file source library m machine g text code l t s twice;
}
