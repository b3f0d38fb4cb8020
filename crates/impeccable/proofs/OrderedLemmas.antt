-- The steps of a command over a netlist whose cells can be computed line by line: where it stands after them, and what stops it there.
use Rattle.std.proofs.Common.{◌≡◌, ℕ, ◌≤◌, List, length, Some, None, refl, sym, subst, ap, ◌∙◌}
use Rattle.std.specs.Prelude.{Option}
use Rattle.imp_io.specs.Files.{FilesSeen}
use Rattle.netlist_spec.specs.Netlist.{Model, File}
use Rattle.netlist_spec.specs.Models.{main_model, first_model}
use Rattle.netlist_spec.specs.Ordered.{IsOrdered, OrderFault, order_fault}
use Rattle.netlist_spec.specs.Reads.{Reads}
use Rattle.line_order.specs.Faults.{IsFault}
use Rattle.program_spec.specs.Commands.{Command, netlist_limit}
use Rattle.program_spec.specs.Refusals.{out_of_order}
use Rattle.program_spec.specs.Walk.{Walk, load, test}
use Rattle.program_spec.specs.Steps.{Nothing, main_of, order_of, reading}
use Rattle.program_spec.specs.Verdict.{walk_of}
use Rattle.impeccable.specs.declared.ended.Stop.{Stop}
use Rattle.impeccable.specs.Ended.{fault_answer, stop_answer}
use Rattle.impeccable.specs.Loads.{StopsLoad, WhereHeld}
use Rattle.impeccable.specs.Steps.{Passed, Stops}
use Rattle.impeccable.proofs.LoadsLemmas.{tested-passes, tested-stops}
use Rattle.impeccable.proofs.StepLemmas.{test-passes, fault-stops}

-- what is left of the walk before the load and behind the reading, where the rest goes on with the main model
abbrev pub of_file : (Model → Walk) → File → Walk
of_file next file = test Nothing (order_of file) (λ ordered. test Model (main_of file) next)

abbrev pub of_netlist : List ℕ → (Model → Walk) → Walk
of_netlist n next = load n netlist_limit (λ bytes. test File (reading bytes) (of_file next))

-- the netlist is held and read as this file
abbrev pub IsHeld : FilesSeen → List ℕ → File → Type 0
IsHeld old n file = WhereHeld old n (λ bytes. (length bytes ≤ netlist_limit) × Reads bytes file)

pub is-main : (file : File) (ordered : IsOrdered file) → main_model file ≡ Some ordered.model
is-main file ordered = ap first_model ordered.one_model

-- what was made of the netlist stands for what its test finds
pub reads : (n : List ℕ) (old : FilesSeen) (file : File) → (found : File) × (file ≡ found) × IsHeld old n found → IsHeld old n file
reads n old file (found, same, held) = subst (λ (f : File). IsHeld old n f) (sym same) held

is-order-fault : (file : File) (fault : Option OrderFault) → IsFault (order_fault file) fault → (f : OrderFault) → fault ≡ Some f → order_fault file ≡ Some f
is-order-fault file None h f e = absurd (cc)
is-order-fault file (Some g) h f e = h ∙ e

module _ (command : Command) (n : List ℕ) (next : Model → Walk) (old : FilesSeen) where
  pub file-read : (file : File) → Passed old (walk_of command) (of_netlist n next) → IsHeld old n file → Passed old (walk_of command) (of_file next file)
  file-read file p held = tested-passes old (walk_of command) n netlist_limit File reading (of_file next) file p held

  pub file-ordered : (file : File) (ordered : IsOrdered file) → Passed old (walk_of command) (of_file next file) → Passed old (walk_of command) (next ordered.model)
  file-ordered file ordered p =
      test-passes old (walk_of command) Model (main_of file) next ordered.model
      (test-passes old (walk_of command) Nothing (order_of file) (λ ordered. test Model (main_of file) next) tt p ordered.no_fault)
      (is-main file ordered)

  pub file-unread : (new : FilesSeen) (stop : Stop) → Passed old (walk_of command) (of_netlist n next) → StopsLoad File old n netlist_limit reading (stop_answer stop) new → Stops command old stop new
  file-unread new stop p h = tested-stops command old new n netlist_limit File reading (of_file next) stop p h

  pub file-unordered : (new : FilesSeen) (file : File) (fault : Option OrderFault) (stop : Stop) → Passed old (walk_of command) (of_file next file) → IsFault (order_fault file) fault → stop_answer stop ≡ fault_answer OrderFault out_of_order fault → Stops command old stop new
  file-unordered new file fault stop p h =
      fault-stops command old new Nothing OrderFault (order_of file) (λ ordered. test Model (main_of file) next) out_of_order fault stop p (λ f e. (f, is-order-fault file fault h f e, refl)) (λ f. tt)
