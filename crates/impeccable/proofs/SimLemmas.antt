-- The steps of `sim`: where it stands after each, what stops it there, and the cycles of a simulation.
use Rattle.std.proofs.Math.Seq.{take-length}
use Rattle.std.proofs.lemmas.List.{length-take-le, take_more}
use Rattle.std.proofs.lemmas.Option.{get_or_from_slice_get, slice_get_within}
use Rattle.std.proofs.Common.{◌≡◌, ℕ, ◌+◌, ◌<◌, ◌≤◌, List, [], ◌∷◌, ◌++◌, length, take, Ok, Err, Some, None, refl, sym, subst, ap, ◌∙◌, inr, append-nil, arith}
use Rattle.std.specs.Prelude.{Option, IsSome, IsSomeAnd, Result, slice_get}
use Rattle.std.proofs.lemmas.Grind.{flat_map-append}
use Rattle.imp_io.specs.Files.{FilesSeen, IsLater, bytes_at}
use Rattle.netlist_spec.specs.Netlist.{Name, Model, File}
use Rattle.netlist_spec.specs.Models.{main_model, data_inputs}
use Rattle.netlist_spec.specs.Ordered.{IsOrdered, OrderFault, order_fault, cell_nets}
use Rattle.netlist_spec.specs.Reads.{Reads}
use Rattle.netlist_spec.specs.Runs.{Fault, Run, forced_at}
use Rattle.netlist_spec.specs.SourceRun.{Bits, Stream}
use Rattle.netlist_spec.specs.Values.{Forced}
use Rattle.stimulus_spec.specs.Stimulus.{ScriptFault, bad_script, no_such_cell, more_than_sixteen, script_of, stimulus_of}
use Rattle.line_order.specs.Faults.{IsFault}
use Rattle.sim_text.specs.Rows.{Rows}
use Rattle.fault_script.specs.declared.fault.ScriptFault.{ScriptFault as ToldFault}
use Rattle.fault_script.specs.declared.fault.ScriptFault.TheVariants.{BadScript, NoSuchCell, MoreThanSixteen, NoMemory as NoScript}
use Rattle.fault_script.specs.Faults.{IsScriptFault, fault_of as said_of}
use Rattle.fault_script.specs.Scripts.{HasFaults, Scripted, faults_in}
use Rattle.fault_sim.specs.Faults.{named_faults}
use Rattle.fault_sim.specs.HasRun.{HasRun}
use Rattle.fault_sim.specs.Simulated.{CycleUnder, HasModel, Simulated, Simulates}
use Rattle.program_spec.specs.Commands.{sim, netlist_limit, other_limit}
use Rattle.program_spec.specs.Printed.{IsRunText, bits_text, outputs_text, run_text}
use Rattle.program_spec.specs.Refusals.{bad_script_line, out_of_order}
use Rattle.program_spec.specs.ErrorLines.{Answer, refused}
use Rattle.program_spec.specs.Walk.{Walk, end, load, test}
use Rattle.program_spec.specs.Steps.{gives, reading, script_in}
use Rattle.program_spec.specs.Verdict.{IsSimText, walk_of}
use Rattle.impeccable.specs.declared.ended.Stop.{Stop}
use Rattle.impeccable.specs.declared.sim.Simulation.{Simulation}
use Rattle.impeccable.specs.Ended.{fault_answer, stop_answer}
use Rattle.impeccable.specs.Loads.{StopsLoad, WhereHeld}
use Rattle.impeccable.specs.Sim.{IsCycle, IsSame, IsTextOfRun, Ran}
use Rattle.impeccable.specs.Steps.{Passed, Stops}
use Rattle.impeccable.proofs.OrderedLemmas.{IsHeld, of_file, file-read, file-ordered, file-unread, file-unordered, reads}
use Rattle.impeccable.proofs.LoadsLemmas.{held-earlier, held-loaded, stops-earlier, tested-passes, tested-stops}
use Rattle.impeccable.proofs.StepLemmas.{starts}
use Rattle.impeccable.proofs.StimulusLemmas.{of_stimulus}

-- what is left of the walk behind the stimulus and behind the order of lines
abbrev pub of_script : List ℕ → Model → Walk
of_script script m = load script other_limit (λ lines. test (List Fault) (script_in m lines) (λ faults. end))

abbrev pub of_order : List ℕ → List ℕ → Model → Walk
of_order stimulus script m = of_stimulus stimulus (of_script script m) m

-- what was made of the netlist stands for what its test finds
pub read : (n s t : List ℕ) (old : FilesSeen) (file : File) → (found : File) × (file ≡ found) × IsHeld old n found → Passed old (walk_of (sim n s t)) (of_file (of_order s t) file)
read n s t old file made = file-read (sim n s t) n (of_order s t) old file (starts old (walk_of (sim n s t))) (reads n old file made)

pub in-order : (n s t : List ℕ) (old : FilesSeen) (file : File) (ordered : IsOrdered file) → Passed old (walk_of (sim n s t)) (of_file (of_order s t) file) → Passed old (walk_of (sim n s t)) (of_order s t ordered.model)
in-order n s t old file ordered p = file-ordered (sim n s t) n (of_order s t) old file ordered p

-- the script of a later load, for the cells of the model
pub faulty : (t : List ℕ) (old mid : FilesSeen) (cells : List Name) (m : Model) (faults : List Fault) → IsLater old mid → cells ≡ cell_nets m → WhereHeld mid t (λ bytes. (length bytes ≤ other_limit) × (script_of cells bytes ≡ Ok faults))
    → WhereHeld old t (λ bytes. (length bytes ≤ other_limit) × (script_of (cell_nets m) bytes ≡ Ok faults))
faulty t old mid cells m faults later is held =
    held-earlier old mid t (λ bytes. (length bytes ≤ other_limit) × (script_of (cell_nets m) bytes ≡ Ok faults)) later
    (subst (λ (k : List Name). WhereHeld mid t (λ bytes. (length bytes ≤ other_limit) × (script_of k bytes ≡ Ok faults))) is held)

pub scripted : (n s t : List ℕ) (old : FilesSeen) (m : Model) (faults : List Fault) → Passed old (walk_of (sim n s t)) (of_script t m) → WhereHeld old t (λ bytes. (length bytes ≤ other_limit) × (script_of (cell_nets m) bytes ≡ Ok faults)) → Passed old (walk_of (sim n s t)) end
scripted n s t old m faults p held = tested-passes old (walk_of (sim n s t)) t other_limit (List Fault) (script_in m) (λ fs. end) faults p held

-- ---- what stops it

pub unread : (n s t : List ℕ) (old new : FilesSeen) (stop : Stop) → StopsLoad File old n netlist_limit reading (stop_answer stop) new → Stops (sim n s t) old stop new
unread n s t old new stop h = file-unread (sim n s t) n (of_order s t) old new stop (starts old (walk_of (sim n s t))) h

pub out-of-order : (n s t : List ℕ) (old new : FilesSeen) (file : File) (fault : Option OrderFault) (stop : Stop) → Passed old (walk_of (sim n s t)) (of_file (of_order s t) file) → IsFault (order_fault file) fault → stop_answer stop ≡ fault_answer OrderFault out_of_order fault → Stops (sim n s t) old stop new
out-of-order n s t old new file fault stop p h = file-unordered (sim n s t) n (of_order s t) old new file fault stop p h

pub not-scripted : (n s t : List ℕ) (old mid new : FilesSeen) (cells : List Name) (m : Model) (stop : Stop) → Passed old (walk_of (sim n s t)) (of_script t m) → IsLater old mid → cells ≡ cell_nets m
    → StopsLoad (List Fault) mid t other_limit (λ bytes. gives (List Fault) ScriptFault (script_of cells bytes) bad_script_line) (stop_answer stop) new → Stops (sim n s t) old stop new
not-scripted n s t old mid new cells m stop p later is h =
    tested-stops (sim n s t) old new t other_limit (List Fault) (script_in m) (λ faults. end) stop p
    (stops-earlier (List Fault) old mid new t other_limit (script_in m) (stop_answer stop) later
    (subst (λ (k : List Name). StopsLoad (List Fault) mid t other_limit (λ bytes. gives (List Fault) ScriptFault (script_of k bytes) bad_script_line) (stop_answer stop) new) is h))

-- the reading of a script
abbrev Refused : (List ℕ → Result (List Fault) ScriptFault) → ScriptFault → List ℕ → Type 0
Refused said fault b = (length b ≤ other_limit) × ((f : ScriptFault) × (said b ≡ Err f) × (bad_script_line fault ≡ bad_script_line f))

said-stops : (old new : FilesSeen) (name : List ℕ) (cells : List Name) (bytes : List ℕ) (fault : ScriptFault) (answer : Answer) → length bytes ≤ other_limit → (IsSome old.told → bytes_at old.told name ≡ Some bytes) → script_of cells bytes ≡ Err fault → answer ≡ refused (bad_script_line fault)
    → StopsLoad (List Fault) old name other_limit (λ b. gives (List Fault) ScriptFault (script_of cells b) bad_script_line) answer new
said-stops old new name cells bytes fault answer short at h is =
    subst (λ a. StopsLoad (List Fault) old name other_limit (λ b. gives (List Fault) ScriptFault (script_of cells b) bad_script_line) a new) (sym is)
    (inr (tt, held-loaded old name bytes (Refused (script_of cells) fault) at (short, (fault, h, refl))))

pub script-stops : (old new : FilesSeen) (name : List ℕ) (cells : List Name) (bytes : List ℕ) (fault : ToldFault) (answer : Answer) → length bytes ≤ other_limit → (IsSome old.told → bytes_at old.told name ≡ Some bytes) → IsScriptFault (script_of cells bytes) fault → answer ≡ fault_answer ScriptFault bad_script_line (said_of fault)
    → StopsLoad (List Fault) old name other_limit (λ b. gives (List Fault) ScriptFault (script_of cells b) bad_script_line) answer new
script-stops old new name cells bytes (BadScript line) answer short at h is = said-stops old new name cells bytes (bad_script line) answer short at h is
script-stops old new name cells bytes (NoSuchCell line) answer short at h is = said-stops old new name cells bytes (no_such_cell line) answer short at h is
script-stops old new name cells bytes (MoreThanSixteen line) answer short at h is = said-stops old new name cells bytes (more_than_sixteen line) answer short at h is
script-stops old new name cells bytes NoScript answer short at h is =
    subst (λ a. StopsLoad (List Fault) old name other_limit (λ b. gives (List Fault) ScriptFault (script_of cells b) bad_script_line) a new) (sym is) tt

-- ---- the text

-- what is held of the three files makes the text of their run
pub is-sim-text : (netlist stimulus script : Option (List ℕ)) (file : File) (m : Model) (xs : Stream) (faults : List Fault) (text : List ℕ) → main_model file ≡ Some m → IsRunText file xs faults text → IsSomeAnd netlist (λ bytes. (length bytes ≤ netlist_limit) × Reads bytes file)
    → IsSomeAnd stimulus (λ bytes. (length bytes ≤ other_limit) × (stimulus_of (length (data_inputs m)) bytes ≡ Ok xs)) → IsSomeAnd script (λ bytes. (length bytes ≤ other_limit) × (script_of (cell_nets m) bytes ≡ Ok faults))
    → IsSomeAnd netlist (λ bytes. IsSomeAnd stimulus (λ rows. IsSomeAnd script (λ entries. IsSimText bytes rows entries text)))
is-sim-text None stimulus script file m xs faults text main run a b c = absurd a
is-sim-text (Some bytes) None script file m xs faults text main run a b c = absurd b
is-sim-text (Some bytes) (Some rows) None file m xs faults text main run a b c = absurd c
is-sim-text (Some bytes) (Some rows) (Some entries) file m xs faults text main run a b c =
    record { file = file; reads = a.1; model = m; is_main = main; xs = xs; is_stream = b.1; faults = faults; is_script = c.1; is_run = run }

-- ---- cycles

-- the file that was simulated still is
pub still : (file : File) (s t : Simulated) → t ≡ record s { stored = t.stored } → Simulates file s → Simulates file t
still file s t same h =
    record {
      is_file = h.is_file;
      ordered = h.ordered;
      model = subst (HasModel h.ordered.model) (sym same) (record { inputs = h.model.inputs; shown = h.model.shown; stores = h.model.stores; inits = h.model.inits; gates = h.model.gates; outputs = h.model.outputs; cells = h.model.cells });
    }

-- what holds of one more cycle of a run
abbrev pub Further : Type 0
Further =
    (file : File) (s : Simulated) (simulates : Simulates file s) (faults : List Fault) (xs : Stream) (outs : List Bits) (x y after : Bits) → HasRun file faults xs outs s.stored
    → CycleUnder simulates.ordered.model (forced_at (length xs) faults) x s.stored y after → HasRun file faults (xs ++ x ∷ []) (outs ++ y ∷ []) after

-- the faults that a script has for a cycle, where the cycles before it were taken
forced-at : (cells now : List Name) (faults : List Fault) (first script : Scripted) (c k : ℕ) → now ≡ cells → script ≡ first → k ≡ c → HasFaults cells faults first → named_faults now (faults_in script c) ≡ forced_at k faults
forced-at cells now faults first script c k same is count has =
    ap (λ (names : List Name). named_faults names (faults_in script c)) same
    ∙ ap (λ (s : Scripted). named_faults cells (faults_in s c)) is
    ∙ has.each_cycle c
    ∙ ap (λ (j : ℕ). forced_at j faults) (sym count)

pub same-cycle : (old mid new : Simulation) → IsSame old mid → IsSame mid new → IsSame old new
same-cycle old mid new p q = record {
  netlist = q.netlist ∙ ap (λ (s : Simulated). record s { stored = new.sim.stored }) p.netlist;
  stimulus = q.stimulus ∙ p.stimulus;
  script = q.script ∙ p.script;
  fits = q.fits;
}

pub ran-more : Further → (old mid new : Simulation) (c : ℕ) (outs : List Bits) → Ran old c outs mid → IsCycle mid c new → Ran old (c + 1) (outs ++ new.outputs.items ∷ []) new
ran-more further old mid new c outs ran step = record {
  run = λ file faults simulates has.
      let now = still file old.sim mid.sim ran.same.netlist simulates in
      let here : slice_get old.stimulus.cycles c ≡ Some step.x = ap (λ (s : Rows). slice_get s.cycles c) (sym ran.same.stimulus) ∙ step.is_row in
      let inside : c < length old.stimulus.cycles = slice_get_within old.stimulus.cycles c step.x here in
      let count : length (take c old.stimulus.cycles) ≡ c = length-take-le c old.stimulus.cycles (omega (arith, inside)) in
      let cells : mid.sim.cells ≡ old.sim.cells = ap (λ (s : Simulated). s.cells) ran.same.netlist in
      let more : take (c + 1) old.stimulus.cycles ≡ take c old.stimulus.cycles ++ step.x ∷ [] = take_more old.stimulus.cycles c [] inside ∙ ap (λ (x : Bits). take c old.stimulus.cycles ++ x ∷ []) (get_or_from_slice_get old.stimulus.cycles c step.x [] here) in
      subst (λ (xs : Stream). HasRun file faults xs (outs ++ new.outputs.items ∷ []) new.sim.stored) (sym more)
      (further file mid.sim now faults (take c old.stimulus.cycles) outs step.x new.outputs.items new.sim.stored (ran.run file faults simulates has)
      (subst (λ (f : Forced). CycleUnder now.ordered.model f step.x mid.sim.stored new.outputs.items new.sim.stored)
      (forced-at old.sim.cells mid.sim.cells faults old.script mid.script c (length (take c old.stimulus.cycles)) cells ran.same.script count has) (step.cycle file now)));
  same = same-cycle old mid new ran.same step.same;
}

-- the text of all cycles
pub ran-whole : (old new : Simulation) (outs : List Bits) → Ran old (length old.stimulus.cycles) outs new → IsTextOfRun old (run_text outs)
ran-whole old new outs ran = λ file faults simulates has.
    let h = ran.run file faults simulates has in
    record { states = h.states ++ new.sim.stored ∷ []; outs = outs; is_run = subst (λ (xs : Stream). Run file xs faults (h.states ++ new.sim.stored ∷ []) outs) (take-length old.stimulus.cycles) h.is_run; is_text = refl }

-- the line of one more cycle
pub line-more : (outs : List Bits) (y : Bits) → run_text outs ++ (outputs_text y ++ 10 ∷ []) ≡ run_text (outs ++ y ∷ [])
line-more outs y =
    sym (flat_map-append (λ (z : Bits). outputs_text z ++ 10 ∷ []) outs (y ∷ []) ∙ ap (λ (l : List ℕ). run_text outs ++ l) (append-nil (outputs_text y ++ 10 ∷ [])))

-- a line of at least one output
pub some-line : (bits : Bits) → 0 < length bits → bits_text bits ≡ outputs_text bits
some-line [] some = absurd (omega (arith, some))
some-line (b ∷ bits) some = refl
