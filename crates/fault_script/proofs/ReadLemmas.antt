-- The lines of a script that have been read.
use Rattle.std.proofs.Common.{◌≡◌, ◌≢◌, refl, sym, ◌∙◌, ap, arith, ℕ, List, [], ◌∷◌, ◌++◌, Bool, true, false, cond, Option, None, Some, slice_get}
use Rattle.std.specs.Prelude.{Result, Ok, Err}
use Rattle.netlist_spec.specs.Lines.{Line, plain_lines}
use Rattle.netlist_spec.specs.Netlist.{Name, are_distinct, stands_in}
use Rattle.netlist_spec.specs.Runs.{Fault}
use Rattle.stimulus_spec.specs.Stimulus.{ScriptFault as SaidFault, bad_script, no_such_cell, script_entry, entry_fault, go_on, with_entry, script_from, script_of}
use Rattle.imp_text.specs.Reading.{Reading}
use Rattle.imp_text.specs.Tokens.{words_at}
use Rattle.imp_text.specs.declared.token.Token.{Token}
use Rattle.fault_sim.specs.declared.faults.CellFault.{CellFault}
use Rattle.fault_script.specs.declared.fault.ScriptFault.{ScriptFault}
use Rattle.fault_script.specs.declared.fault.ScriptFault.TheVariants.{BadScript, NoSuchCell, MoreThanSixteen, NoMemory}
use Rattle.fault_script.specs.Faults.{IsLineFault, IsScriptFault}
use Rattle.fault_script.specs.Refusals.{cell_fault}
use Rattle.fault_script.specs.Scripts.{Scripted, HasFaults, IsScript, faults_in}
use Rattle.fault_script.proofs.ListLemmas.{has_more, fault_by_number}

-- The script has what the lines so far say, and the others are left.
pub record IsSoFar (cells : List Name) (bytes : List ℕ) (reading : Reading) (s : Scripted) : Type 0 where
  pub source : reading.source ≡ bytes
  pub earlier : List Fault
  pub has : HasFaults cells earlier s
  pub goes_on : script_of cells bytes ≡ script_from cells earlier reading.left

-- the next line, by the words that were copied, and its entry
pub record IsNext (old new : Reading) (n : ℕ) (tokens copied : List Token) : Type 0 where
  pub left : old.left ≡ record { number = n; words = words_at old.source tokens } ∷ new.left
  pub source : new.source ≡ old.source
  pub copy : copied ≡ tokens

pub so_far_at_start : (cells : List Name) (bytes : List ℕ) (reading : Reading) (s : Scripted) → reading ≡ record { source = bytes; left = plain_lines bytes } → ((c : ℕ) → faults_in s c ≡ []) → IsSoFar cells bytes reading s
so_far_at_start cells bytes reading s e none = record {
  source = ap (λ (r : Reading). r.source) e;
  earlier = [];
  has = record { each_cycle = λ c. rw (none c) refl; exist = λ c. rw (none c) (λ k d inside. absurd (omega arith)) };
  goes_on = ap (λ (r : Reading). script_from cells [] r.left) (sym e);
}

module _ (cells : List Name) (bytes : List ℕ) (old new : Reading) (s : Scripted) (n : ℕ) (tokens copied : List Token) (is : IsSoFar cells bytes old s) (next : IsNext old new n tokens copied) where
  -- what is read from the next line on
  from_next : (e : Option Fault) → script_entry (words_at bytes copied) ≡ e → script_of cells bytes ≡ with_entry cells is.earlier n e (λ a. script_from cells (is.earlier ++ a ∷ []) new.left)
  from_next e q =
      let words : words_at old.source tokens ≡ words_at bytes copied = ap (λ s. words_at s tokens) is.source ∙ ap (words_at bytes) (sym next.copy) in
      is.goes_on
      ∙ (ap (script_from cells is.earlier) next.left
      ∙ ap (λ o. with_entry cells is.earlier n o (λ a. script_from cells (is.earlier ++ a ∷ []) new.left)) (ap script_entry words ∙ q))

  -- a line that is no entry
  pub no_entry : script_entry (words_at bytes copied) ≡ None → script_of cells bytes ≡ Err (bad_script n)
  no_entry q = from_next None q

  module _ (a : Fault) (entry : script_entry (words_at bytes copied) ≡ Some a) where
    -- a name that no cell has
    pub no_cell : stands_in a.cell cells ≡ false → script_of cells bytes ≡ Err (no_such_cell n)
    no_cell absent = from_next (Some a) entry ∙ ap (λ (o : Option SaidFault). go_on o (script_from cells (is.earlier ++ a ∷ []) new.left)) told
      where
        told : entry_fault cells is.earlier n a ≡ Some (no_such_cell n)
        told = rw absent refl

    module _ (f : CellFault) (distinct : are_distinct cells ≡ true) (cell : slice_get cells f.cell.0 ≡ Some a.cell) where
      by_number : script_of cells bytes ≡ go_on (cell_fault (faults_in s a.cycle) f n) (script_from cells (is.earlier ++ a ∷ []) new.left)
      by_number =
          from_next (Some a) entry
          ∙ ap (λ (o : Option SaidFault). go_on o (script_from cells (is.earlier ++ a ∷ []) new.left)) (fault_by_number cells is.earlier s is.has a f cell distinct n)

      stops : (later : Result (List Fault) SaidFault) (o : Option SaidFault) (said : SaidFault) → script_of cells bytes ≡ go_on o later → o ≡ Some said → script_of cells bytes ≡ Err said
      stops later o said h e = h ∙ ap (λ (p : Option SaidFault). go_on p later) e

      -- a fault that does not fit beside the earlier ones
      pub line_fails : (fault : ScriptFault) → IsLineFault (cell_fault (faults_in s a.cycle) f n) fault → IsScriptFault (script_of cells bytes) fault
      line_fails (BadScript line) h = stops _ _ _ by_number h
      line_fails (NoSuchCell line) h = stops _ _ _ by_number h
      line_fails (MoreThanSixteen line) h = stops _ _ _ by_number h
      line_fails NoMemory h = tt

      -- one more line
      pub line_fits : (after : Scripted) → f.value ≡ a.bit → cell_fault (faults_in s a.cycle) f n ≡ None → faults_in after a.cycle ≡ faults_in s a.cycle ++ f ∷ [] → ((c : ℕ) → c ≢ a.cycle → faults_in after c ≡ faults_in s c) → IsSoFar cells bytes new after
      line_fits after bit fits here others = record {
        source = next.source ∙ is.source;
        earlier = is.earlier ++ a ∷ [];
        has = has_more cells is.earlier s is.has a f cell after bit here others;
        goes_on = by_number ∙ ap (λ (o : Option SaidFault). go_on o (script_from cells (is.earlier ++ a ∷ []) new.left)) fits;
      }

-- behind the last line
pub script_at_end : (cells : List Name) (bytes : List ℕ) (reading : Reading) (s : Scripted) → IsSoFar cells bytes reading s → reading.left ≡ [] → IsScript cells (script_of cells bytes) s
script_at_end cells bytes reading s is left =
    record { faults = is.earlier; is_said = is.goes_on ∙ ap (script_from cells is.earlier) left; has = is.has }
