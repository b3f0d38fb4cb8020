-- Names that are numbered one after another.
use Rattle.std.proofs.Common.{◌≡◌, ℕ, zero, suc, ◌+◌, ◌<◌, List, [], ◌∷◌, ◌++◌, length, map, take, get_or, slice_get, Some, Bool, refl, sym, ap, ◌∙◌, add-one, arith}
use Rattle.std.specs.List.{AllByRecursion}
use Rattle.std.proofs.lemmas.Option.{get_or_from_slice_get}
use Rattle.netlist_spec.specs.Netlist.{Name, edge}
use Rattle.netlist_spec.specs.Written.{Named, ports_from}
use Rattle.imp_text.specs.declared.names.NameId.{NameId}
use Rattle.blif_read.specs.declared.file.Port.{Port as ReadPort}
use Rattle.blif_read.specs.declared.file.Clocking.{Clocking as ReadClocking}
use Rattle.blif_read.specs.declared.file.Clocking.TheVariants.{Edge}
use Rattle.blif_read.specs.Ids.{IsIdOf}
use Rattle.blif_read.specs.View.{name_at, port_of, clocking_of}
use Rattle.blif_read.proofs.SpelledLemmas.{name-is}
use Rattle.blif_write.specs.Numbers.{ports_numbered}

-- Ports.

ports_step : (line : ℕ) (ids : List NameId) (i : ℕ) (d : NameId) → i < length ids → ports_numbered line (take (suc i) ids) ≡ ports_numbered line (take i ids) ++ record { name = get_or ids i d; line = line + i } ∷ []
ports_step line [] i d h = absurd (omega arith)
ports_step line (id ∷ ids) zero d h =
    let place : line ≡ line + 0 = omega arith in
    ap (λ (k : ℕ). record { name = id; line = k } ∷ []) place
ports_step line (id ∷ ids) (suc i) d h =
    let place : (line + 1) + i ≡ line + suc i = omega arith in
    ap (λ (l : List ReadPort). record { name = id; line = line } ∷ l) (ports_step (line + 1) ids i d (omega arith))
    ∙ ap (λ (k : ℕ). (record { name = id; line = line } ∷ ports_numbered (line + 1) (take i ids)) ++ record { name = get_or ids i d; line = k } ∷ []) place

pub ports-step : (line : ℕ) (ids : List NameId) (i : ℕ) (d : NameId) → i < length ids → ports_numbered line (take (i + 1) ids) ≡ ports_numbered line (take i ids) ++ record { name = get_or ids i d; line = line + i } ∷ []
ports-step line ids i d h = rw add-one (ports_step line ids i d h)

-- with their names
pub ports-named : (all : List Name) (line : ℕ) (ids : List NameId) → map (port_of all) (ports_numbered line ids) ≡ ports_from line (map (name_at all) ids)
ports-named all line [] = refl
ports-named all line (id ∷ ids) = ap (λ l. record { name = name_at all id; line = line } ∷ l) (ports-named all (line + 1) ids)

pub ports-within : (all : List Name) (line : ℕ) (ids : List NameId) → AllByRecursion (IsIdOf all) ids → AllByRecursion (λ (port : ReadPort). IsIdOf all port.name) (ports_numbered line ids)
ports-within all line [] h = tt
ports-within all line (id ∷ ids) h = (h.0, ports-within all (line + 1) ids h.1)

-- The control.

pub control-name : (g : Named) (names : List Name) (clocking : ReadClocking) (rising : Bool) (id : NameId) (name : Name) → clocking_of names clocking ≡ g.clocking → clocking ≡ Edge rising (Some id) → slice_get names id.0 ≡ Some name → edge rising (Some name) ≡ g.clocking
control-name g names clocking rising id name view is at =
    ap (λ (n : Name). edge rising (Some n)) (sym (get_or_from_slice_get names id.0 name [] at)) ∙ ap (clocking_of names) (sym is) ∙ view

pub control-same : (g : Named) (all : List Name) (rising : Bool) (control : NameId) (name : Name) → edge rising (Some name) ≡ g.clocking → slice_get all control.0 ≡ Some name → (more : List Name) → clocking_of (all ++ more) (Edge rising (Some control)) ≡ g.clocking
control-same g all rising control name is at more = ap (λ (n : Name). edge rising (Some n)) (name-is all more control name at) ∙ is
