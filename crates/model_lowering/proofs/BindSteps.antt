-- One word of a `.subckt`.
use Rattle.std.proofs.Common.{◌≡◌, sym, ◌∙◌, ap, ℕ, ◌+◌, ◌<◌, suc, List, ◌∷◌, length, map, drop, get_or}
use Rattle.std.specs.Prelude.{if◌then◌else◌}
use Rattle.std.proofs.Math.Seq.{drop-cons}
use Rattle.std.proofs.Common.{add-one}
use Rattle.netlist_spec.specs.Netlist.{Name, stands_in}
use Rattle.blif_read.specs.declared.file.Bind.{Bind as ReadBind}
use Rattle.blif_read.specs.View.{name_at, bind_of}
use Rattle.lowering.specs.Nets.{net_in}
use Rattle.model_lowering.specs.Binds.{note, given_inside, answered_outside}

first_left : (binds : List ReadBind) (i : ℕ) (b : ReadBind) → i < length binds → b ≡ get_or binds i b → drop i binds ≡ b ∷ drop (i + 1) binds
first_left binds i b within is = rw add-one (drop-cons binds i b within ∙ ap (λ (x : ReadBind). x ∷ drop (suc i) binds) (sym is))

pub given_step : (outer inner : List Name) (table : List ℕ) (binds : List ReadBind) (i : ℕ) (b : ReadBind) (inside : List ℕ) → i < length binds → b ≡ get_or binds i b
    → given_inside outer inner table (map (bind_of outer) (drop (i + 1) binds)) (note inner b.formal (net_in outer table (name_at outer b.actual)) inside)
    ≡ given_inside outer inner table (map (bind_of outer) (drop i binds)) inside
given_step outer inner table binds i b inside within is =
    sym (ap (λ (bs : List ReadBind). given_inside outer inner table (map (bind_of outer) bs) inside) (first_left binds i b within is))

pub answered_step : (outer inner ports : List Name) (inside : List ℕ) (binds : List ReadBind) (i : ℕ) (b : ReadBind) (table : List ℕ) → i < length binds → b ≡ get_or binds i b
    → answered_outside outer inner ports inside (map (bind_of outer) (drop (i + 1) binds))
    (if stands_in b.formal ports then note outer (name_at outer b.actual) (net_in inner inside b.formal) table else table)
    ≡ answered_outside outer inner ports inside (map (bind_of outer) (drop i binds)) table
answered_step outer inner ports inside binds i b table within is =
    sym (ap (λ (bs : List ReadBind). answered_outside outer inner ports inside (map (bind_of outer) bs) table) (first_left binds i b within is))
