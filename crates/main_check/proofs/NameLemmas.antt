-- The first reserved name, list by list.
use Rattle.std.proofs.Common.{◌≡◌, refl, sym, ◌∙◌, ap, slice_get, List, [], ◌∷◌, ◌++◌, map, find, filter_map, Bool, true, false, cond, Option, Some, None, append-nil}
use Rattle.std.specs.Bool.{then_some}
use Rattle.std.specs.List.{cons_option, flat_map}
use Rattle.std.specs.Option.{option_or}
use Rattle.std.proofs.lemmas.List.Folds.{find-append}
use Rattle.std.proofs.lemmas.Option.{get_or_from_slice_get}
use Rattle.netlist_spec.specs.Lines.{ends_with_backslash}
use Rattle.netlist_spec.specs.Netlist.{Name, is_reserved, Model}
use Rattle.netlist_spec.specs.Placed.{port_names}
use Rattle.netlist_spec.specs.Models.{latch_outputs}
use Rattle.netlist_spec.specs.Sound.{written_names}
use Rattle.blif_read.specs.declared.file.Port.{Port}
use Rattle.blif_read.specs.declared.file.Located.{Located}
use Rattle.blif_read.specs.View.{name_at, port_of, statement_of}
use Rattle.line_order.proofs.TableLemmas.{ports_named}
use Rattle.line_order.specs.Marks.{latch_output_of}
use Rattle.main_check.specs.Reserved.{outputs_of}
use Rattle.main_check.proofs.Firsts.{first_some}

abbrev pub reserved_at : List Name → Port → Option Name
reserved_at all port = then_some (is_reserved (name_at all port.name)) (name_at all port.name)

pub ports_are : (all : List Name) (ports : List Port) → first_some (reserved_at all) ports ≡ find is_reserved (map (λ (port : Port). name_at all port.name) ports)
ports_are all [] = refl
ports_are all (p ∷ ps) = ap (option_or (reserved_at all p)) (ports_are all ps) ∙ one (name_at all p.name) _ (is_reserved (name_at all p.name))
  where
    one : (n : Name) (rest : Option Name) (r : Bool) → option_or (then_some r n) rest ≡ cond r (Some n) rest
    one n rest true = refl
    one n rest false = refl

pub outputs_are : (all : List Name) (ss : List Located) → first_some (λ (s : Located). find is_reserved (latch_output_of (statement_of all s.what))) ss ≡ find is_reserved (outputs_of all ss)
outputs_are all [] = refl
outputs_are all (s ∷ ss) =
    ap (option_or (find is_reserved (latch_output_of (statement_of all s.what)))) (outputs_are all ss)
    ∙ sym (find-append is_reserved (latch_output_of (statement_of all s.what)) (outputs_of all ss))

-- four lists, one after another
pub parts_are : (m : Model) → find is_reserved (written_names m)
    ≡ option_or (option_or (option_or (find is_reserved (port_names m.inputs)) (find is_reserved (port_names m.clocks))) (find is_reserved (port_names m.outputs))) (find is_reserved (latch_outputs m))
parts_are m =
    find-append is_reserved ((port_names m.inputs ++ port_names m.clocks) ++ port_names m.outputs) (latch_outputs m)
    ∙ ap (λ o. option_or o (find is_reserved (latch_outputs m)))
    (find-append is_reserved (port_names m.inputs ++ port_names m.clocks) (port_names m.outputs)
    ∙ ap (λ o. option_or o (find is_reserved (port_names m.outputs))) (find-append is_reserved (port_names m.inputs) (port_names m.clocks)))

-- which of four parts is the whole
pub by_parts : (a b c d whole : Option Name) → whole ≡ option_or (option_or (option_or a b) c) d
    → ((n : Name) → a ≡ Some n → whole ≡ Some n) × ((n : Name) → a ≡ None → b ≡ Some n → whole ≡ Some n)
    × ((n : Name) → a ≡ None → b ≡ None → c ≡ Some n → whole ≡ Some n) × (a ≡ None → b ≡ None → c ≡ None → whole ≡ d)
by_parts a b c d whole e = (
  λ n p. e ∙ ap (λ o. option_or (option_or (option_or o b) c) d) p,
  λ n p q. e ∙ (ap (λ o. option_or (option_or (option_or o b) c) d) p ∙ ap (λ o. option_or (option_or o c) d) q),
  λ n p q r. e ∙ (ap (λ o. option_or (option_or (option_or o b) c) d) p ∙ (ap (λ o. option_or (option_or o c) d) q ∙ ap (λ o. option_or o d) r)),
  λ p q r. e ∙ (ap (λ o. option_or (option_or (option_or o b) c) d) p ∙ (ap (λ o. option_or (option_or o c) d) q ∙ ap (λ o. option_or o d) r)),
)

pub model_first : (m : Model) (b : Bool) (rest : Option Name) → b ≡ true → Some m.name ≡ option_or (then_some b m.name) rest
model_first m b rest e = ap (λ (x : Bool). option_or (then_some x m.name) rest) (sym e)

pub net_next : (name : Name) (b : Bool) (rest : Option Name) → b ≡ false → rest ≡ option_or (then_some b name) rest
net_next name b rest e = ap (λ (x : Bool). option_or (then_some x name) rest) (sym e)

-- what the test of a port tells
pub reserved_told_at : (all : List Name) (port : Port) (n : Name) (told b : Bool) → slice_get all port.name.0 ≡ Some n → told ≡ is_reserved n → told ≡ b → reserved_at all port ≡ then_some b (name_at all port.name)
reserved_told_at all port n told b found e f =
    ap (λ (x : Bool). then_some x (name_at all port.name)) (ap is_reserved (get_or_from_slice_get all port.name.0 n [] found) ∙ (sym e ∙ f))

-- what is found among ports that were read
pub ports_found : (all : List Name) (slice ports : List Port) (o : Option Name) → slice ≡ ports → o ≡ find is_reserved (map (λ (port : Port). name_at all port.name) slice) → o ≡ find is_reserved (port_names (map (port_of all) ports))
ports_found all slice ports o same e = e ∙ ap (find is_reserved) (ap (map (λ (port : Port). name_at all port.name)) same ∙ ports_named all ports)
