use Rattle.std.proofs.Common.{◌≡◌, ℕ, ◌+◌, List, [], ◌∷◌, ◌++◌, length, map, subst, sym, ap, ◌∙◌, arith}
use Rattle.std.specs.Result.{IfOk}
use Rattle.std.specs.List.{AllByRecursion, flat_map}
use Rattle.std.proofs.lemmas.List.{length-map}
use Rattle.netlist_spec.specs.Netlist.{Name, IsName, Model}
use Rattle.netlist_spec.specs.Reads.{first_appearances, statement_nets}
use Rattle.netlist_spec.specs.Text.{text_of}
use Rattle.netlist_spec.specs.Written.{Named, IsNamed, file_of as named_file, net_name, output_names, ports_from, latch_statements, gate_statements, statements_from}
use Rattle.gate_net.specs.Gate.{net_number}
use Rattle.blif_read.specs.View.{file_of, located_of, model_of, name_at, port_of}
use Rattle.blif_read.specs.declared.file.Model.{Model as ReadModel}
use Rattle.blif_write.specs.Numbers.{ports_numbered}
use Rattle.netlist_spec.proofs.ReadFiles.{reads_file}
use Rattle.blif_write.proofs.FileLemmas.{all-names, file-where, is-small, later-three, later-two, names-long, ports-at, same-model, statements-at}
use Rattle.named_netlist.proofs.WrittenModel.{written_model}
use Rattle.named_netlist.proofs.NamedReads.{texts-are-read}
use Rattle.named_netlist.proofs.NetLemmas.{clocks-are, inputs-are, outputs-here}
use Rattle.blif_read.proofs.SpelledLemmas.{length-numbers}
use Rattle.blif_write.proofs.file.as_file.Goals as goal

pub given_numbers-requires-clause-are_names : goal.given_numbers-requires-clause-are_names
given_numbers-requires-clause-are_names c =
    let named = subst IsNamed c.g.view_is c.g.invariant.named in
    let small = is-small c.args.g.now named in
    let inputs = ap (λ (h : Named). h.inputs) c.g.view_is in
    let outputs = ap (λ (h : Named). h.outputs) c.g.view_is in
    let clocks = ap (λ (h : Named). h.clocks) c.g.view_is in
    let name = name_at c.g.inside.names in
    let i_are : map name c.deref.result.now ≡ c.args.g.now.inputs = ap (map name) c.deref.ensures.value ∙ inputs in
    let i_long : length c.deref.result.now ≡ length c.args.g.now.inputs = sym (length-map c.deref.result.now name) ∙ ap length i_are in
    subst (λ (l : List Name). AllByRecursion IsName l) (sym i_are) (inputs-are c.args.g.now named)

pub given_numbers-requires-clause-room : goal.given_numbers-requires-clause-room
given_numbers-requires-clause-room c =
    let named = subst IsNamed c.g.view_is c.g.invariant.named in
    let small = is-small c.args.g.now named in
    let inputs = ap (λ (h : Named). h.inputs) c.g.view_is in
    let outputs = ap (λ (h : Named). h.outputs) c.g.view_is in
    let clocks = ap (λ (h : Named). h.clocks) c.g.view_is in
    let name = name_at c.g.inside.names in
    let i_are : map name c.deref.result.now ≡ c.args.g.now.inputs = ap (map name) c.deref.ensures.value ∙ inputs in
    let i_long : length c.deref.result.now ≡ length c.args.g.now.inputs = sym (length-map c.deref.result.now name) ∙ ap length i_are in
    omega (arith, small.inputs, i_long, ap length c.new-names.ensures)

pub net_numbers-requires-clause-nets : goal.net_numbers-requires-clause-nets
net_numbers-requires-clause-nets c =
    let named = subst IsNamed c.g.view_is c.g.invariant.named in
    let small = is-small c.args.g.now named in
    let inputs = ap (λ (h : Named). h.inputs) c.g.view_is in
    let outputs = ap (λ (h : Named). h.outputs) c.g.view_is in
    let clocks = ap (λ (h : Named). h.clocks) c.g.view_is in
    let name = name_at c.g.inside.names in
    let i_are : map name c.deref.result.now ≡ c.args.g.now.inputs = ap (map name) c.deref.ensures.value ∙ inputs in
    let i_long : length c.deref.result.now ≡ length c.args.g.now.inputs = sym (length-map c.deref.result.now name) ∙ ap length i_are in
    let o_are : map net_number c.deref-2.result.now ≡ c.args.g.now.outputs = ap (map net_number) c.deref-2.ensures.value ∙ outputs in
    let o_long : length c.deref-2.result.now ≡ length c.args.g.now.outputs = sym (length-map c.deref-2.result.now net_number) ∙ ap length o_are in
    let n1 = names-long c.new-names.result c.given_numbers.new.names (map name c.deref.result.now) c.in_ok-inputs.ensures.names in
    let n0 = ap length c.new-names.ensures in
    let i_map = length-map c.deref.result.now name in
    outputs-here c.args.g.now c.deref-2.result.now named o_are

pub net_numbers-requires-clause-room : goal.net_numbers-requires-clause-room
net_numbers-requires-clause-room c =
    let named = subst IsNamed c.g.view_is c.g.invariant.named in
    let small = is-small c.args.g.now named in
    let inputs = ap (λ (h : Named). h.inputs) c.g.view_is in
    let outputs = ap (λ (h : Named). h.outputs) c.g.view_is in
    let clocks = ap (λ (h : Named). h.clocks) c.g.view_is in
    let name = name_at c.g.inside.names in
    let i_are : map name c.deref.result.now ≡ c.args.g.now.inputs = ap (map name) c.deref.ensures.value ∙ inputs in
    let i_long : length c.deref.result.now ≡ length c.args.g.now.inputs = sym (length-map c.deref.result.now name) ∙ ap length i_are in
    let o_are : map net_number c.deref-2.result.now ≡ c.args.g.now.outputs = ap (map net_number) c.deref-2.ensures.value ∙ outputs in
    let o_long : length c.deref-2.result.now ≡ length c.args.g.now.outputs = sym (length-map c.deref-2.result.now net_number) ∙ ap length o_are in
    let n1 = names-long c.new-names.result c.given_numbers.new.names (map name c.deref.result.now) c.in_ok-inputs.ensures.names in
    let n0 = ap length c.new-names.ensures in
    let i_map = length-map c.deref.result.now name in
    omega (arith, small.inputs, small.outputs)

pub given_numbers-requires-2-clause-are_names : goal.given_numbers-requires-2-clause-are_names
given_numbers-requires-2-clause-are_names c =
    let named = subst IsNamed c.g.view_is c.g.invariant.named in
    let small = is-small c.args.g.now named in
    let inputs = ap (λ (h : Named). h.inputs) c.g.view_is in
    let outputs = ap (λ (h : Named). h.outputs) c.g.view_is in
    let clocks = ap (λ (h : Named). h.clocks) c.g.view_is in
    let name = name_at c.g.inside.names in
    let i_are : map name c.deref.result.now ≡ c.args.g.now.inputs = ap (map name) c.deref.ensures.value ∙ inputs in
    let i_long : length c.deref.result.now ≡ length c.args.g.now.inputs = sym (length-map c.deref.result.now name) ∙ ap length i_are in
    let o_are : map net_number c.deref-2.result.now ≡ c.args.g.now.outputs = ap (map net_number) c.deref-2.ensures.value ∙ outputs in
    let o_long : length c.deref-2.result.now ≡ length c.args.g.now.outputs = sym (length-map c.deref-2.result.now net_number) ∙ ap length o_are in
    let n1 = names-long c.new-names.result c.given_numbers.new.names (map name c.deref.result.now) c.in_ok-inputs.ensures.names in
    let n0 = ap length c.new-names.ensures in
    let i_map = length-map c.deref.result.now name in
    let c_are : map name c.deref-3.result.now ≡ c.args.g.now.clocks = ap (map name) c.deref-3.ensures.value ∙ clocks in
    let c_long : length c.deref-3.result.now ≡ length c.args.g.now.clocks = sym (length-map c.deref-3.result.now name) ∙ ap length c_are in
    let o_names = map (net_name c.args.g.now) (map net_number c.deref-2.result.now) in
    let o_map : length o_names ≡ length c.deref-2.result.now = length-map (map net_number c.deref-2.result.now) (net_name c.args.g.now) ∙ length-map c.deref-2.result.now net_number in
    let n2 = names-long c.given_numbers.new.names c.net_numbers.new.names o_names c.in_ok-outputs.ensures.names in
    subst (λ (l : List Name). AllByRecursion IsName l) (sym c_are) (clocks-are c.args.g.now named)

pub given_numbers-requires-2-clause-room : goal.given_numbers-requires-2-clause-room
given_numbers-requires-2-clause-room c =
    let named = subst IsNamed c.g.view_is c.g.invariant.named in
    let small = is-small c.args.g.now named in
    let inputs = ap (λ (h : Named). h.inputs) c.g.view_is in
    let outputs = ap (λ (h : Named). h.outputs) c.g.view_is in
    let clocks = ap (λ (h : Named). h.clocks) c.g.view_is in
    let name = name_at c.g.inside.names in
    let i_are : map name c.deref.result.now ≡ c.args.g.now.inputs = ap (map name) c.deref.ensures.value ∙ inputs in
    let i_long : length c.deref.result.now ≡ length c.args.g.now.inputs = sym (length-map c.deref.result.now name) ∙ ap length i_are in
    let o_are : map net_number c.deref-2.result.now ≡ c.args.g.now.outputs = ap (map net_number) c.deref-2.ensures.value ∙ outputs in
    let o_long : length c.deref-2.result.now ≡ length c.args.g.now.outputs = sym (length-map c.deref-2.result.now net_number) ∙ ap length o_are in
    let n1 = names-long c.new-names.result c.given_numbers.new.names (map name c.deref.result.now) c.in_ok-inputs.ensures.names in
    let n0 = ap length c.new-names.ensures in
    let i_map = length-map c.deref.result.now name in
    let c_are : map name c.deref-3.result.now ≡ c.args.g.now.clocks = ap (map name) c.deref-3.ensures.value ∙ clocks in
    let c_long : length c.deref-3.result.now ≡ length c.args.g.now.clocks = sym (length-map c.deref-3.result.now name) ∙ ap length c_are in
    let o_names = map (net_name c.args.g.now) (map net_number c.deref-2.result.now) in
    let o_map : length o_names ≡ length c.deref-2.result.now = length-map (map net_number c.deref-2.result.now) (net_name c.args.g.now) ∙ length-map c.deref-2.result.now net_number in
    let n2 = names-long c.given_numbers.new.names c.net_numbers.new.names o_names c.in_ok-outputs.ensures.names in
    omega (arith, small.inputs, small.outputs, small.clocks)

pub overflow_cast-outputs_at : goal.overflow_cast-outputs_at
overflow_cast-outputs_at c =
    let named = subst IsNamed c.g.view_is c.g.invariant.named in
    let small = is-small c.args.g.now named in
    let inputs = ap (λ (h : Named). h.inputs) c.g.view_is in
    let outputs = ap (λ (h : Named). h.outputs) c.g.view_is in
    let clocks = ap (λ (h : Named). h.clocks) c.g.view_is in
    let name = name_at c.g.inside.names in
    let i_are : map name c.deref.result.now ≡ c.args.g.now.inputs = ap (map name) c.deref.ensures.value ∙ inputs in
    let i_long : length c.deref.result.now ≡ length c.args.g.now.inputs = sym (length-map c.deref.result.now name) ∙ ap length i_are in
    let o_are : map net_number c.deref-2.result.now ≡ c.args.g.now.outputs = ap (map net_number) c.deref-2.ensures.value ∙ outputs in
    let o_long : length c.deref-2.result.now ≡ length c.args.g.now.outputs = sym (length-map c.deref-2.result.now net_number) ∙ ap length o_are in
    let n1 = names-long c.new-names.result c.given_numbers.new.names (map name c.deref.result.now) c.in_ok-inputs.ensures.names in
    let n0 = ap length c.new-names.ensures in
    let i_map = length-map c.deref.result.now name in
    let c_are : map name c.deref-3.result.now ≡ c.args.g.now.clocks = ap (map name) c.deref-3.ensures.value ∙ clocks in
    let c_long : length c.deref-3.result.now ≡ length c.args.g.now.clocks = sym (length-map c.deref-3.result.now name) ∙ ap length c_are in
    let o_names = map (net_name c.args.g.now) (map net_number c.deref-2.result.now) in
    let o_map : length o_names ≡ length c.deref-2.result.now = length-map (map net_number c.deref-2.result.now) (net_name c.args.g.now) ∙ length-map c.deref-2.result.now net_number in
    let n2 = names-long c.given_numbers.new.names c.net_numbers.new.names o_names c.in_ok-outputs.ensures.names in
    let n3 = names-long c.net_numbers.new.names c.given_numbers-2.new.names (map name c.deref-3.result.now) c.in_ok-clocks.ensures.names in
    let c_map = length-map c.deref-3.result.now name in
    let i_ids = length-numbers c.given_numbers.new.names c.in_ok-inputs.inputs.items (map name c.deref.result.now) c.in_ok-inputs.ensures.numbers in
    let o_ids = length-numbers c.net_numbers.new.names c.in_ok-outputs.outputs.items o_names c.in_ok-outputs.ensures.numbers in
    let c_ids = length-numbers c.given_numbers-2.new.names c.in_ok-clocks.clocks.items (map name c.deref-3.result.now) c.in_ok-clocks.ensures.numbers in
    omega (arith, small.inputs, c.len.ensures)

pub overflow_add-outputs_at : goal.overflow_add-outputs_at
overflow_add-outputs_at c =
    let named = subst IsNamed c.g.view_is c.g.invariant.named in
    let small = is-small c.args.g.now named in
    let inputs = ap (λ (h : Named). h.inputs) c.g.view_is in
    let outputs = ap (λ (h : Named). h.outputs) c.g.view_is in
    let clocks = ap (λ (h : Named). h.clocks) c.g.view_is in
    let name = name_at c.g.inside.names in
    let i_are : map name c.deref.result.now ≡ c.args.g.now.inputs = ap (map name) c.deref.ensures.value ∙ inputs in
    let i_long : length c.deref.result.now ≡ length c.args.g.now.inputs = sym (length-map c.deref.result.now name) ∙ ap length i_are in
    let o_are : map net_number c.deref-2.result.now ≡ c.args.g.now.outputs = ap (map net_number) c.deref-2.ensures.value ∙ outputs in
    let o_long : length c.deref-2.result.now ≡ length c.args.g.now.outputs = sym (length-map c.deref-2.result.now net_number) ∙ ap length o_are in
    let n1 = names-long c.new-names.result c.given_numbers.new.names (map name c.deref.result.now) c.in_ok-inputs.ensures.names in
    let n0 = ap length c.new-names.ensures in
    let i_map = length-map c.deref.result.now name in
    let c_are : map name c.deref-3.result.now ≡ c.args.g.now.clocks = ap (map name) c.deref-3.ensures.value ∙ clocks in
    let c_long : length c.deref-3.result.now ≡ length c.args.g.now.clocks = sym (length-map c.deref-3.result.now name) ∙ ap length c_are in
    let o_names = map (net_name c.args.g.now) (map net_number c.deref-2.result.now) in
    let o_map : length o_names ≡ length c.deref-2.result.now = length-map (map net_number c.deref-2.result.now) (net_name c.args.g.now) ∙ length-map c.deref-2.result.now net_number in
    let n2 = names-long c.given_numbers.new.names c.net_numbers.new.names o_names c.in_ok-outputs.ensures.names in
    let n3 = names-long c.net_numbers.new.names c.given_numbers-2.new.names (map name c.deref-3.result.now) c.in_ok-clocks.ensures.names in
    let c_map = length-map c.deref-3.result.now name in
    let i_ids = length-numbers c.given_numbers.new.names c.in_ok-inputs.inputs.items (map name c.deref.result.now) c.in_ok-inputs.ensures.numbers in
    let o_ids = length-numbers c.net_numbers.new.names c.in_ok-outputs.outputs.items o_names c.in_ok-outputs.ensures.numbers in
    let c_ids = length-numbers c.given_numbers-2.new.names c.in_ok-clocks.clocks.items (map name c.deref-3.result.now) c.in_ok-clocks.ensures.numbers in
    omega (arith, small.inputs, c.len.ensures)

pub overflow_cast-clocks_at : goal.overflow_cast-clocks_at
overflow_cast-clocks_at c =
    let named = subst IsNamed c.g.view_is c.g.invariant.named in
    let small = is-small c.args.g.now named in
    let inputs = ap (λ (h : Named). h.inputs) c.g.view_is in
    let outputs = ap (λ (h : Named). h.outputs) c.g.view_is in
    let clocks = ap (λ (h : Named). h.clocks) c.g.view_is in
    let name = name_at c.g.inside.names in
    let i_are : map name c.deref.result.now ≡ c.args.g.now.inputs = ap (map name) c.deref.ensures.value ∙ inputs in
    let i_long : length c.deref.result.now ≡ length c.args.g.now.inputs = sym (length-map c.deref.result.now name) ∙ ap length i_are in
    let o_are : map net_number c.deref-2.result.now ≡ c.args.g.now.outputs = ap (map net_number) c.deref-2.ensures.value ∙ outputs in
    let o_long : length c.deref-2.result.now ≡ length c.args.g.now.outputs = sym (length-map c.deref-2.result.now net_number) ∙ ap length o_are in
    let n1 = names-long c.new-names.result c.given_numbers.new.names (map name c.deref.result.now) c.in_ok-inputs.ensures.names in
    let n0 = ap length c.new-names.ensures in
    let i_map = length-map c.deref.result.now name in
    let c_are : map name c.deref-3.result.now ≡ c.args.g.now.clocks = ap (map name) c.deref-3.ensures.value ∙ clocks in
    let c_long : length c.deref-3.result.now ≡ length c.args.g.now.clocks = sym (length-map c.deref-3.result.now name) ∙ ap length c_are in
    let o_names = map (net_name c.args.g.now) (map net_number c.deref-2.result.now) in
    let o_map : length o_names ≡ length c.deref-2.result.now = length-map (map net_number c.deref-2.result.now) (net_name c.args.g.now) ∙ length-map c.deref-2.result.now net_number in
    let n2 = names-long c.given_numbers.new.names c.net_numbers.new.names o_names c.in_ok-outputs.ensures.names in
    let n3 = names-long c.net_numbers.new.names c.given_numbers-2.new.names (map name c.deref-3.result.now) c.in_ok-clocks.ensures.names in
    let c_map = length-map c.deref-3.result.now name in
    let i_ids = length-numbers c.given_numbers.new.names c.in_ok-inputs.inputs.items (map name c.deref.result.now) c.in_ok-inputs.ensures.numbers in
    let o_ids = length-numbers c.net_numbers.new.names c.in_ok-outputs.outputs.items o_names c.in_ok-outputs.ensures.numbers in
    let c_ids = length-numbers c.given_numbers-2.new.names c.in_ok-clocks.clocks.items (map name c.deref-3.result.now) c.in_ok-clocks.ensures.numbers in
    omega (arith, small.inputs, small.outputs, c.len.ensures, c.len-2.ensures)

pub overflow_add-clocks_at : goal.overflow_add-clocks_at
overflow_add-clocks_at c =
    let named = subst IsNamed c.g.view_is c.g.invariant.named in
    let small = is-small c.args.g.now named in
    let inputs = ap (λ (h : Named). h.inputs) c.g.view_is in
    let outputs = ap (λ (h : Named). h.outputs) c.g.view_is in
    let clocks = ap (λ (h : Named). h.clocks) c.g.view_is in
    let name = name_at c.g.inside.names in
    let i_are : map name c.deref.result.now ≡ c.args.g.now.inputs = ap (map name) c.deref.ensures.value ∙ inputs in
    let i_long : length c.deref.result.now ≡ length c.args.g.now.inputs = sym (length-map c.deref.result.now name) ∙ ap length i_are in
    let o_are : map net_number c.deref-2.result.now ≡ c.args.g.now.outputs = ap (map net_number) c.deref-2.ensures.value ∙ outputs in
    let o_long : length c.deref-2.result.now ≡ length c.args.g.now.outputs = sym (length-map c.deref-2.result.now net_number) ∙ ap length o_are in
    let n1 = names-long c.new-names.result c.given_numbers.new.names (map name c.deref.result.now) c.in_ok-inputs.ensures.names in
    let n0 = ap length c.new-names.ensures in
    let i_map = length-map c.deref.result.now name in
    let c_are : map name c.deref-3.result.now ≡ c.args.g.now.clocks = ap (map name) c.deref-3.ensures.value ∙ clocks in
    let c_long : length c.deref-3.result.now ≡ length c.args.g.now.clocks = sym (length-map c.deref-3.result.now name) ∙ ap length c_are in
    let o_names = map (net_name c.args.g.now) (map net_number c.deref-2.result.now) in
    let o_map : length o_names ≡ length c.deref-2.result.now = length-map (map net_number c.deref-2.result.now) (net_name c.args.g.now) ∙ length-map c.deref-2.result.now net_number in
    let n2 = names-long c.given_numbers.new.names c.net_numbers.new.names o_names c.in_ok-outputs.ensures.names in
    let n3 = names-long c.net_numbers.new.names c.given_numbers-2.new.names (map name c.deref-3.result.now) c.in_ok-clocks.ensures.names in
    let c_map = length-map c.deref-3.result.now name in
    let i_ids = length-numbers c.given_numbers.new.names c.in_ok-inputs.inputs.items (map name c.deref.result.now) c.in_ok-inputs.ensures.numbers in
    let o_ids = length-numbers c.net_numbers.new.names c.in_ok-outputs.outputs.items o_names c.in_ok-outputs.ensures.numbers in
    let c_ids = length-numbers c.given_numbers-2.new.names c.in_ok-clocks.clocks.items (map name c.deref-3.result.now) c.in_ok-clocks.ensures.numbers in
    omega (arith, small.inputs, small.outputs, c.len.ensures, c.len-2.ensures)

pub overflow_cast-statements_at : goal.overflow_cast-statements_at
overflow_cast-statements_at c =
    let named = subst IsNamed c.g.view_is c.g.invariant.named in
    let small = is-small c.args.g.now named in
    let inputs = ap (λ (h : Named). h.inputs) c.g.view_is in
    let outputs = ap (λ (h : Named). h.outputs) c.g.view_is in
    let clocks = ap (λ (h : Named). h.clocks) c.g.view_is in
    let name = name_at c.g.inside.names in
    let i_are : map name c.deref.result.now ≡ c.args.g.now.inputs = ap (map name) c.deref.ensures.value ∙ inputs in
    let i_long : length c.deref.result.now ≡ length c.args.g.now.inputs = sym (length-map c.deref.result.now name) ∙ ap length i_are in
    let o_are : map net_number c.deref-2.result.now ≡ c.args.g.now.outputs = ap (map net_number) c.deref-2.ensures.value ∙ outputs in
    let o_long : length c.deref-2.result.now ≡ length c.args.g.now.outputs = sym (length-map c.deref-2.result.now net_number) ∙ ap length o_are in
    let n1 = names-long c.new-names.result c.given_numbers.new.names (map name c.deref.result.now) c.in_ok-inputs.ensures.names in
    let n0 = ap length c.new-names.ensures in
    let i_map = length-map c.deref.result.now name in
    let c_are : map name c.deref-3.result.now ≡ c.args.g.now.clocks = ap (map name) c.deref-3.ensures.value ∙ clocks in
    let c_long : length c.deref-3.result.now ≡ length c.args.g.now.clocks = sym (length-map c.deref-3.result.now name) ∙ ap length c_are in
    let o_names = map (net_name c.args.g.now) (map net_number c.deref-2.result.now) in
    let o_map : length o_names ≡ length c.deref-2.result.now = length-map (map net_number c.deref-2.result.now) (net_name c.args.g.now) ∙ length-map c.deref-2.result.now net_number in
    let n2 = names-long c.given_numbers.new.names c.net_numbers.new.names o_names c.in_ok-outputs.ensures.names in
    let n3 = names-long c.net_numbers.new.names c.given_numbers-2.new.names (map name c.deref-3.result.now) c.in_ok-clocks.ensures.names in
    let c_map = length-map c.deref-3.result.now name in
    let i_ids = length-numbers c.given_numbers.new.names c.in_ok-inputs.inputs.items (map name c.deref.result.now) c.in_ok-inputs.ensures.numbers in
    let o_ids = length-numbers c.net_numbers.new.names c.in_ok-outputs.outputs.items o_names c.in_ok-outputs.ensures.numbers in
    let c_ids = length-numbers c.given_numbers-2.new.names c.in_ok-clocks.clocks.items (map name c.deref-3.result.now) c.in_ok-clocks.ensures.numbers in
    omega (arith, small.inputs, small.outputs, small.clocks, c.len.ensures, c.len-2.ensures, c.len-3.ensures)

pub overflow_add-statements_at : goal.overflow_add-statements_at
overflow_add-statements_at c =
    let named = subst IsNamed c.g.view_is c.g.invariant.named in
    let small = is-small c.args.g.now named in
    let inputs = ap (λ (h : Named). h.inputs) c.g.view_is in
    let outputs = ap (λ (h : Named). h.outputs) c.g.view_is in
    let clocks = ap (λ (h : Named). h.clocks) c.g.view_is in
    let name = name_at c.g.inside.names in
    let i_are : map name c.deref.result.now ≡ c.args.g.now.inputs = ap (map name) c.deref.ensures.value ∙ inputs in
    let i_long : length c.deref.result.now ≡ length c.args.g.now.inputs = sym (length-map c.deref.result.now name) ∙ ap length i_are in
    let o_are : map net_number c.deref-2.result.now ≡ c.args.g.now.outputs = ap (map net_number) c.deref-2.ensures.value ∙ outputs in
    let o_long : length c.deref-2.result.now ≡ length c.args.g.now.outputs = sym (length-map c.deref-2.result.now net_number) ∙ ap length o_are in
    let n1 = names-long c.new-names.result c.given_numbers.new.names (map name c.deref.result.now) c.in_ok-inputs.ensures.names in
    let n0 = ap length c.new-names.ensures in
    let i_map = length-map c.deref.result.now name in
    let c_are : map name c.deref-3.result.now ≡ c.args.g.now.clocks = ap (map name) c.deref-3.ensures.value ∙ clocks in
    let c_long : length c.deref-3.result.now ≡ length c.args.g.now.clocks = sym (length-map c.deref-3.result.now name) ∙ ap length c_are in
    let o_names = map (net_name c.args.g.now) (map net_number c.deref-2.result.now) in
    let o_map : length o_names ≡ length c.deref-2.result.now = length-map (map net_number c.deref-2.result.now) (net_name c.args.g.now) ∙ length-map c.deref-2.result.now net_number in
    let n2 = names-long c.given_numbers.new.names c.net_numbers.new.names o_names c.in_ok-outputs.ensures.names in
    let n3 = names-long c.net_numbers.new.names c.given_numbers-2.new.names (map name c.deref-3.result.now) c.in_ok-clocks.ensures.names in
    let c_map = length-map c.deref-3.result.now name in
    let i_ids = length-numbers c.given_numbers.new.names c.in_ok-inputs.inputs.items (map name c.deref.result.now) c.in_ok-inputs.ensures.numbers in
    let o_ids = length-numbers c.net_numbers.new.names c.in_ok-outputs.outputs.items o_names c.in_ok-outputs.ensures.numbers in
    let c_ids = length-numbers c.given_numbers-2.new.names c.in_ok-clocks.clocks.items (map name c.deref-3.result.now) c.in_ok-clocks.ensures.numbers in
    omega (arith, small.inputs, small.outputs, small.clocks, c.len.ensures, c.len-2.ensures, c.len-3.ensures)

pub statements-requires-clause-room : goal.statements-requires-clause-room
statements-requires-clause-room c =
    let named = subst IsNamed c.g.view_is c.g.invariant.named in
    let small = is-small c.args.g.now named in
    let inputs = ap (λ (h : Named). h.inputs) c.g.view_is in
    let outputs = ap (λ (h : Named). h.outputs) c.g.view_is in
    let clocks = ap (λ (h : Named). h.clocks) c.g.view_is in
    let name = name_at c.g.inside.names in
    let i_are : map name c.deref.result.now ≡ c.args.g.now.inputs = ap (map name) c.deref.ensures.value ∙ inputs in
    let i_long : length c.deref.result.now ≡ length c.args.g.now.inputs = sym (length-map c.deref.result.now name) ∙ ap length i_are in
    let o_are : map net_number c.deref-2.result.now ≡ c.args.g.now.outputs = ap (map net_number) c.deref-2.ensures.value ∙ outputs in
    let o_long : length c.deref-2.result.now ≡ length c.args.g.now.outputs = sym (length-map c.deref-2.result.now net_number) ∙ ap length o_are in
    let n1 = names-long c.new-names.result c.given_numbers.new.names (map name c.deref.result.now) c.in_ok-inputs.ensures.names in
    let n0 = ap length c.new-names.ensures in
    let i_map = length-map c.deref.result.now name in
    let c_are : map name c.deref-3.result.now ≡ c.args.g.now.clocks = ap (map name) c.deref-3.ensures.value ∙ clocks in
    let c_long : length c.deref-3.result.now ≡ length c.args.g.now.clocks = sym (length-map c.deref-3.result.now name) ∙ ap length c_are in
    let o_names = map (net_name c.args.g.now) (map net_number c.deref-2.result.now) in
    let o_map : length o_names ≡ length c.deref-2.result.now = length-map (map net_number c.deref-2.result.now) (net_name c.args.g.now) ∙ length-map c.deref-2.result.now net_number in
    let n2 = names-long c.given_numbers.new.names c.net_numbers.new.names o_names c.in_ok-outputs.ensures.names in
    let n3 = names-long c.net_numbers.new.names c.given_numbers-2.new.names (map name c.deref-3.result.now) c.in_ok-clocks.ensures.names in
    let c_map = length-map c.deref-3.result.now name in
    let i_ids = length-numbers c.given_numbers.new.names c.in_ok-inputs.inputs.items (map name c.deref.result.now) c.in_ok-inputs.ensures.numbers in
    let o_ids = length-numbers c.net_numbers.new.names c.in_ok-outputs.outputs.items o_names c.in_ok-outputs.ensures.numbers in
    let c_ids = length-numbers c.given_numbers-2.new.names c.in_ok-clocks.clocks.items (map name c.deref-3.result.now) c.in_ok-clocks.ensures.numbers in
    omega (arith, small.inputs, small.outputs, small.clocks, small.labels)

pub statements-requires-clause-lines : goal.statements-requires-clause-lines
statements-requires-clause-lines c =
    let named = subst IsNamed c.g.view_is c.g.invariant.named in
    let small = is-small c.args.g.now named in
    let inputs = ap (λ (h : Named). h.inputs) c.g.view_is in
    let outputs = ap (λ (h : Named). h.outputs) c.g.view_is in
    let clocks = ap (λ (h : Named). h.clocks) c.g.view_is in
    let name = name_at c.g.inside.names in
    let i_are : map name c.deref.result.now ≡ c.args.g.now.inputs = ap (map name) c.deref.ensures.value ∙ inputs in
    let i_long : length c.deref.result.now ≡ length c.args.g.now.inputs = sym (length-map c.deref.result.now name) ∙ ap length i_are in
    let o_are : map net_number c.deref-2.result.now ≡ c.args.g.now.outputs = ap (map net_number) c.deref-2.ensures.value ∙ outputs in
    let o_long : length c.deref-2.result.now ≡ length c.args.g.now.outputs = sym (length-map c.deref-2.result.now net_number) ∙ ap length o_are in
    let n1 = names-long c.new-names.result c.given_numbers.new.names (map name c.deref.result.now) c.in_ok-inputs.ensures.names in
    let n0 = ap length c.new-names.ensures in
    let i_map = length-map c.deref.result.now name in
    let c_are : map name c.deref-3.result.now ≡ c.args.g.now.clocks = ap (map name) c.deref-3.ensures.value ∙ clocks in
    let c_long : length c.deref-3.result.now ≡ length c.args.g.now.clocks = sym (length-map c.deref-3.result.now name) ∙ ap length c_are in
    let o_names = map (net_name c.args.g.now) (map net_number c.deref-2.result.now) in
    let o_map : length o_names ≡ length c.deref-2.result.now = length-map (map net_number c.deref-2.result.now) (net_name c.args.g.now) ∙ length-map c.deref-2.result.now net_number in
    let n2 = names-long c.given_numbers.new.names c.net_numbers.new.names o_names c.in_ok-outputs.ensures.names in
    let n3 = names-long c.net_numbers.new.names c.given_numbers-2.new.names (map name c.deref-3.result.now) c.in_ok-clocks.ensures.names in
    let c_map = length-map c.deref-3.result.now name in
    let i_ids = length-numbers c.given_numbers.new.names c.in_ok-inputs.inputs.items (map name c.deref.result.now) c.in_ok-inputs.ensures.numbers in
    let o_ids = length-numbers c.net_numbers.new.names c.in_ok-outputs.outputs.items o_names c.in_ok-outputs.ensures.numbers in
    let c_ids = length-numbers c.given_numbers-2.new.names c.in_ok-clocks.clocks.items (map name c.deref-3.result.now) c.in_ok-clocks.ensures.numbers in
    omega (arith, small.inputs, small.outputs, small.clocks, small.labels, c.len.ensures, c.len-2.ensures, c.len-3.ensures)

pub ports_from-requires : goal.ports_from-requires
ports_from-requires c =
    let named = subst IsNamed c.g.view_is c.g.invariant.named in
    let small = is-small c.args.g.now named in
    let inputs = ap (λ (h : Named). h.inputs) c.g.view_is in
    let outputs = ap (λ (h : Named). h.outputs) c.g.view_is in
    let clocks = ap (λ (h : Named). h.clocks) c.g.view_is in
    let name = name_at c.g.inside.names in
    let i_are : map name c.deref.result.now ≡ c.args.g.now.inputs = ap (map name) c.deref.ensures.value ∙ inputs in
    let i_long : length c.deref.result.now ≡ length c.args.g.now.inputs = sym (length-map c.deref.result.now name) ∙ ap length i_are in
    let o_are : map net_number c.deref-2.result.now ≡ c.args.g.now.outputs = ap (map net_number) c.deref-2.ensures.value ∙ outputs in
    let o_long : length c.deref-2.result.now ≡ length c.args.g.now.outputs = sym (length-map c.deref-2.result.now net_number) ∙ ap length o_are in
    let n1 = names-long c.new-names.result c.given_numbers.new.names (map name c.deref.result.now) c.in_ok-inputs.ensures.names in
    let n0 = ap length c.new-names.ensures in
    let i_map = length-map c.deref.result.now name in
    let c_are : map name c.deref-3.result.now ≡ c.args.g.now.clocks = ap (map name) c.deref-3.ensures.value ∙ clocks in
    let c_long : length c.deref-3.result.now ≡ length c.args.g.now.clocks = sym (length-map c.deref-3.result.now name) ∙ ap length c_are in
    let o_names = map (net_name c.args.g.now) (map net_number c.deref-2.result.now) in
    let o_map : length o_names ≡ length c.deref-2.result.now = length-map (map net_number c.deref-2.result.now) (net_name c.args.g.now) ∙ length-map c.deref-2.result.now net_number in
    let n2 = names-long c.given_numbers.new.names c.net_numbers.new.names o_names c.in_ok-outputs.ensures.names in
    let n3 = names-long c.net_numbers.new.names c.given_numbers-2.new.names (map name c.deref-3.result.now) c.in_ok-clocks.ensures.names in
    let c_map = length-map c.deref-3.result.now name in
    let i_ids = length-numbers c.given_numbers.new.names c.in_ok-inputs.inputs.items (map name c.deref.result.now) c.in_ok-inputs.ensures.numbers in
    let o_ids = length-numbers c.net_numbers.new.names c.in_ok-outputs.outputs.items o_names c.in_ok-outputs.ensures.numbers in
    let c_ids = length-numbers c.given_numbers-2.new.names c.in_ok-clocks.clocks.items (map name c.deref-3.result.now) c.in_ok-clocks.ensures.numbers in
    omega (arith, small.inputs, ap length c.deref-4.ensures.value)

pub ports_from-requires-2 : goal.ports_from-requires-2
ports_from-requires-2 c =
    let named = subst IsNamed c.g.view_is c.g.invariant.named in
    let small = is-small c.args.g.now named in
    let inputs = ap (λ (h : Named). h.inputs) c.g.view_is in
    let outputs = ap (λ (h : Named). h.outputs) c.g.view_is in
    let clocks = ap (λ (h : Named). h.clocks) c.g.view_is in
    let name = name_at c.g.inside.names in
    let i_are : map name c.deref.result.now ≡ c.args.g.now.inputs = ap (map name) c.deref.ensures.value ∙ inputs in
    let i_long : length c.deref.result.now ≡ length c.args.g.now.inputs = sym (length-map c.deref.result.now name) ∙ ap length i_are in
    let o_are : map net_number c.deref-2.result.now ≡ c.args.g.now.outputs = ap (map net_number) c.deref-2.ensures.value ∙ outputs in
    let o_long : length c.deref-2.result.now ≡ length c.args.g.now.outputs = sym (length-map c.deref-2.result.now net_number) ∙ ap length o_are in
    let n1 = names-long c.new-names.result c.given_numbers.new.names (map name c.deref.result.now) c.in_ok-inputs.ensures.names in
    let n0 = ap length c.new-names.ensures in
    let i_map = length-map c.deref.result.now name in
    let c_are : map name c.deref-3.result.now ≡ c.args.g.now.clocks = ap (map name) c.deref-3.ensures.value ∙ clocks in
    let c_long : length c.deref-3.result.now ≡ length c.args.g.now.clocks = sym (length-map c.deref-3.result.now name) ∙ ap length c_are in
    let o_names = map (net_name c.args.g.now) (map net_number c.deref-2.result.now) in
    let o_map : length o_names ≡ length c.deref-2.result.now = length-map (map net_number c.deref-2.result.now) (net_name c.args.g.now) ∙ length-map c.deref-2.result.now net_number in
    let n2 = names-long c.given_numbers.new.names c.net_numbers.new.names o_names c.in_ok-outputs.ensures.names in
    let n3 = names-long c.net_numbers.new.names c.given_numbers-2.new.names (map name c.deref-3.result.now) c.in_ok-clocks.ensures.names in
    let c_map = length-map c.deref-3.result.now name in
    let i_ids = length-numbers c.given_numbers.new.names c.in_ok-inputs.inputs.items (map name c.deref.result.now) c.in_ok-inputs.ensures.numbers in
    let o_ids = length-numbers c.net_numbers.new.names c.in_ok-outputs.outputs.items o_names c.in_ok-outputs.ensures.numbers in
    let c_ids = length-numbers c.given_numbers-2.new.names c.in_ok-clocks.clocks.items (map name c.deref-3.result.now) c.in_ok-clocks.ensures.numbers in
    omega (arith, small.inputs, small.outputs, c.len.ensures, ap length c.deref-5.ensures.value)

pub ports_from-requires-3 : goal.ports_from-requires-3
ports_from-requires-3 c =
    let named = subst IsNamed c.g.view_is c.g.invariant.named in
    let small = is-small c.args.g.now named in
    let inputs = ap (λ (h : Named). h.inputs) c.g.view_is in
    let outputs = ap (λ (h : Named). h.outputs) c.g.view_is in
    let clocks = ap (λ (h : Named). h.clocks) c.g.view_is in
    let name = name_at c.g.inside.names in
    let i_are : map name c.deref.result.now ≡ c.args.g.now.inputs = ap (map name) c.deref.ensures.value ∙ inputs in
    let i_long : length c.deref.result.now ≡ length c.args.g.now.inputs = sym (length-map c.deref.result.now name) ∙ ap length i_are in
    let o_are : map net_number c.deref-2.result.now ≡ c.args.g.now.outputs = ap (map net_number) c.deref-2.ensures.value ∙ outputs in
    let o_long : length c.deref-2.result.now ≡ length c.args.g.now.outputs = sym (length-map c.deref-2.result.now net_number) ∙ ap length o_are in
    let n1 = names-long c.new-names.result c.given_numbers.new.names (map name c.deref.result.now) c.in_ok-inputs.ensures.names in
    let n0 = ap length c.new-names.ensures in
    let i_map = length-map c.deref.result.now name in
    let c_are : map name c.deref-3.result.now ≡ c.args.g.now.clocks = ap (map name) c.deref-3.ensures.value ∙ clocks in
    let c_long : length c.deref-3.result.now ≡ length c.args.g.now.clocks = sym (length-map c.deref-3.result.now name) ∙ ap length c_are in
    let o_names = map (net_name c.args.g.now) (map net_number c.deref-2.result.now) in
    let o_map : length o_names ≡ length c.deref-2.result.now = length-map (map net_number c.deref-2.result.now) (net_name c.args.g.now) ∙ length-map c.deref-2.result.now net_number in
    let n2 = names-long c.given_numbers.new.names c.net_numbers.new.names o_names c.in_ok-outputs.ensures.names in
    let n3 = names-long c.net_numbers.new.names c.given_numbers-2.new.names (map name c.deref-3.result.now) c.in_ok-clocks.ensures.names in
    let c_map = length-map c.deref-3.result.now name in
    let i_ids = length-numbers c.given_numbers.new.names c.in_ok-inputs.inputs.items (map name c.deref.result.now) c.in_ok-inputs.ensures.numbers in
    let o_ids = length-numbers c.net_numbers.new.names c.in_ok-outputs.outputs.items o_names c.in_ok-outputs.ensures.numbers in
    let c_ids = length-numbers c.given_numbers-2.new.names c.in_ok-clocks.clocks.items (map name c.deref-3.result.now) c.in_ok-clocks.ensures.numbers in
    omega (arith, small.inputs, small.outputs, small.clocks, c.len.ensures, c.len-2.ensures, ap length c.deref-6.ensures.value)

pub returns-clause-file : goal.returns-clause-file
returns-clause-file c =
    let named = subst IsNamed c.g.view_is c.g.invariant.named in
    let small = is-small c.args.g.now named in
    let inputs = ap (λ (h : Named). h.inputs) c.g.view_is in
    let outputs = ap (λ (h : Named). h.outputs) c.g.view_is in
    let clocks = ap (λ (h : Named). h.clocks) c.g.view_is in
    let name = name_at c.g.inside.names in
    let i_are : map name c.deref.result.now ≡ c.args.g.now.inputs = ap (map name) c.deref.ensures.value ∙ inputs in
    let i_long : length c.deref.result.now ≡ length c.args.g.now.inputs = sym (length-map c.deref.result.now name) ∙ ap length i_are in
    let o_are : map net_number c.deref-2.result.now ≡ c.args.g.now.outputs = ap (map net_number) c.deref-2.ensures.value ∙ outputs in
    let o_long : length c.deref-2.result.now ≡ length c.args.g.now.outputs = sym (length-map c.deref-2.result.now net_number) ∙ ap length o_are in
    let n1_long = names-long c.new-names.result c.given_numbers.new.names (map name c.deref.result.now) c.in_ok-inputs.ensures.names in
    let n0_long = ap length c.new-names.ensures in
    let i_map = length-map c.deref.result.now name in
    let c_are : map name c.deref-3.result.now ≡ c.args.g.now.clocks = ap (map name) c.deref-3.ensures.value ∙ clocks in
    let c_long : length c.deref-3.result.now ≡ length c.args.g.now.clocks = sym (length-map c.deref-3.result.now name) ∙ ap length c_are in
    let o_names = map (net_name c.args.g.now) (map net_number c.deref-2.result.now) in
    let o_map : length o_names ≡ length c.deref-2.result.now = length-map (map net_number c.deref-2.result.now) (net_name c.args.g.now) ∙ length-map c.deref-2.result.now net_number in
    let n2_long = names-long c.given_numbers.new.names c.net_numbers.new.names o_names c.in_ok-outputs.ensures.names in
    let n3_long = names-long c.net_numbers.new.names c.given_numbers-2.new.names (map name c.deref-3.result.now) c.in_ok-clocks.ensures.names in
    let c_map = length-map c.deref-3.result.now name in
    let i_ids = length-numbers c.given_numbers.new.names c.in_ok-inputs.inputs.items (map name c.deref.result.now) c.in_ok-inputs.ensures.numbers in
    let o_ids = length-numbers c.net_numbers.new.names c.in_ok-outputs.outputs.items o_names c.in_ok-outputs.ensures.numbers in
    let c_ids = length-numbers c.given_numbers-2.new.names c.in_ok-clocks.clocks.items (map name c.deref-3.result.now) c.in_ok-clocks.ensures.numbers in
    let n0 = c.new-names.result in
    let n1 = c.given_numbers.new.names in
    let n2 = c.net_numbers.new.names in
    let n3 = c.given_numbers-2.new.names in
    let n4 = c.statements.new.names in
    let i_names = map name c.deref.result.now in
    let c_names = map name c.deref-3.result.now in
    let ss = latch_statements c.args.g.now ++ gate_statements c.args.g.now in
    let nets = flat_map statement_nets ss in
    let after_inputs = later-three n1 n2 n3 n4 o_names c_names nets c.in_ok-outputs.ensures.names c.in_ok-clocks.ensures.names c.in_ok-statements.ensures.names in
    let after_outputs = later-two n2 n3 n4 c_names nets c.in_ok-clocks.ensures.names c.in_ok-statements.ensures.names in
    let i_ports = ports-at n1 (o_names ++ (c_names ++ nets)) n4 c.in_ok-inputs.inputs.items i_names 3 c.in_ok-inputs-2.inputs.items after_inputs c.in_ok-inputs.ensures.numbers (c.in_ok-inputs-2.ensures ∙ ap (ports_numbered 3) c.deref-4.ensures.value) in
    let o_ports = ports-at n2 (c_names ++ nets) n4 c.in_ok-outputs.outputs.items o_names (3 + c.len.result) c.in_ok-outputs-2.outputs.items after_outputs c.in_ok-outputs.ensures.numbers (c.in_ok-outputs-2.ensures ∙ ap (ports_numbered (3 + c.len.result)) c.deref-5.ensures.value) in
    let c_ports = ports-at n3 nets n4 c.in_ok-clocks.clocks.items c_names ((3 + c.len.result) + c.len-2.result) c.in_ok-clocks-2.clocks.items c.in_ok-statements.ensures.names c.in_ok-clocks.ensures.numbers (c.in_ok-clocks-2.ensures ∙ ap (ports_numbered ((3 + c.len.result) + c.len-2.result)) c.deref-6.ensures.value) in
    let first = ((3 + c.len.result) + c.len-2.result) + c.len-3.result in
    let s_are = statements-at n4 c.in_ok-statements.statements.items (statements_from first ss) c.in_ok-statements.ensures.spells in
    let h = c.args.g.now in
    let l1 : c.len.result ≡ length h.inputs = omega (arith, c.len.ensures) in
    let l2 : c.len-2.result ≡ length h.outputs = omega (arith, c.len-2.ensures) in
    let l3 : c.len-3.result ≡ length h.clocks = omega (arith, c.len-3.ensures) in
    let outputs_at : 3 + c.len.result ≡ 3 + length h.inputs = omega arith in
    let clocks_at : (3 + c.len.result) + c.len-2.result ≡ (3 + length h.inputs) + length h.outputs = omega arith in
    let statements_at : first ≡ ((3 + length h.inputs) + length h.outputs) + length h.clocks = omega arith in
    let o_spelled : o_names ≡ output_names h = ap (map (net_name h)) o_are in
    let names_are : n4 ≡ first_appearances (h.inputs ++ output_names h ++ h.clocks ++ nets) = all-names i_names o_names c_names nets n0 n1 n2 n3 n4 c.new-names.ensures c.in_ok-inputs.ensures.names c.in_ok-outputs.ensures.names c.in_ok-clocks.ensures.names c.in_ok-statements.ensures.names
    ∙ ap (λ (l : List Name). first_appearances (l ++ o_names ++ c_names ++ nets)) i_are
    ∙ ap (λ (l : List Name). first_appearances (h.inputs ++ l ++ c_names ++ nets)) o_spelled
    ∙ ap (λ (l : List Name). first_appearances (h.inputs ++ output_names h ++ l ++ nets)) c_are in
    let model = c.in_ok-name.ensures ∙ c.bytes.ensures.bytes ∙ ap (λ (k : Named). k.model) c.g.view_is in
    let main : ReadModel = record { name = c.in_ok-name.name; line = 2; names = n4; inputs = c.in_ok-inputs-2.inputs; outputs = c.in_ok-outputs-2.outputs; clocks = c.in_ok-clocks-2.clocks; statements = c.in_ok-statements.statements } in
    let same : model_of main ≡ written_model h
    = same-model main.name h.model n4 (first_appearances (h.inputs ++ output_names h ++ h.clocks ++ nets))
    (map (port_of n4) main.inputs.items) (ports_from 3 h.inputs) (map (port_of n4) main.outputs.items) (ports_from (3 + length h.inputs) (output_names h))
    (map (port_of n4) main.clocks.items) (ports_from ((3 + length h.inputs) + length h.outputs) h.clocks)
    (map (located_of n4) main.statements.items) (statements_from (((3 + length h.inputs) + length h.outputs) + length h.clocks) ss) model names_are
    (i_ports.0 ∙ ap (ports_from 3) i_are)
    (o_ports.0 ∙ ap (λ (k : ℕ). ports_from k o_names) outputs_at ∙ ap (ports_from (3 + length h.inputs)) o_spelled)
    (c_ports.0 ∙ ap (λ (k : ℕ). ports_from k c_names) clocks_at ∙ ap (ports_from ((3 + length h.inputs) + length h.outputs)) c_are)
    (s_are.0 ∙ ap (λ (k : ℕ). statements_from k ss) statements_at) in
    subst (λ (m : Model). IfOk c.file_of_parts.result (λ f. file_of f ≡ record { models = m ∷ [] })) same c.file_of_parts.ensures.file

pub file_of_parts-requires : goal.file_of_parts-requires
file_of_parts-requires c =
    let named = subst IsNamed c.g.view_is c.g.invariant.named in
    let small = is-small c.args.g.now named in
    let inputs = ap (λ (h : Named). h.inputs) c.g.view_is in
    let outputs = ap (λ (h : Named). h.outputs) c.g.view_is in
    let clocks = ap (λ (h : Named). h.clocks) c.g.view_is in
    let name = name_at c.g.inside.names in
    let i_are : map name c.deref.result.now ≡ c.args.g.now.inputs = ap (map name) c.deref.ensures.value ∙ inputs in
    let i_long : length c.deref.result.now ≡ length c.args.g.now.inputs = sym (length-map c.deref.result.now name) ∙ ap length i_are in
    let o_are : map net_number c.deref-2.result.now ≡ c.args.g.now.outputs = ap (map net_number) c.deref-2.ensures.value ∙ outputs in
    let o_long : length c.deref-2.result.now ≡ length c.args.g.now.outputs = sym (length-map c.deref-2.result.now net_number) ∙ ap length o_are in
    let n1_long = names-long c.new-names.result c.given_numbers.new.names (map name c.deref.result.now) c.in_ok-inputs.ensures.names in
    let n0_long = ap length c.new-names.ensures in
    let i_map = length-map c.deref.result.now name in
    let c_are : map name c.deref-3.result.now ≡ c.args.g.now.clocks = ap (map name) c.deref-3.ensures.value ∙ clocks in
    let c_long : length c.deref-3.result.now ≡ length c.args.g.now.clocks = sym (length-map c.deref-3.result.now name) ∙ ap length c_are in
    let o_names = map (net_name c.args.g.now) (map net_number c.deref-2.result.now) in
    let o_map : length o_names ≡ length c.deref-2.result.now = length-map (map net_number c.deref-2.result.now) (net_name c.args.g.now) ∙ length-map c.deref-2.result.now net_number in
    let n2_long = names-long c.given_numbers.new.names c.net_numbers.new.names o_names c.in_ok-outputs.ensures.names in
    let n3_long = names-long c.net_numbers.new.names c.given_numbers-2.new.names (map name c.deref-3.result.now) c.in_ok-clocks.ensures.names in
    let c_map = length-map c.deref-3.result.now name in
    let i_ids = length-numbers c.given_numbers.new.names c.in_ok-inputs.inputs.items (map name c.deref.result.now) c.in_ok-inputs.ensures.numbers in
    let o_ids = length-numbers c.net_numbers.new.names c.in_ok-outputs.outputs.items o_names c.in_ok-outputs.ensures.numbers in
    let c_ids = length-numbers c.given_numbers-2.new.names c.in_ok-clocks.clocks.items (map name c.deref-3.result.now) c.in_ok-clocks.ensures.numbers in
    let n0 = c.new-names.result in
    let n1 = c.given_numbers.new.names in
    let n2 = c.net_numbers.new.names in
    let n3 = c.given_numbers-2.new.names in
    let n4 = c.statements.new.names in
    let i_names = map name c.deref.result.now in
    let c_names = map name c.deref-3.result.now in
    let ss = latch_statements c.args.g.now ++ gate_statements c.args.g.now in
    let nets = flat_map statement_nets ss in
    let after_inputs = later-three n1 n2 n3 n4 o_names c_names nets c.in_ok-outputs.ensures.names c.in_ok-clocks.ensures.names c.in_ok-statements.ensures.names in
    let after_outputs = later-two n2 n3 n4 c_names nets c.in_ok-clocks.ensures.names c.in_ok-statements.ensures.names in
    let i_ports = ports-at n1 (o_names ++ (c_names ++ nets)) n4 c.in_ok-inputs.inputs.items i_names 3 c.in_ok-inputs-2.inputs.items after_inputs c.in_ok-inputs.ensures.numbers (c.in_ok-inputs-2.ensures ∙ ap (ports_numbered 3) c.deref-4.ensures.value) in
    let o_ports = ports-at n2 (c_names ++ nets) n4 c.in_ok-outputs.outputs.items o_names (3 + c.len.result) c.in_ok-outputs-2.outputs.items after_outputs c.in_ok-outputs.ensures.numbers (c.in_ok-outputs-2.ensures ∙ ap (ports_numbered (3 + c.len.result)) c.deref-5.ensures.value) in
    let c_ports = ports-at n3 nets n4 c.in_ok-clocks.clocks.items c_names ((3 + c.len.result) + c.len-2.result) c.in_ok-clocks-2.clocks.items c.in_ok-statements.ensures.names c.in_ok-clocks.ensures.numbers (c.in_ok-clocks-2.ensures ∙ ap (ports_numbered ((3 + c.len.result) + c.len-2.result)) c.deref-6.ensures.value) in
    let first = ((3 + c.len.result) + c.len-2.result) + c.len-3.result in
    let s_are = statements-at n4 c.in_ok-statements.statements.items (statements_from first ss) c.in_ok-statements.ensures.spells in
    record { inputs = i_ports.1; outputs = o_ports.1; clocks = c_ports.1; statements = s_are.1 }

pub returns-in_err-inputs-clause-reading : goal.returns-in_err-inputs-clause-reading
returns-in_err-inputs-clause-reading c = texts-are-read c.args.g.now (subst IsNamed c.g.view_is c.g.invariant.named)

pub returns-in_err-outputs-clause-reading : goal.returns-in_err-outputs-clause-reading
returns-in_err-outputs-clause-reading c = texts-are-read c.args.g.now (subst IsNamed c.g.view_is c.g.invariant.named)

pub returns-in_err-clocks-clause-reading : goal.returns-in_err-clocks-clause-reading
returns-in_err-clocks-clause-reading c = texts-are-read c.args.g.now (subst IsNamed c.g.view_is c.g.invariant.named)

pub returns-in_err-statements-clause-reading : goal.returns-in_err-statements-clause-reading
returns-in_err-statements-clause-reading c = texts-are-read c.args.g.now (subst IsNamed c.g.view_is c.g.invariant.named)

pub returns-in_err-name-clause-reading : goal.returns-in_err-name-clause-reading
returns-in_err-name-clause-reading c = texts-are-read c.args.g.now (subst IsNamed c.g.view_is c.g.invariant.named)

pub returns-in_err-inputs-2-clause-reading : goal.returns-in_err-inputs-2-clause-reading
returns-in_err-inputs-2-clause-reading c = texts-are-read c.args.g.now (subst IsNamed c.g.view_is c.g.invariant.named)

pub returns-in_err-outputs-2-clause-reading : goal.returns-in_err-outputs-2-clause-reading
returns-in_err-outputs-2-clause-reading c = texts-are-read c.args.g.now (subst IsNamed c.g.view_is c.g.invariant.named)

pub returns-in_err-clocks-2-clause-reading : goal.returns-in_err-clocks-2-clause-reading
returns-in_err-clocks-2-clause-reading c = texts-are-read c.args.g.now (subst IsNamed c.g.view_is c.g.invariant.named)

pub returns-clause-reading : goal.returns-clause-reading
returns-clause-reading c = texts-are-read c.args.g.now (subst IsNamed c.g.view_is c.g.invariant.named)

-- The text of the gate list is read as this file, and what is read is a file.
pub returns-clause-is_file : goal.returns-clause-is_file
returns-clause-is_file c =
    let reading = texts-are-read c.args.g.now (subst IsNamed c.g.view_is c.g.invariant.named) in
    file-where c.file_of_parts.result (named_file c.args.g.now) (reads_file (text_of c.args.g.now.unknown_inits (named_file c.args.g.now)) (named_file c.args.g.now) reading.reads) (returns-clause-file c)
