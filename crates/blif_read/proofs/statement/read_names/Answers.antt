use Rattle.std.proofs.Common.{◌≡◌, ◌∙◌, ◌-◌, List, [], length, take, Some, ap, sym, subst, refl, arith}
use Rattle.std.specs.List.{AllByRecursion}
use Rattle.std.proofs.lemmas.List.{length-map, length-take}
use denote.Ref.{Bor}
use Rattle.netlist_spec.specs.Lines.{Word}
use Rattle.netlist_spec.specs.Netlist.{Name, IsName}
use Rattle.netlist_spec.specs.Said.{all_but_last, last_of}
use Rattle.imp_text.specs.Names.{with_name}
use Rattle.blif_read.specs.LineTests.{words_in}
use Rattle.blif_read.specs.Spelled.{AreNumbers, with_names}
use Rattle.blif_read.proofs.SpelledLemmas.{front-words, last-word, names-all, names-spelled, some-last, with_names-long}
use Rattle.blif_read.proofs.statement.read_names.Goals as goal

pub intern_all-requires-clause-words : goal.intern_all-requires-clause-words
intern_all-requires-clause-words c =
    let ws = c.args.words.now in
    let some = some-last ws c.requires.says.1 in
    subst (AllByRecursion IsName) (sym (front-words ws (length ws - 1) (omega (arith, some)))) c.requires.says.0

pub intern-requires-clause-some : goal.intern-requires-clause-some
intern-requires-clause-some c =
    let none : Bor Word = record { ref_ptr = (0, 0); now = [] } in
    let ws = c.args.words.now in
    let some = some-last ws c.requires.says.1 in
    (subst IsName (sym (last-word ws (length ws - 1) none (omega (arith, some)))) c.requires.says.1).0

pub intern-requires-clause-short : goal.intern-requires-clause-short
intern-requires-clause-short c =
    let none : Bor Word = record { ref_ptr = (0, 0); now = [] } in
    let ws = c.args.words.now in
    let some = some-last ws c.requires.says.1 in
    (subst IsName (sym (last-word ws (length ws - 1) none (omega (arith, some)))) c.requires.says.1).1

pub intern-requires-clause-room : goal.intern-requires-clause-room
intern-requires-clause-room c =
    let ws = c.args.words.now in
    let front = words_in (take (length ws - 1) ws) in
    let long = with_names-long c.args.names.now front in
    let short : length front ≡ length (take (length ws - 1) ws) = length-map (take (length ws - 1) ws) (λ (w : Bor Word). w.now) in
    omega (arith, ap length c.in_ok-ins.ensures.names, long, short, length-take (length ws - 1) ws, some-last ws c.requires.says.1)

pub returns-clause-names : goal.returns-clause-names
returns-clause-names c =
    let none : Bor Word = record { ref_ptr = (0, 0); now = [] } in
    let ws = c.args.words.now in
    let some = some-last ws c.requires.says.1 in
    let front = front-words ws (length ws - 1) (omega (arith, some)) in
    let last = last-word ws (length ws - 1) none (omega (arith, some)) in
    names-all c.args.names.now c.intern_all.new.names c.intern.new.self (all_but_last (words_in ws)) (last_of (words_in ws)) (c.in_ok-ins.ensures.names ∙ ap (with_names c.args.names.now) front) (c.in_ok-out.ensures.names ∙ ap (with_name c.intern_all.new.names) last)

pub returns-clause-statement : goal.returns-clause-statement
returns-clause-statement c =
    let none : Bor Word = record { ref_ptr = (0, 0); now = [] } in
    let ws = c.args.words.now in
    let some = some-last ws c.requires.says.1 in
    let front = front-words ws (length ws - 1) (omega (arith, some)) in
    let last = last-word ws (length ws - 1) none (omega (arith, some)) in
    names-spelled c.intern_all.new.names c.intern.new.self c.in_ok-ins.ins c.in_ok-out.out _ (all_but_last (words_in ws)) (last_of (words_in ws)) (subst (λ (l : List Name). AreNumbers c.intern_all.new.names c.in_ok-ins.ins.items l) front c.in_ok-ins.ensures.ids) (c.in_ok-out.ensures.names ∙ ap (with_name c.intern_all.new.names) last) (c.in_ok-out.ensures.place ∙ ap Some last) refl c.new.ensures.items
