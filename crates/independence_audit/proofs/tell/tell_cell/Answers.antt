use Rattle.std.proofs.Common.{◌≡◌, ◌<◌, refl, sym, ◌∙◌, ap, ap₂, subst, length, map, List, [], ◌∷◌, None, All, arith}
use Rattle.netlist_spec.specs.Netlist.{Name, names}
use Rattle.netlist_spec.specs.CellBits.{IsCell}
use Rattle.netlist_spec.specs.Models.{gates_of}
use Rattle.imp_text.specs.declared.names.NameId.{NameId}
use Rattle.blif_read.specs.declared.file.Statement.{Statement}
use Rattle.blif_read.specs.Ids.{ids_in}
use Rattle.blif_read.specs.View.{name_at, cover_of, model_of, statement_of}
use Rattle.audit_laws.specs.FirstBits.{FirstBits, latch_bits}
use Rattle.audit_laws.specs.Along.{bits_along}
use Rattle.audit_laws.specs.OnePass.{finding_of, finding_of_bits}
use Rattle.independence_audit.specs.Audited.{cell_name}
use Rattle.independence_audit.specs.Kept.{first_bits}
use Rattle.independence_audit.specs.Known.{bits_kept}
use Rattle.independence_audit.specs.Told.{finding_told, IsToldOf}
use Rattle.independence_audit.proofs.TableLemmas.{keeps_at}
use Rattle.independence_audit.proofs.tell.tell_cell.Goals as goal

one_name : (a b : Name) (xs ys : List Name) → a ∷ xs ≡ b ∷ ys → b ≡ a
one_name a b xs ys e = let f : a ≡ b = cc e in sym f

pub returns-in-Names-clause-finding : goal.returns-in-Names-clause-finding
returns-in-Names-clause-finding c = λ known is_cell.
    let m = c.args.m.now in
    let M = model_of m in
    let named = name_at m.names in
    let out = c.in-Names.out in
    let cover = cover_of c.in-Names.cover in
    let cell = cell_name M c.args.cell in
    let told = finding_told M c.tell_gate.result in
    let one = one_name (named out) cell [] [] (subst (λ (s : Statement). IsCell (statement_of m.names s) cell) c.in-Names.is is_cell) in
    subst (λ (s : Statement). told ≡ finding_of M (statement_of m.names s) (bits_kept M (statement_of m.names s))) (sym c.in-Names.is)
    (c.tell_gate.ensures.finding cover known one ∙ ap (λ (ids : List NameId). finding_of M (names (map named ids) (named out) cover) (bits_along M (gates_of M) (named out))) c.deref.ensures.value)

pub returns-in-Latch-clause-finding : goal.returns-in-Latch-clause-finding
returns-in-Latch-clause-finding c = λ known is_cell.
    let m = c.args.m.now in
    let M = model_of m in
    let q = c.in-Latch.q in
    let cell = cell_name M c.args.cell in
    let table = c.args.known.now.latches.items in
    let one = one_name (name_at m.names q) cell [] [] (subst (λ (s : Statement). IsCell (statement_of m.names s) cell) c.in-Latch.is is_cell) in
    let ids = subst (λ (s : Statement). All (λ (id : NameId). id.0 < length m.names) (ids_in s)) c.in-Latch.is c.requires.within in
    let inside : q.0 < length m.names = ids 1 q (omega arith) in
    let within : q.0 < length table = let t = c.requires.tables.latches in omega arith in
    let bits = ap first_bits c.index.ensures ∙ keeps_at m.names table (latch_bits M) known.latches q within c.index.result.now in
    subst (λ (s : Statement). finding_told M c.tell_bits.result ≡ finding_of M (statement_of m.names s) (bits_kept M (statement_of m.names s))) (sym c.in-Latch.is)
    (c.tell_bits.ensures.finding ∙ ap₂ (λ (n : Name) (k : FirstBits). finding_of_bits M n None k) one bits)

pub returns-in-Latch-clause-bit : goal.returns-in-Latch-clause-bit
returns-in-Latch-clause-bit c = λ known.
    let m = c.args.m.now in
    let M = model_of m in
    let q = c.in-Latch.q in
    let table = c.args.known.now.latches.items in
    let ids = subst (λ (s : Statement). All (λ (id : NameId). id.0 < length m.names) (ids_in s)) c.in-Latch.is c.requires.within in
    let inside : q.0 < length m.names = ids 1 q (omega arith) in
    let within : q.0 < length table = let t = c.requires.tables.latches in omega arith in
    subst (λ (s : Statement). IsToldOf c.tell_bits.result (bits_kept M (statement_of m.names s))) (sym c.in-Latch.is)
    (subst (IsToldOf c.tell_bits.result) (ap first_bits c.index.ensures ∙ keeps_at m.names table (latch_bits M) known.latches q within c.index.result.now) c.tell_bits.ensures.bit)
