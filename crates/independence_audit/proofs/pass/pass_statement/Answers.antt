use Rattle.std.proofs.Common.{sym, ap, subst, map, length, All, ◌<◌}
use Rattle.std.specs.List.{cons_option}
use Rattle.netlist_spec.specs.Models.{Gate, as_gate}
use Rattle.imp_text.specs.declared.names.NameId.{NameId}
use Rattle.blif_read.specs.declared.file.Statement.{Statement}
use Rattle.blif_read.specs.Ids.{ids_in}
use Rattle.blif_read.specs.View.{name_at, cover_of, statement_of}
use Rattle.audit_laws.specs.Along.{bits_along}
use Rattle.independence_audit.specs.Kept.{Keeps}
use Rattle.independence_audit.proofs.TableLemmas.{keeps_at, out_within}
use Rattle.independence_audit.proofs.pass.pass_statement.Goals as goal

pub returns-in-Names : goal.returns-in-Names
returns-in-Names c = λ m later marks k.
    let table = c.args.table.now in
    let ins = c.in-Names.ins in
    let out = c.in-Names.out in
    let g : Gate = record { ins = map (name_at m.names) ins.items; out = name_at m.names out; cover = cover_of c.in-Names.cover } in
    let within = out_within (length table) ins.items out (subst (λ (s : Statement). All (λ (id : NameId). id.0 < length table) (ids_in s)) c.in-Names.is c.requires.nets) in
    subst (λ (s : Statement). Keeps m.names c.pass_reads.new.table (bits_along m (cons_option (as_gate (statement_of m.names s)) later))) (sym c.in-Names.is)
    (c.pass_reads.ensures m later g marks (keeps_at m.names table (bits_along m later) k out within _) (ap (map (name_at m.names)) (sym c.deref.ensures.value)) k)
