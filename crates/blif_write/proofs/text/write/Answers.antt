use Rattle.std.proofs.Common.{subst}
use Rattle.netlist_spec.specs.Written.{IsNamed}
use Rattle.named_netlist.proofs.NamedReads.{texts-are-read}
use Rattle.blif_write.proofs.NamedTexts.{text-is}
use Rattle.imp_io.proofs.PutLemmas.{Puts-text}
use Rattle.blif_write.proofs.text.write.Goals as goal

pub returns-in-Ok-clause-puts : goal.returns-in-Ok-clause-puts
returns-in-Ok-clause-puts g c =
    let named = subst IsNamed c.g.view_is c.g.invariant.named in
    Puts-text _ _ _ _ _ (text-is c.args.g.now named) c.in-Ok.ensures

pub returns-in-Err-Failed-clause-puts : goal.returns-in-Err-Failed-clause-puts
returns-in-Err-Failed-clause-puts g c =
    let named = subst IsNamed c.g.view_is c.g.invariant.named in
    Puts-text _ _ _ _ _ (text-is c.args.g.now named) (rw c.in-Err-Failed.field-0-is at c.in-Err-Failed.ensures)

pub returns-in-Err-NoMemory-clause-puts : goal.returns-in-Err-NoMemory-clause-puts
returns-in-Err-NoMemory-clause-puts g c =
    let named = subst IsNamed c.g.view_is c.g.invariant.named in
    Puts-text _ _ _ _ _ (text-is c.args.g.now named) (rw c.in-Err-NoMemory.field-0-is at c.in-Err-NoMemory.ensures)

pub returns-in-Ok-clause-reading : goal.returns-in-Ok-clause-reading
returns-in-Ok-clause-reading g c = texts-are-read c.args.g.now (subst IsNamed c.g.view_is c.g.invariant.named)

pub returns-in-Err-Failed-clause-reading : goal.returns-in-Err-Failed-clause-reading
returns-in-Err-Failed-clause-reading g c = texts-are-read c.args.g.now (subst IsNamed c.g.view_is c.g.invariant.named)

pub returns-in-Err-NoMemory-clause-reading : goal.returns-in-Err-NoMemory-clause-reading
returns-in-Err-NoMemory-clause-reading g c = texts-are-read c.args.g.now (subst IsNamed c.g.view_is c.g.invariant.named)
