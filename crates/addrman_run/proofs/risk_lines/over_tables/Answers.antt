use Rattle.std.proofs.Common.{refl, rules, subst, sym, ◌∙◌}
use Rattle.addrman_run.specs.Log.{LogOutcome}
use Rattle.addrman_run.specs.RiskLines.{SetsRan}
use Rattle.addrman_run.proofs.ReadingSets.{stopped_by, written_by}
use Rattle.addrman_run.proofs.Seen.{no_disk, read_counted, write_counted}
use Rattle.addrman_run.proofs.risk_lines.over_tables.Goals as goal

pub returns-then-is_done-clause-outcome : goal.returns-then-is_done-clause-outcome
returns-then-is_done-clause-outcome g c =
    written_by c.args.tables.now _ _ _ _ c.as_slice.result.now c.read_sets-read.result c.write_sets.result c.read_sets-read.ensures.read_in (c.is_done.ensures.yes c.if-is_done.true) refl c.as_slice.ensures c.write_sets.ensures.text

pub returns-clause-outcome : goal.returns-clause-outcome
returns-clause-outcome g c =
    subst (LogOutcome (SetsRan c.args.tables.now _ _) (λ status. ⊥)) (sym c.status_of.ensures)
    (stopped_by c.args.tables.now _ _ _ c.read_sets-read.result c.read_sets-read.ensures.read_in (c.is_done.ensures.no c.if-is_done.false))

pub returns-clause-read : goal.returns-clause-read
returns-clause-read g c = read_counted c.read_sets-read.result _ _ _ c.status_of.ensures c.read_sets-read.ensures.read

pub returns-clause-write : goal.returns-clause-write
returns-clause-write g c = write_counted c.read_sets-read.result _ _ _ c.status_of.ensures c.read_sets-read.ensures.write

pub returns-clause-no_disk : goal.returns-clause-no_disk
returns-clause-no_disk g c = λ is. no_disk c.read_sets-read.result (sym c.status_of.ensures ∙ is)
