use Rattle.std.proofs.Common.{◌∙◌, rules, sym, subst}
use Rattle.host_io.specs.Outside.{outside}
use Rattle.placing.specs.Inside.{asmap_of}
use Rattle.addrman_run.specs.Log.{streams_of}
use Rattle.addrman_run.specs.LookupLines.{LacksMap, LookedUp, LookupLinesOutcome}
use Rattle.addrman_run.specs.Replay.{IsUntouched}
use Rattle.addrman_run.proofs.LookingUp.{looked_up_by}
use Rattle.addrman_run.proofs.Seen.{by_status, no_disk, read_counted, write_counted}
use Rattle.addrman_run.proofs.lookup_lines.lookup_lines.Goals as goal

pub returns-clause-outcome : goal.returns-clause-outcome
returns-clause-outcome g c =
    let old = outside g.L.Source g.F.Folder g.K.Sink c.args.log.now c.args.folder.now c.args.out.now in
    let new = outside g.L.Source g.F.Folder g.K.Sink c.run_log.new.log c.load_present.new.folder c.run_log.new.out in
    subst (LookupLinesOutcome old new) (sym c.status_of.ensures)
    (by_status (LookedUp old.past (streams_of old) (streams_of new)) (λ answer. LacksMap old.past answer × IsUntouched old new) c.run_log.result
    (looked_up_by old.past (λ l. asmap_of l.asmap) _ _ (streams_of old) (streams_of new) c.run_log.result
    (search rules) c.run_log.ensures.ran.ran))

pub returns-clause-read : goal.returns-clause-read
returns-clause-read g c = read_counted c.run_log.result _ _ _ c.status_of.ensures c.run_log.ensures.read

pub returns-clause-write : goal.returns-clause-write
returns-clause-write g c = write_counted c.run_log.result _ _ _ c.status_of.ensures c.run_log.ensures.write

pub returns-clause-disk : goal.returns-clause-disk
returns-clause-disk g c = (c.load_present.ensures.disk.0, λ is. absurd (no_disk c.run_log.result (sym c.status_of.ensures ∙ is)))
