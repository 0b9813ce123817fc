use Rattle.std.proofs.Common.{◌∙◌, sym, subst}
use Rattle.host_io.specs.Outside.{outside}
use Rattle.addrman_run.specs.Opener.{OpenerOutcome, OpenerRan}
use Rattle.addrman_run.specs.Replay.{NotOpened}
use Rattle.addrman_run.proofs.Openers.{ran_by, starts}
use Rattle.addrman_run.proofs.Seen.{by_status, no_disk, read_counted, write_counted}
use Rattle.addrman_run.proofs.opener.opener.Goals as goal

pub returns-clause-outcome : goal.returns-clause-outcome
returns-clause-outcome g c =
    let old = outside g.L.Source g.F.Folder g.K.Sink c.args.log.now c.args.folder.now c.args.out.now in
    let new = outside g.L.Source g.F.Folder g.K.Sink c.run_log.new.log c.open_folder.new.folder c.run_log.new.out in
    subst (OpenerOutcome c.args.rules c.args.key c.args.kind old new) (sym c.status_of.ensures)
    (by_status (OpenerRan c.args.rules c.args.key c.args.kind old new) (NotOpened c.args.key c.args.kind.chain old new) c.run_log.result
    (ran_by c.args.rules c.args.key c.args.kind c.in-Ok.tables c.make-lines.result _ old new c.run_log.result c.in-Ok.ensures.found
    (starts c.args.rules c.in-Ok.tables c.make-lines.result c.open.result c.make-lines.ensures c.open.ensures)
    c.groups_stay_apart.ensures c.tries_are_fair.ensures c.run_log.ensures.ran.ran))

pub returns-clause-read : goal.returns-clause-read
returns-clause-read g c = read_counted c.run_log.result _ _ _ c.status_of.ensures c.run_log.ensures.read

pub returns-clause-write : goal.returns-clause-write
returns-clause-write g c = write_counted c.run_log.result _ _ _ c.status_of.ensures c.run_log.ensures.write

pub returns-clause-disk : goal.returns-clause-disk
returns-clause-disk g c = (c.open_folder.ensures.disk.0, λ is. absurd (no_disk c.run_log.result (sym c.status_of.ensures ∙ is)))
