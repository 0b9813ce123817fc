use Rattle.std.proofs.Common.{◌∙◌, refl, sym, subst}
use Rattle.host_io.specs.Outside.{outside}
use Rattle.placing.specs.Inside.{map_of}
use Rattle.addrman_run.specs.AddressLines.{AddressLinesOutcome, Described}
use Rattle.addrman_run.specs.Asmaps.{IsNoMap}
use Rattle.addrman_run.specs.Log.{streams_of}
use Rattle.addrman_run.specs.Replay.{IsUntouched}
use Rattle.addrman_run.proofs.LookingUp.{described_by, unread}
use Rattle.addrman_run.proofs.Seen.{by_status, no_disk, read_counted, write_counted}
use Rattle.addrman_run.proofs.address_lines.address_lines.Goals as goal

pub returns-in-Err-clause-outcome : goal.returns-in-Err-clause-outcome
returns-in-Err-clause-outcome g c =
    let old = outside g.L.Source g.F.Folder g.K.Sink c.args.log.now c.args.folder.now c.args.out.now in
    let new = outside g.L.Source g.F.Folder g.K.Sink c.args.log.now c.open_map.new.folder c.args.out.now in
    unread (Described old.past (streams_of old) (streams_of new)) old new c.in-Err.status c.in-Err.ensures.cause
    (record { written = refl; log = (refl, refl); past = c.open_map.ensures.same })

pub returns-clause-outcome : goal.returns-clause-outcome
returns-clause-outcome g c =
    let old = outside g.L.Source g.F.Folder g.K.Sink c.args.log.now c.args.folder.now c.args.out.now in
    let new = outside g.L.Source g.F.Folder g.K.Sink c.run_log.new.log c.open_map.new.folder c.run_log.new.out in
    subst (AddressLinesOutcome old new) (sym c.status_of.ensures)
    (by_status (Described old.past (streams_of old) (streams_of new)) (λ answer. IsNoMap old.past answer × IsUntouched old new) c.run_log.result
    (described_by old.past (λ l. map_of l.map) _ _ (streams_of old) (streams_of new) c.run_log.result c.in-Ok.ensures.found c.run_log.ensures.ran.ran))

pub returns-clause-read : goal.returns-clause-read
returns-clause-read g c = read_counted c.run_log.result _ _ _ c.status_of.ensures c.run_log.ensures.read

pub returns-clause-write : goal.returns-clause-write
returns-clause-write g c = write_counted c.run_log.result _ _ _ c.status_of.ensures c.run_log.ensures.write

pub returns-clause-disk : goal.returns-clause-disk
returns-clause-disk g c = (c.open_map.ensures.disk.0, λ is. absurd (no_disk c.run_log.result (sym c.status_of.ensures ∙ is)))
