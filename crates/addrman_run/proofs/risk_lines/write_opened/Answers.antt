use Rattle.std.proofs.Common.{refl}
use Rattle.host_io.specs.Outside.{outside}
use Rattle.addrman_run.specs.Log.{streams_of}
use Rattle.addrman_run.specs.RiskLines.{RiskedSets}
use Rattle.addrman_run.proofs.ReadingSets.{risked_by, unopened_by}
use Rattle.addrman_run.proofs.risk_lines.write_opened.Goals as goal

pub returns-in-Err-clause-outcome : goal.returns-in-Err-clause-outcome
returns-in-Err-clause-outcome g c =
    let old = outside g.L.Source g.F.Folder g.K.Sink c.args.log.now c.args.folder.now c.args.out.now in
    let new = outside g.L.Source g.F.Folder g.K.Sink c.args.log.now c.open_peers.new.folder c.args.out.now in
    unopened_by (RiskedSets c.args.kind old.past (streams_of old) (streams_of new)) c.args.kind old new c.in-Err.status c.in-Err.ensures.cause
    (record { written = refl; log = (refl, refl); past = c.open_peers.ensures.same })

pub returns-clause-outcome : goal.returns-clause-outcome
returns-clause-outcome g c =
    let old = outside g.L.Source g.F.Folder g.K.Sink c.args.log.now c.args.folder.now c.args.out.now in
    let new = outside g.L.Source g.F.Folder g.K.Sink c.over_tables.new.log c.open_peers.new.folder c.over_tables.new.out in
    risked_by c.args.kind old new c.in-Ok.tables c.in-Ok.ensures.found c.over_tables.result c.over_tables.ensures.outcome
