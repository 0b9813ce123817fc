use Rattle.std.proofs.Common.{subst, sym}
use Rattle.addrman_run.specs.Inside.{IsNoRecords}
use Rattle.addrman_run.proofs.Diffs.{no_peers}
use Rattle.addrman_run.proofs.diff.records_text.Goals as goal

pub returns-in-Err-clause-cause : goal.returns-in-Err-clause-cause
returns-in-Err-clause-cause g c =
    let past = g.F.Folder.past c.args.folder.now in
    subst (λ peers. IsNoRecords peers past c.in-Err.status) (sym c.in-Some.is) (no_peers c.in-Some.chain past c.in-Err.status c.in-Err.ensures.cause)
