use Rattle.addrman_run.specs.Bans.{IsBansText}
use Rattle.addrman_run.proofs.Banning.{unlisted}
use Rattle.addrman_run.proofs.bans.list_bans.Goals as goal

pub returns-in-Err-clause-text : goal.returns-in-Err-clause-text
returns-in-Err-clause-text g c =
    unlisted c.args.rule (IsBansText c.args.rule c.args.now) (g.F.Folder.past c.args.folder.now) (g.K.Sink.written c.args.out.now) _ c.in-Err.ensures.cause
