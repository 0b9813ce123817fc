use Rattle.std.proofs.Common.{sym, subst}
use Rattle.log_run.specs.Run.{Streams}
use Rattle.addrman_run.specs.Limit.{LimitOutcome}
use Rattle.addrman_run.proofs.Limits.{outcome_of}
use Rattle.addrman_run.proofs.limit.limit.Goals as goal

pub returns-clause-outcome : goal.returns-clause-outcome
returns-clause-outcome g c =
    let old : Streams = record { left = g.L.Source.left c.args.log.now; written = g.K.Sink.written c.args.out.now } in
    let new : Streams = record { left = g.L.Source.left c.run_log.new.log; written = g.K.Sink.written c.run_log.new.out } in
    subst (LimitOutcome old new) (sym c.status_of.ensures)
    (outcome_of c.make-lines.result _ old new c.run_log.result c.make-lines.ensures c.connections_are_apart.ensures c.run_log.ensures.ran.ran)
