use Rattle.std.proofs.Common.{◌≡◌, refl, sym, subst}
use Rattle.log_run.specs.declared.line_steps.Stop.TheVariants.{Fault}
use Rattle.addr_limit.specs.Lines.{HasEventFault}
use Rattle.addr_limit.proofs.limit_log.LimitLogLineStepsUnit.carry_out.Goals as goal

pub returns-in-Err-clause-fault : goal.returns-in-Err-clause-fault
returns-in-Err-clause-fault g c = λ fault is.
    let same : c.of.result ≡ Fault fault = cc is in
    let told = c.of.ensures.fault fault same in
    (subst (HasEventFault c.args.line.now) (sym told.0) (c.in-Err.ensures.fault c.in-Err.fault refl told.1), refl)
