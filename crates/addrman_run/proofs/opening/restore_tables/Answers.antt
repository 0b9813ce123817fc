use Rattle.std.proofs.Common.{ap, arith}
use Rattle.addrman_run.proofs.Openings.{restored_next}
use Rattle.addrman_run.proofs.opening.restore_tables.Goals as goal

pub returns-in-Ok-clause-small : goal.returns-in-Ok-clause-small
returns-in-Ok-clause-small g c =
    let fits = c.key.ensures.snapshot in
    omega (arith, ap (λ t. t.next_number) c.in-Ok.ensures.state, restored_next c.args.snap.now c.with_rule-placer.result, fits.few_new, fits.few_tried)
