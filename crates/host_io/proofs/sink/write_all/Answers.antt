use Rattle.std.proofs.Common.{arith}
use Rattle.std.proofs.lemmas.Grind.{common_steps}
use Rattle.host_io.proofs.Written.{written-step, unknown-step}
use Rattle.host_io.proofs.sink.write_all.Goals as goal

pub loop-done-preserved : goal.loop-done-preserved
loop-done-preserved g c = record {
  within = grind (arith, common_steps, c.in_ok-taken.ensures.some);
  told = written-step _ _ _ _ _ _ c.loop-done.invariant.told c.in_ok-taken.ensures.appended;
  unknown = unknown-step _ _ _ c.loop-done.invariant.unknown c.in_ok-taken.ensures.unknown;
  never_falls = omega (arith, c.in_ok-taken.ensures.never_falls);
}
