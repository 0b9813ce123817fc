use Rattle.std.proofs.Common.{length}
use Rattle.addrman_run.proofs.Trials.{Trying}
use Rattle.addrman_run.proofs.trial.replies_to.Given as goal

-- the lines before these have their replies
abbrev pub invariant-loop-hasher : goal.invariant-loop-hasher
invariant-loop-hasher g l = Trying l.fn.session l.fn.log l.log l.session l.hasher l.bytes

abbrev pub decreases-loop-hasher : goal.decreases-loop-hasher
decreases-loop-hasher g l = length l.log
