use Rattle.std.proofs.Common.{◌-◌, length}
use Rattle.asmap_vm.proofs.WalkLaws.{IsFollowing}
use Rattle.asmap_vm.proofs.walk.Walk.follow.Given as goal

abbrev pub invariant-loop-answer : goal.invariant-loop-answer
invariant-loop-answer l = IsFollowing l.bits l.address l.walk

abbrev pub decreases-loop-answer : goal.decreases-loop-answer
decreases-loop-answer l = length l.bits - l.walk.offset
