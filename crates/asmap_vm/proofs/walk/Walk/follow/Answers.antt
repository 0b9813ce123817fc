use Rattle.std.proofs.Common.{arith}
use Rattle.asmap_vm.proofs.WalkLaws.{IsFollowing-start, IsFollowing-step}
use Rattle.asmap_vm.proofs.walk.Walk.follow.Goals as goal

pub loop-answer-init : goal.loop-answer-init
loop-answer-init c = IsFollowing-start c.args.bits.now c.args.address c.requires.ahead

pub step-requires-clause-offset : goal.step-requires-clause-offset
step-requires-clause-offset c = c.loop-answer.invariant.offset

pub step-requires-clause-ahead : goal.step-requires-clause-ahead
step-requires-clause-ahead c = c.loop-answer.invariant.ahead

pub loop-answer-preserved : goal.loop-answer-preserved
loop-answer-preserved c =
    IsFollowing-step c.args.bits.now c.args.address c.loop-answer.walk c.step.new.self c.loop-answer.invariant c.in_default.ensures.offset.1 c.in_default.ensures.gives

pub loop-answer-smaller : goal.loop-answer-smaller
loop-answer-smaller c = omega (arith, c.in_default.ensures.offset)

pub returns-in-Some : goal.returns-in-Some
returns-in-Some c = λ answer a. c.in-Some.ensures.gives answer (c.loop-answer.invariant.same answer a)
