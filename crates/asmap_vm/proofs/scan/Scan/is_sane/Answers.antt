use Rattle.std.proofs.Common.{arith, refl}
use Rattle.asmap_vm.proofs.StepLaws.{IsOnTheWay-start, IsOnTheWay-step}
use Rattle.asmap_vm.proofs.scan.Scan.is_sane.Goals as goal

pub loop-init : goal.loop-init
loop-init c = rw c.start-scan.ensures (IsOnTheWay-start c.args.bits.now)

pub loop-preserved : goal.loop-preserved
loop-preserved c =
    IsOnTheWay-step c.args.bits.now c.loop.scan c.step.new.self c.loop.invariant (c.in-More.ensures.more refl)

pub loop-smaller : goal.loop-smaller
loop-smaller c =
    let step = c.in-More.ensures.more refl in
    omega (arith, step.further, step.under_way.offset)

pub returns-in-Sane : goal.returns-in-Sane
returns-in-Sane c = (λ _. c.loop.invariant.sound (c.in-Sane.ensures.sane refl), λ _. refl)

pub returns-in-Insane : goal.returns-in-Insane
returns-in-Insane c =
    (λ h. cc, λ whole. absurd (c.in-Insane.ensures.insane refl (c.loop.invariant.complete whole)))
