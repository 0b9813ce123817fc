use Rattle.std.proofs.Common.{◌≤◌, ◌-◌, length, arith, refl}
use Rattle.asmap_vm.proofs.PaddingLaws.{zeros_none, zeros_more, zeros_all, not_zeros}
use Rattle.asmap_vm.proofs.scan.is_padding.Goals as goal

pub returns-then-get : goal.returns-then-get
returns-then-get c =
    (λ h. cc, λ padding. absurd (not_zeros c.args.bits.now c.args.at c.loop-offset.offset c.get.result c.loop-offset.auto.offset c.get.ensures.bit c.if-get.true padding))

pub loop-offset-init : goal.loop-offset-init
loop-offset-init c = zeros_none c.args.bits.now c.args.at

pub loop-offset-preserved : goal.loop-offset-preserved
loop-offset-preserved c =
    zeros_more c.args.bits.now c.args.at c.loop-offset.offset c.get.result c.loop-offset.auto.offset c.get.ensures.next c.if-get.false c.loop-offset.invariant

pub returns : goal.returns
returns c =
    let few : length c.args.bits.now - c.args.at ≤ 7 = omega (arith, c.is_few.ensures.few c.if-not-is_few.false, c.len.ensures) in
    (λ _. zeros_all c.args.bits.now c.args.at c.loop-offset.offset c.requires few (omega arith) (omega arith) c.loop-offset.invariant, λ _. refl)
