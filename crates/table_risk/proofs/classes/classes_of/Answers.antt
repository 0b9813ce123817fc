use Rattle.table_risk.proofs.KindsOf.{classes_more, few_starts}
use Rattle.table_risk.proofs.classes.classes_of.Goals as goal

pub class_of-requires : goal.class_of-requires
class_of-requires g c = few_starts c.args.placer.now c.args.what c.args.occupants.now c.loop-chance.chance-index c.loop-chance-test.true c.requires

pub loop-chance-preserved : goal.loop-chance-preserved
loop-chance-preserved g c =
    classes_more c.args.placer.now c.args.what c.args.occupants.now c.loop-chance.chance-index c.loop-chance.classes.items c.push.new.self.items c.in_ok-class_of.field-0
    c.loop-chance-test.true c.loop-chance.invariant c.in_ok-class_of.ensures c.in_ok-push.ensures.items
