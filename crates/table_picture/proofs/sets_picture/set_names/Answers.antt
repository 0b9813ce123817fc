use Rattle.std.proofs.Common.{rules, arith}
use Rattle.std.proofs.lemmas.Grind.{common_steps}
use Rattle.table_picture.proofs.Rows.{all_more}
use Rattle.table_picture.specs.Sets.{HasAddress}
use Rattle.table_picture.proofs.sets_picture.set_names.Goals as goal

pub loop-set-preserved : goal.loop-set-preserved
loop-set-preserved c = record {
  names = grind (arith, common_steps);
  long = search rules;
  addresses = all_more HasAddress c.args.sets.now c.loop-set.set-index c.set-item.result c.loop-set-test.true c.set-item.is c.loop-set.invariant.addresses c.in_ok-set_name.ensures.address;
}
