use Rattle.indexmap.specs.IndexMap.{keys}
use Rattle.node_json.proofs.Known.{number-more}
use Rattle.node_json.proofs.groups.count_known.Goals as goal

pub loop-number-preserved : goal.loop-number-preserved
loop-number-preserved g c =
    number-more c.args.numbers.now c.loop-number.number-index (keys c.loop-number.seen) (keys c.add_number.new.seen) c.loop-number-test.true c.loop-number.invariant c.in_ok-add_number.ensures
