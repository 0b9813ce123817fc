use Rattle.std.proofs.Common.{◌≡◌, ◌+◌, ◌-◌, get_or, min, arith, ◌∙◌}
use Rattle.std.proofs.lemmas.List.{length-set}
use Rattle.risk_tries.proofs.LeastSums.{one_more, whole_array}
use Rattle.risk_tries.proofs.ten.with_share.Goals as goal

pub loop-count-preserved : goal.loop-count-preserved
loop-count-preserved c =
    let least : c.min.result ≡ min (c.args.share + get_or c.args.least (c.loop-count.count - 1) 0) (get_or c.args.least c.loop-count.count 0) = c.min.ensures in
    record {
      some = omega arith;
      long = length-set c.loop-count.more c.loop-count.count c.min.result ∙ c.loop-count.invariant.long;
      taken = one_more c.args.share c.args.least c.loop-count.more c.loop-count.count c.min.result c.loop-count.invariant.some
          (omega (arith, c.loop-count-test.true, c.loop-count.invariant.long)) c.loop-count.invariant.taken least;
    }

pub returns : goal.returns
returns c =
    whole_array c.args.share c.args.least c.loop-count.more c.loop-count.count c.loop-count-test.false (c.loop-count.auto.count-end (omega arith))
    c.loop-count.invariant.long c.loop-count.invariant.taken
