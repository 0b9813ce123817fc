use Rattle.std.proofs.Common.{List, ℕ, arith, ap, ◌∙◌}
use Rattle.table_groups.proofs.Buckets.{sum-all, sum-more}
use Rattle.table_groups.proofs.Visits.{one_if}
use Rattle.picture_text.specs.Marks.{buckets_of, has_mark, in_bucket}
use Rattle.picture_text.proofs.marks.buckets_of.Goals as goal

pub loop-bucket-preserved : goal.loop-bucket-preserved
loop-bucket-preserved c = record {
  count = sum-more (λ bucket. one_if (has_mark (in_bucket c.args.marks.now bucket) c.args.mark)) c.loop-bucket.bucket c.loop-bucket.count c.one_if_marked-count.result c.loop-bucket.invariant.count
      (c.one_if_marked-count.ensures.is ∙ ap (λ (slots : List ℕ). one_if (has_mark slots c.args.mark)) c.in_bucket.ensures);
  few = omega (arith, c.loop-bucket.invariant.few, c.one_if_marked-count.ensures.few);
}

pub returns : goal.returns
unfolding buckets_of
returns c =
    sum-all (λ bucket. one_if (has_mark (in_bucket c.args.marks.now bucket) c.args.mark)) c.loop-bucket.bucket 1024 c.loop-bucket.count (omega arith) c.loop-bucket.invariant.count
