use Rattle.std.proofs.Common.{◌≤◌, arith, ◌∙◌}
use Rattle.peers_file.proofs.WriteLaws.{cut_at, bucket_more}
use Rattle.peers_file.proofs.write.put_buckets.Goals as goal

pub loop-bucket-preserved : goal.loop-bucket-preserved
loop-bucket-preserved c =
    let k = c.loop-bucket.bucket in
    let so_far = c.loop-bucket.invariant in
    let parts = cut_at k c.loop-bucket.rest.now c.count_of.result c.split_at.result.0.now c.split_at.result.1.now so_far.low so_far.rising c.count_of.ensures.found c.split_at.ensures.front c.split_at.ensures.back in
    let own : k ≤ k = omega arith in
    record {
      text = bucket_more c.args.listed.now c.args.out.now.items k c.split_at.result.0.now c.loop-bucket.out.items c.put_pairs.new.out.items (parts.own_is ∙ so_far.same k own) so_far.text c.in_ok-put_pairs.ensures;
      same = λ b above. parts.same b above ∙ so_far.same b (omega (arith, above));
      low = parts.low;
      rising = parts.rising;
      few = omega (arith, so_far.few, c.split_at.ensures.back_len);
    }
