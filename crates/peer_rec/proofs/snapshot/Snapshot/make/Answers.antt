use Rattle.std.proofs.Common.{rules}
use Rattle.peer_rec.proofs.snapshot.Snapshot.make.Goals as goal

pub invariant_of-result : goal.invariant_of-result
invariant_of-result c = record {
  key_length = search rules;
  sum_length = search rules;
  few_new = c.requires.few_new;
  few_tried = c.requires.few_tried;
  new_attempts = c.requires.new_attempts;
  tried_attempts = c.requires.tried_attempts;
  few_buckets = c.requires.few_buckets;
  buckets = c.requires.buckets;
  indexes = c.requires.indexes;
  rising = c.requires.rising;
}
