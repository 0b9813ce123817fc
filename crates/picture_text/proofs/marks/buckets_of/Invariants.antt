use Rattle.std.proofs.Common.{◌≡◌, ◌≤◌}
use Rattle.std.specs.Prelude.{count_by}
use Rattle.std.specs.List.{range_with_len}
use Rattle.picture_text.specs.Marks.{has_mark, in_bucket}
use Rattle.picture_text.proofs.marks.buckets_of.Given as goal

-- those of the buckets before this one
abbrev pub invariant-loop-bucket : goal.invariant-loop-bucket
invariant-loop-bucket l = record {
  count : l.count ≡ count_by (λ bucket. has_mark (in_bucket l.marks bucket) l.mark) (range_with_len 0 l.bucket);
  few : l.count ≤ l.bucket;
}
