use Rattle.std.proofs.Common.{◌≡◌, ◌≤◌, ◌<◌, ◌-◌, All, AllPairs}
use Rattle.wire_num.specs.Readings.{times_at}
use Rattle.peers_file.specs.Readings.{bucket_at, all_buckets_at}
use Rattle.peers_file.proofs.BucketLaws.{with_pairs}
use Rattle.peers_file.proofs.repeated.take_buckets.Given as goal

-- the pairs that were read and those that are left are all of them
abbrev pub invariant-loop-bucket : goal.invariant-loop-bucket
invariant-loop-bucket l = record {
  told : with_pairs l.listed.items (times_at l.bucket (l.bucket_count - l.bucket) (bucket_at l.new_count) l.rest) ≡ all_buckets_at l.new_count l.bucket_count l.bytes;
  buckets : All (λ pair. pair.0 < l.bucket) l.listed.items;
  indexes : All (λ pair. pair.1 < l.new_count) l.listed.items;
  rising : AllPairs (λ pair later. pair.0 ≤ later.0) l.listed.items;
}
