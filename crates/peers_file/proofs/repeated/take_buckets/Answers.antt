use Rattle.std.proofs.Common.{◌<◌, ◌≤◌, ℕ}
use Rattle.peers_file.specs.Readings.{bucket_at, all_buckets_at}
use Rattle.peers_file.proofs.BucketLaws.{begins, goes_on, stops, is_done, nothing, nothing_rises, pairs_more}
use Rattle.peers_file.proofs.repeated.take_buckets.Goals as goal

pub loop-bucket-init : goal.loop-bucket-init
unfolding all_buckets_at
loop-bucket-init c = record {
  told = begins (bucket_at c.args.new_count) c.in_ok-listed.listed.items c.args.bucket_count c.args.bytes.now c.in_ok-listed.ensures.items;
  buckets = nothing (λ (pair : ℕ × ℕ). pair.0 < 0) c.in_ok-listed.listed.items c.in_ok-listed.ensures.items;
  indexes = nothing (λ (pair : ℕ × ℕ). pair.1 < c.args.new_count) c.in_ok-listed.listed.items c.in_ok-listed.ensures.items;
  rising = nothing_rises (λ (pair : ℕ × ℕ) (later : ℕ × ℕ). pair.0 ≤ later.0) c.in_ok-listed.listed.items c.in_ok-listed.ensures.items;
}

pub returns-in-Err-clause-found : goal.returns-in-Err-clause-found
returns-in-Err-clause-found c =
    λ other. stops (bucket_at c.args.new_count) c.loop-bucket.listed.items c.args.bucket_count c.loop-bucket.bucket c.loop-bucket.rest.now c.in-Err.fault (all_buckets_at c.args.new_count c.args.bucket_count c.args.bytes.now) c.loop-bucket-test.true (c.in-Err.ensures other) c.loop-bucket.invariant.told

pub loop-bucket-preserved : goal.loop-bucket-preserved
loop-bucket-preserved c =
    let pairs = c.in-Ok.ensures.0 in
    let joined = c.in-Ok.ensures.1 in
    let read = c.in-Ok.ensures.2 in
    let more = pairs_more c.args.new_count c.loop-bucket.bucket c.loop-bucket.rest.now pairs c.in-Ok.after.now c.loop-bucket.listed.items c.take_bucket.new.listed.items joined read c.loop-bucket.invariant.buckets c.loop-bucket.invariant.indexes c.loop-bucket.invariant.rising in
    record {
      told = rw joined (goes_on (bucket_at c.args.new_count) c.loop-bucket.listed.items c.args.bucket_count c.loop-bucket.bucket c.loop-bucket.rest.now pairs c.in-Ok.after.now (all_buckets_at c.args.new_count c.args.bucket_count c.args.bytes.now) c.loop-bucket-test.true read c.loop-bucket.invariant.told);
      buckets = more.buckets;
      indexes = more.indexes;
      rising = more.rising;
    }

pub returns-clause-found : goal.returns-clause-found
returns-clause-found c =
    is_done (bucket_at c.args.new_count) c.loop-bucket.listed.items c.args.bucket_count c.loop-bucket.bucket c.loop-bucket.rest.now (all_buckets_at c.args.new_count c.args.bucket_count c.args.bytes.now) c.loop-bucket-test.false c.loop-bucket.invariant.told
