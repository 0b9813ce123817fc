use Rattle.node_json.specs.Raw.{bucket_members}
use Rattle.node_json.proofs.Tokens.{one_more}
use Rattle.node_json.proofs.raw.put_buckets.Goals as goal

pub buckets-preserved : goal.buckets-preserved
buckets-preserved g c =
    one_more (bucket_members c.args.table c.args.tables.now) c.buckets.bucket c.args.json.now c.buckets.json _ c.buckets.invariant c.in_ok-put_bucket.ensures
