use Rattle.std.proofs.Common.{◌≡◌, ◌++◌}
use Rattle.std.specs.List.{flat_map, range_with_len}
use Rattle.node_json.specs.Inside.{tokens_of}
use Rattle.node_json.specs.Raw.{bucket_members}
use Rattle.node_json.proofs.raw.put_buckets.Given as goal

abbrev pub invariant-buckets : goal.invariant-buckets
invariant-buckets g l =
    l.json ≡ l.fn.json ++ tokens_of (flat_map (bucket_members l.table l.tables) (range_with_len 0 l.bucket))
