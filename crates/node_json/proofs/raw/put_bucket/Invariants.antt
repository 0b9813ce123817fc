use Rattle.std.proofs.Common.{◌≡◌, ◌++◌}
use Rattle.std.specs.List.{flat_map, range_with_len}
use Rattle.node_json.specs.Inside.{tokens_of}
use Rattle.node_json.specs.Raw.{rec_at, slot_member}
use Rattle.node_json.proofs.raw.put_bucket.Given as goal

abbrev pub invariant-slots : goal.invariant-slots
invariant-slots g l =
    l.json ≡ l.fn.json ++ tokens_of (flat_map (λ slot. slot_member l.tables.places l.bucket slot (rec_at l.table l.tables l.bucket slot)) (range_with_len 0 l.slot))
