use Rattle.std.proofs.Common.{◌≡◌, length, fold}
use Rattle.raw_view.specs.Listed.{new_recs, peers_of, with_row}
use Rattle.raw_view.proofs.records.new_recs.Given as goal

abbrev pub invariant-loop-rest : goal.invariant-loop-rest
invariant-loop-rest l =
    (l.peers.keys ≡ peers_of l.recs.items) × (fold with_row l.recs.items l.rest ≡ new_recs l.initial.rows)

abbrev pub decreases-loop-rest : goal.decreases-loop-rest
decreases-loop-rest l = length l.rest
