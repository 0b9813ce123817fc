use Rattle.std.proofs.Common.{◌≡◌, take}
use Rattle.raw_file.specs.Listing.{tried_of}
use Rattle.raw_file.proofs.peers.tried_of.Given as goal

abbrev pub invariant-loop-row : goal.invariant-loop-row
invariant-loop-row l = l.recs.items ≡ tried_of (take l.row-index l.rows)
