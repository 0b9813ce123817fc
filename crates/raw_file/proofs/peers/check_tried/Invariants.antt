use Rattle.std.proofs.Common.{◌≡◌, drop}
use Rattle.raw_file.specs.Listing.{first_twice}
use Rattle.raw_file.proofs.peers.check_tried.Given as goal

abbrev pub invariant-loop-row : goal.invariant-loop-row
invariant-loop-row l = first_twice l.fn.peers.keys l.rows ≡ first_twice l.peers.keys (drop l.row-index l.rows)
