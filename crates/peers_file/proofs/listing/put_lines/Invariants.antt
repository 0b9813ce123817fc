use Rattle.std.proofs.Common.{◌≡◌, ◌++◌, take}
use Rattle.peers_file.specs.Listing.{record_lines}
use Rattle.peers_file.proofs.listing.put_lines.Given as goal

-- the first records are written
abbrev pub invariant-loop-index : goal.invariant-loop-index
invariant-loop-index l = l.out.items ≡ l.initial.out.items ++ record_lines l.table (take l.index l.recs)
