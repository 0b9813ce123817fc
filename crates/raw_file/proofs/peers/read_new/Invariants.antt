use Rattle.std.proofs.Common.{◌≡◌, [], drop, map, take}
use Rattle.raw_file.specs.Listing.{first_again, firsts, peers_of, recs_of, spot_of}
use Rattle.raw_file.proofs.peers.read_new.Given as goal

-- what is there after the rows before this one
abbrev pub invariant-loop-row : goal.invariant-loop-row
invariant-loop-row l = record {
  spots : l.spots.keys ≡ map spot_of (take l.row-index l.rows);
  recs : l.recs.items ≡ firsts (recs_of (take l.row-index l.rows));
  peers : l.peers.keys ≡ peers_of l.recs.items;
  again : first_again [] l.rows ≡ first_again (take l.row-index l.rows) (drop l.row-index l.rows);
}
