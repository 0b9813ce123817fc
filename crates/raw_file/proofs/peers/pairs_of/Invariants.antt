use Rattle.std.proofs.Common.{◌≡◌, List, map, take}
use Rattle.peer_rec.specs.declared.file_rec.FileRec.{FileRec}
use Rattle.raw_file.specs.Listing.{pair_of, peers_of}
use Rattle.raw_file.proofs.peers.pairs_of.Given as goal

abbrev pub invariant-loop-row : goal.invariant-loop-row
invariant-loop-row l =
    (recs : List FileRec) → l.peers.keys ≡ peers_of recs → l.pairs.items ≡ map (pair_of recs) (take l.row-index l.rows)
