use Rattle.std.proofs.Common.{◌≡◌, ◌++◌, take, All}
use Rattle.std.specs.List.{flat_map}
use Rattle.peer_rec.specs.Snapshot.{IsFileRec}
use Rattle.peers_file.specs.Texts.{record_text}
use Rattle.peers_file.proofs.write.put_records.Given as goal

abbrev pub invariant-loop-rec : goal.invariant-loop-rec
invariant-loop-rec l = record {
  text : l.out.items ≡ l.initial.out.items ++ flat_map record_text (take l.rec-index l.recs);
  fit : All IsFileRec (take l.rec-index l.recs);
}
