use Rattle.std.proofs.Common.{All, ◌≡◌, ◌+◌, ◌≤◌, List, take}
use Rattle.peer_rec.specs.Snapshot.{IsFileRec}
use Rattle.peer_rec.specs.declared.file_rec.FileRec.{FileRec}
use Rattle.tables.specs.Duplicates.{AreIn}
use Rattle.tables.specs.Scanned.{IsScanned}
use Rattle.tables.proofs.duplicates.duplicate_from.Given as goal

abbrev pub invariant-loop-rec : goal.invariant-loop-rec
invariant-loop-rec g l = record {
  scanned : (earlier : List FileRec) → AreIn earlier l.initial.peers → IsScanned earlier l.recs l.start l.peers l.rec-index l.at;
  fit : All IsFileRec (take l.rec-index l.recs);
  few : l.at ≡ l.start + l.rec-index;
  steps : l.steps ≤ l.fn.steps + l.rec-index;
}
