use Rattle.std.proofs.Common.{◌≤◌, length, subst, sym}
use Rattle.peer_rec.specs.Snapshot.{Snapshot}
use Rattle.table_machine.proofs.SnapshotFits.{few_pairs}
use Rattle.session_saves.proofs.encode.encode.Goals as goal

pub write_file-requires-clause-few_listed : goal.write_file-requires-clause-few_listed
write_file-requires-clause-few_listed g c =
    subst (λ (snap : Snapshot). length snap.listed ≤ 65536) (sym c.in_ok-snapshot.ensures.found) (few_pairs _)
