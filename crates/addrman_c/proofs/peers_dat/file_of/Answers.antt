use Rattle.std.proofs.Common.{◌≤◌, length, sym, subst}
use Rattle.peer_rec.specs.Snapshot.{Snapshot}
use Rattle.table_machine.proofs.SnapshotFits.{few_pairs}
use Rattle.addrman_c.proofs.peers_dat.file_of.Goals as goal

pub write_file-requires-clause-few_listed : goal.write_file-requires-clause-few_listed
write_file-requires-clause-few_listed c =
    subst (λ (snap : Snapshot). length snap.listed ≤ 65536) (sym c.in-Ok.ensures.found) (few_pairs _)
