-- A search for duplicates on its way.
use Rattle.std.specs.Prelude.{◌≡◌, ℕ, ◌++◌, List, take, drop}
use Rattle.peer_rec.specs.declared.file_rec.FileRec.{FileRec}
use Rattle.net_addr.specs.declared.peer.Peer.{Peer}
use Rattle.table_machine.specs.Restoring.{duplicate_from}
use Rattle.tables.specs.Duplicates.{AreIn}

-- the rest of a list, after the records that are done, finds what the whole list does
pub record IsScanned (earlier recs : List FileRec) (start : ℕ) (peers : List Peer)
    (done at : ℕ) : Type 0 where
  pub are : AreIn (earlier ++ take done recs) peers
  pub same : duplicate_from (earlier ++ take done recs) at (drop done recs)
      ≡ duplicate_from earlier start recs
