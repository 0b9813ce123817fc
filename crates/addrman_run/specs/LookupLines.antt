-- What looking up each peer of a log writes, and how it ends.
use Rattle.std.specs.Prelude.{◌≡◌, ℕ, ◌+◌, List, [], ◌∷◌, Option, Some, ⊤}
use Rattle.asmap_vm.specs.Asmap.{Asmap}
use Rattle.grammar.specs.Fields.{AllMean, AreAtFault, OfPeer, ThePeer}
use Rattle.grammar.specs.Words.{fields_of}
use Rattle.grammar.specs.declared.fault.LineFault.{LineFault}
use Rattle.host_io.specs.Lines.{IsPassedOver}
use Rattle.host_io.specs.Outside.{Outside}
use Rattle.host_io.specs.Past.{Past}
use Rattle.host_io.specs.Reading.{TakesAtMost}
use Rattle.host_io.specs.declared.name.Name.TheVariants as name
use Rattle.log_run.specs.Run.{Streams}
use Rattle.log_run.specs.declared.run.LogEnd.{LogEnd}
use Rattle.log_run.specs.declared.sizes.TheConstants.{MAX_LOG}
use Rattle.net_addr.specs.declared.peer.Peer.{Peer}
use Rattle.addrman_run.specs.Asmaps.{IsMapIn, ReportsAsmap}
use Rattle.addrman_run.specs.EachLine.{Answered}
use Rattle.addrman_run.specs.InFolder.{IsAbsent, ReportsAbsence}
use Rattle.addrman_run.specs.Log.{LogOutcome, streams_of}
use Rattle.addrman_run.specs.Lookup.{lookup_text}
use Rattle.addrman_run.specs.Replay.{IsUntouched}
use Rattle.addrman_run.specs.declared.status.Status.{Status}
use Rattle.addrman_run.specs.declared.status.Status.TheVariants.{DiskFault, Memory, NoFile}

-- the line is a peer
abbrev pub IsPeerLine : List ℕ → Peer → Type 0
IsPeerLine line peer = AllMean (OfPeer ∷ []) (fields_of line) (ThePeer peer ∷ [])

-- the line is neither passed over nor a peer, and this is its fault
abbrev pub HasPeerFault : List ℕ → LineFault → Type 0
HasPeerFault line fault = ¬ IsPassedOver line × AreAtFault (OfPeer ∷ []) (fields_of line) fault

-- what a lookup of a peer writes under an asmap
abbrev pub peer_answer : Asmap → Peer → List ℕ
peer_answer map peer = lookup_text map peer.addr

-- A run over the log under the folder's asmap, by its end, in which each peer is looked up.
pub record LookedUp (past : Option Past) (old new : Streams) (how : LogEnd) : Type 0 where
  pub map : Asmap
  pub has_map : IsMapIn past (Some map)
  pub answered : Answered IsPeerLine peer_answer HasPeerFault map old new how

-- why there is no asmap to look addresses up in
abbrev pub LacksMap : Option Past → Status → Type 0
LacksMap past (NoFile n) = (n ≡ name.Asmap) × IsAbsent name.Asmap past
LacksMap past DiskFault = ⊤
LacksMap past Memory = ⊤
LacksMap past other = ReportsAsmap past other

-- how it ends, by its status
abbrev pub LookupLinesOutcome : Outside → Outside → Status → Type 0
LookupLinesOutcome old new =
    LogOutcome (LookedUp old.past (streams_of old) (streams_of new))
    (λ answer. LacksMap old.past answer × IsUntouched old new)

-- How `lookup -` ends: its outcome by its status. An absent asmap.dat is reported. No file is
-- changed, and at most one byte more than a log may have is read.
pub record LookupLinesEnds (old new : Outside) (answer : Status) : Type 0 where
  pub outcome : LookupLinesOutcome old new answer
  pub absent : ReportsAbsence name.Asmap old.past answer
  pub taken : TakesAtMost old.left new.left (MAX_LOG + 1)
  pub past : new.past ≡ old.past
