-- What a save event does to the folder.
use Rattle.std.specs.Prelude.{◌≡◌, ℕ, Bool, List, Option, Some, None, IfSome, ⊤}
use Rattle.host_io.specs.Disk.{Disk}
use Rattle.host_io.specs.Faults.{Rose}
use Rattle.host_io.specs.Past.{Always, Past}
use Rattle.host_io.specs.PerName.{under}
use Rattle.host_io.specs.declared.name.Name.TheVariants.{Peers, PeersTemp}
use Rattle.log_lines.specs.declared.reply.Reply.{Reply}
use Rattle.save_store.specs.Job.{Job, ReadsAs}
use Rattle.save_store.specs.Saves.{IsOldOrNew, IsStored}
use Rattle.session_saves.specs.Events.{Ended, Event, IsOfEvent}
use Rattle.session_saves.specs.Events.Ended.{NotSaved, Saved}

-- there is such a file, and a crash leaves it
abbrev pub LeavesFile : Option (List ℕ) → Option (List ℕ) → Type 0
LeavesFile None found = ⊥
LeavesFile (Some file) found = found ≡ Some file

-- At peers.dat the old file, or this one, if there is one.
abbrev pub AtMost : Option (List ℕ) → Disk → Disk → Type 0
AtMost file = IsOldOrNew PeersTemp Peers (LeavesFile file)

-- peers.tmp reads as the bytes written of the open save, if one is open
abbrev pub IsOpen : Option Job → Option Past → Type 0
IsOpen job past = IfSome job (λ j. (j.temp ≡ PeersTemp) × ReadsAs PeersTemp j.written past)

-- Why a save ended as it did: every crash leaves its file at peers.dat, or the folder failed.
abbrev pub HasEnded : Option Ended → Option Past → ℕ → ℕ → Type 0
HasEnded None past before after = ⊤
HasEnded (Some (Saved file)) past before after = IfSome past (λ p. IsStored Peers file p.now)
HasEnded (Some (NotSaved file)) past before after = Rose before after

-- what an event has done, to the open save and to the folder, with the file that it may publish
pub record Effect (outcome : Bool → Event) (file : Option (List ℕ)) (answer : Reply)
    (new : Option Job) (before after : Option Past) (faults_before faults_after : ℕ) : Type 0 where
  pub ended : Option Ended
  pub step : IsOfEvent outcome answer new ended
  pub has : HasEnded ended after faults_before faults_after
  pub moments : Always before after (AtMost file)
  pub is_open : IsOpen new after
