-- A folder in memory: what it had at first, its changes, and which of its calls fail.
use Rattle.std.specs.Prelude.{◌≡◌, ◌==◌, ℕ, List, [], ◌∷◌, ◌++◌, Bool, true, false, Option, Some, IsSome, find, map, ◌⊎◌}
use Rattle.std.specs.Option.{option_map}
use Rattle.host_io.specs.Disk.{Disk, after_append, after_create, after_rename, after_sync, after_sync_dir, files_on, safe}
use Rattle.host_io.specs.Faults.{raised}
use Rattle.host_io.specs.Files.{Files}
use Rattle.host_io.specs.Past.{Past, later}
use Rattle.host_io.specs.PerName.{each, with}
use Rattle.host_io.specs.declared.call.Action.{Action}
use Rattle.host_io.specs.declared.call.Call.{Call}
use Rattle.host_io.specs.declared.call.Change.{Change}
use Rattle.host_io.specs.declared.call.Change.TheVariants.{Put, Created, Appended, Synced, Renamed, FolderSynced}

-- The disk after a change.
abbrev pub after_change : Change → Disk → Disk
after_change (Put name bytes) disk = with disk name (safe (Some bytes))
after_change (Created name) disk = after_create name disk
after_change (Appended name bytes) disk = after_append name bytes disk
after_change (Synced name) disk = after_sync name disk
after_change (Renamed from to) disk = after_rename from to disk
after_change FolderSynced disk = after_sync_dir disk

-- The past after more changes, the first one first.
abbrev pub past_after : Past → List Change → Past
past_after past [] = past
past_after past (change ∷ changes) = past_after (later (after_change change past.now) past) changes

-- The files at first, all of them safe, and the changes since then, the first one first.
pub record DiskLog : Type 0 where
  pub first : Files
  pub changes : List Change

-- The disk now and before each change.
unfoldable pub past_of : DiskLog → Past
past_of log = past_after (record { now = each safe log.first; before = [] }) log.changes

-- The disk now.
abbrev pub disk_of : DiskLog → Disk
disk_of log = (past_of log).now

-- The log with one change more.
abbrev pub log_with : DiskLog → Change → DiskLog
log_with log change = record log { changes = log.changes ++ change ∷ [] }

-- The changes of the disk; the calls that fail, each by its number, and whether it changes the
-- folder all the same; the calls made until now; how many they were, how many of them failed, and
-- how many of them found no memory for what they keep.
pub record FolderState : Type 0 where
  pub log : DiskLog
  pub fails : List (ℕ × Bool)
  pub history : List Call
  pub calls : ℕ
  pub faults : ℕ
  pub starved : ℕ

-- The files as they read.
abbrev pub files_in : FolderState → Files
files_in folder = files_on (disk_of folder.log)

-- Whether the next call is to fail, and if so whether it changes the folder all the same.
abbrev pub next_fault : FolderState → Option Bool
next_fault folder =
    option_map (λ fail. fail.1) (find (λ fail. fail.0 == folder.calls) folder.fails)

-- The calls made until now and the next one.
abbrev pub history_with : FolderState → Action → List Call
history_with folder action =
    folder.history ++ record { number = folder.calls; action = action } ∷ []

-- The folder after a call that changed nothing.
abbrev pub folder_after_call : FolderState → Action → FolderState
folder_after_call folder action = record folder {
  history = history_with folder action;
  calls = raised folder.calls;
}

-- The folder after a call that made a change.
abbrev pub folder_after_change : FolderState → Action → Change → FolderState
folder_after_change folder action change = record folder {
  log = log_with folder.log change;
  history = history_with folder action;
  calls = raised folder.calls;
}

-- The folder after a call that failed and changed nothing.
abbrev pub folder_after_fault : FolderState → Action → FolderState
folder_after_fault folder action = record folder {
  history = history_with folder action;
  calls = raised folder.calls;
  faults = raised folder.faults;
}

-- The folder after a call that failed and made its change all the same.
abbrev pub folder_after_late_fault : FolderState → Action → Change → FolderState
folder_after_late_fault folder action change = record folder {
  log = log_with folder.log change;
  history = history_with folder action;
  calls = raised folder.calls;
  faults = raised folder.faults;
}

-- The folder after a call that found no memory for what it keeps. Nothing of it is recorded.
abbrev pub folder_after_no_memory : FolderState → FolderState
folder_after_no_memory folder = record folder {
  calls = raised folder.calls;
  faults = raised folder.faults;
  starved = raised folder.starved;
}

-- A call fails that changes nothing: as its maker chose, or out of memory.
abbrev pub FailsWithoutChange : FolderState → Action → FolderState → Type 0
FailsWithoutChange old action new =
    (IsSome (next_fault old) × (new ≡ folder_after_fault old action))
    ⊎ (new ≡ folder_after_no_memory old)

-- A call fails that would make a change: without it or with it, as its maker chose, or out of
-- memory.
abbrev pub FailsToChange : FolderState → Action → Change → FolderState → Type 0
FailsToChange old action change new =
    ((next_fault old ≡ Some false) × (new ≡ folder_after_fault old action))
    ⊎ ((next_fault old ≡ Some true) × (new ≡ folder_after_late_fault old action change))
    ⊎ (new ≡ folder_after_no_memory old)

-- The calls that it recorded.
abbrev pub calls_of : FolderState → Option (List Action)
calls_of folder = Some (map (λ (call : Call). call.action) folder.history)
