-- What contracts know of a folder until now. "Unchanged" is then an equation of two pasts, and "at
-- every moment since" speaks of a list of disks.
use Rattle.std.specs.Prelude.{◌≡◌, ◌⊎◌, List, [], ◌∷◌, ◌++◌, Option, Some, None, IfSome, true}
use Rattle.host_io.specs.Disk.{Disk, files_on}
use Rattle.host_io.specs.Files.{Files}
use Rattle.host_io.specs.PerName.{under}
use Rattle.host_io.specs.declared.name.Name.{Name}

-- The disk now, and before each call that may have changed it, the last one first.
pub record Past : Type 0 where
  pub now : Disk
  pub before : List Disk

-- The disk at each moment until now, the last one first.
abbrev pub moments : Past → List Disk
moments past = past.now ∷ past.before

-- The files as they read now, if contracts know them.
abbrev pub files_of : Option Past → Option Files
files_of None = None
files_of (Some past) = Some (files_on past.now)

-- The file of this name was created since the folder was synced last, if contracts know the files.
-- No answer of a folder tells that, so who has to show it has to have created the file.
abbrev pub IsNew : Option Past → Name → Type 0
IsNew past name = IfSome past (λ p. (under p.now name).is_loose ≡ true)

-- The past after one moment more.
abbrev pub later : Disk → Past → Past
later disk past = record { now = disk; before = moments past }

-- The past after a call that succeeded.
abbrev pub after : (Disk → Disk) → Option Past → Option Past
after call None = None
after call (Some past) = Some (later (call past.now) past)

-- The past after a call that failed: it was not made, or left a disk that relates to the one
-- before.
abbrev pub AfterFault : (Disk → Disk → Type 0) → Option Past → Option Past → Type 0
AfterFault partly None new = new ≡ None
AfterFault partly (Some past) new =
    (new ≡ Some past) ⊎ ((disk : Disk) × partly past.now disk × (new ≡ Some (later disk past)))

-- P holds of each of the disks.
abbrev pub AllOf : (Disk → Type 0) → List Disk → Type 0
AllOf P [] = Unit {0}
AllOf P (disk ∷ disks) = P disk × AllOf P disks

-- P holds of the disk at each moment from `old` on, `old` included.
pub record HoldsSince (old new : Past) (P : Disk → Type 0) : Type 0 where
  pub since : List Disk
  pub goes_on : moments new ≡ since ++ moments old
  pub each : AllOf P (since ++ old.now ∷ [])

-- The same of a folder whose files contracts may not know. P relates the disk at the start to the
-- disk of a moment.
abbrev pub Always : Option Past → Option Past → (Disk → Disk → Type 0) → Type 0
Always None new P = new ≡ None
Always (Some old) new P = (past : Past) × (new ≡ Some past) × HoldsSince old past (P old.now)
