-- What a folder is on its disk: what a crash may leave of it, and how each call changes that. These
-- rules are trusted: no proof says that a real file system keeps them.
--
-- They are said name by name. A crash may leave any mix of what each name may have, so a renamed
-- file may be at both of its names or at neither. A real disk leaves fewer folders, and what is
-- proved of all of these holds of those. The rules are our own, after `fsync(2)` and `rename(2)`.
use Rattle.std.specs.Prelude.{◌≡◌, ◌⊎◌, ℕ, Bool, true, false, List, [], ◌∷◌, ◌++◌, take, Option, Some, None, IsSome}
use Rattle.std.specs.Option.{option_map}
use Rattle.host_io.specs.Files.{Files}
use Rattle.host_io.specs.PerName.{under, with, each}
use Rattle.host_io.specs.declared.entry.Fate.{Fate}
use Rattle.host_io.specs.declared.entry.Fate.TheVariants.{Absent, Exactly, AnyBytes}
use Rattle.host_io.specs.declared.name.Name.{Name}
use Rattle.host_io.specs.declared.name.PerName.{PerName}

-- One name of a folder: the file as it reads; whether it was created or appended to since its last
-- `sync`; whether it was created since the last `sync_dir`; and what else renames since then may
-- leave at the name.
pub record DiskEntry : Type 0 where
  pub file : Option (List ℕ)
  pub is_torn : Bool
  pub is_loose : Bool
  pub others : List Fate

-- A name whose file, or absence, is safe from a crash.
abbrev pub safe : Option (List ℕ) → DiskEntry
safe bytes = record { file = bytes; is_torn = false; is_loose = false; others = [] }

-- A disk: an entry for each name of the folder.
abbrev pub Disk : Type 0
Disk = PerName DiskEntry

-- The files as they read.
abbrev pub files_on : Disk → Files
files_on disk = each (λ entry. entry.file) disk

-- WHAT A CRASH MAY LEAVE

-- A crash with this fate leaves this at the name: nothing, or a file.
abbrev pub Allows : Fate → Option (List ℕ) → Type 0
Allows Absent found = found ≡ None
Allows (Exactly bytes) found = found ≡ Some bytes
Allows AnyBytes found = IsSome found

-- One of the fates allows it.
abbrev pub AllowsOne : List Fate → Option (List ℕ) → Type 0
AllowsOne [] found = ⊥
AllowsOne (fate ∷ fates) found = Allows fate found ⊎ AllowsOne fates found

-- The fate that leaves this at the name: no file, or a file with exactly these bytes.
abbrev pub exactly : Option (List ℕ) → Fate
exactly None = Absent
exactly (Some bytes) = Exactly bytes

-- The fates, and one more before them if a condition holds.
abbrev pub onto_if : Bool → Fate → List Fate → List Fate
onto_if true fate fates = fate ∷ fates
onto_if false fate fates = fates

-- A file that was created or appended to since it was synced may have any bytes.
abbrev pub file_fates : DiskEntry → List Fate → List Fate
file_fates entry rest = exactly entry.file ∷ onto_if entry.is_torn AnyBytes rest

-- A file that was created since the folder was synced may be absent.
abbrev pub fates : DiskEntry → List Fate
fates entry = file_fates entry (onto_if entry.is_loose Absent entry.others)

-- A crash may leave this at the name.
abbrev pub MayHave : DiskEntry → Option (List ℕ) → Type 0
MayHave entry found = AllowsOne (fates entry) found

-- A crash may leave this folder.
abbrev pub IsImage : Disk → Files → Type 0
IsImage disk image = (name : Name) → MayHave (under disk name) (under image name)

-- HOW A CALL CHANGES A NAME

-- `create`: an empty file. It ends what earlier renames may leave at the name.
abbrev pub created : DiskEntry
created = record { file = Some []; is_torn = true; is_loose = true; others = [] }

-- `append`: these bytes at the end.
abbrev pub appended : List ℕ → DiskEntry → DiskEntry
appended bytes entry = record entry {
  file = option_map (λ old. old ++ bytes) entry.file;
  is_torn = true;
}

-- `sync`: the file has its bytes.
abbrev pub synced : DiskEntry → DiskEntry
synced entry = record entry { is_torn = false }

-- `rename`, at the target: it reads as the source. A crash may leave the source's file as it was
-- then, or what it might have left there before.
abbrev pub target : DiskEntry → DiskEntry → DiskEntry
target source old = record {
  file = source.file;
  is_torn = source.is_torn;
  is_loose = false;
  others = file_fates source (fates old);
}

-- `rename`, at the source: it is absent. A crash may leave the file that was there, or what an
-- earlier rename may leave.
abbrev pub left : DiskEntry → DiskEntry
left source = record {
  file = None;
  is_torn = false;
  is_loose = false;
  others = file_fates source source.others;
}

-- `sync_dir`, at each name: no other file than the one it reads as. A torn one stays torn.
abbrev pub settled : DiskEntry → DiskEntry
settled entry = record entry { is_loose = false; others = [] }

-- HOW A CALL CHANGES THE FOLDER: a name that it does not touch stays.

-- The disk after `create` of a name.
abbrev pub after_create : Name → Disk → Disk
after_create name disk = with disk name created

-- The disk after `append` of bytes to the file of a name.
abbrev pub after_append : Name → List ℕ → Disk → Disk
after_append name bytes disk = with disk name (appended bytes (under disk name))

-- The disk after `sync` of the file of a name.
abbrev pub after_sync : Name → Disk → Disk
after_sync name disk = with disk name (synced (under disk name))

-- The disk after `rename` of one name to another.
abbrev pub after_rename : Name → Name → Disk → Disk
after_rename from to disk =
    with (with disk to (target (under disk from) (under disk to))) from (left (under disk from))

-- The disk after `sync_dir`, which concerns every name.
abbrev pub after_sync_dir : Disk → Disk
after_sync_dir disk = each settled disk

-- After a call that failed: the files read as if it was made or as if not, and a crash leaves at a
-- name what one of the two allows. A name that the call would leave as it was is as it was.
pub record IsBetween (old made new : Disk) : Type 0 where
  pub reads : (files_on new ≡ files_on old) ⊎ (files_on new ≡ files_on made)
  pub leaves : (name : Name) (found : Option (List ℕ)) → MayHave (under new name) found →
      MayHave (under old name) found ⊎ MayHave (under made name) found
  pub same : (name : Name) → under made name ≡ under old name → under new name ≡ under old name

-- A call that failed.
abbrev pub Partly : (Disk → Disk) → Disk → Disk → Type 0
Partly call old new = IsBetween old (call old) new

-- An `append` that failed, after any number of the bytes.
abbrev pub PartlyAppended : Name → List ℕ → Disk → Disk → Type 0
PartlyAppended name bytes old new = (n : ℕ) × Partly (after_append name (take n bytes)) old new
