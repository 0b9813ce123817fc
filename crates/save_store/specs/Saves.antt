-- What a save does to a folder: to the name of the file, and to the temporary name that its bytes
-- are first written under.
use Rattle.std.specs.Prelude.{◌≡◌, ◌≢◌, ◌⊎◌, ℕ, List, Option, Some, None, true, false}
use Rattle.host_io.specs.Disk.{Disk, MayHave}
use Rattle.host_io.specs.PerName.{under}
use Rattle.host_io.specs.declared.name.Name.{Name}

-- Every other name is as it was.
abbrev pub KeepsOthers : Name → Disk → Disk → Type 0
KeepsOthers name start disk = (other : Name) → other ≢ name → under disk other ≡ under start other

-- A crash leaves at this name nothing that it could not leave at the start.
abbrev pub NoMore : Disk → Disk → Name → Type 0
NoMore start disk name = (found : Option (List ℕ)) →
    MayHave (under disk name) found → MayHave (under start name) found

-- The old file or the new one: a crash leaves at the name what it could leave there at the start, or
-- what is new, and at each other name but the temporary one nothing more than at the start.
pub record IsOldOrNew (temp name : Name) (IsNew : Option (List ℕ) → Type 0)
    (start disk : Disk) : Type 0 where
  pub at : (found : Option (List ℕ)) → MayHave (under disk name) found →
      MayHave (under start name) found ⊎ IsNew found
  pub others : (other : Name) → other ≢ temp → other ≢ name → NoMore start disk other

-- The same, where these bytes are what is new.
abbrev pub PublishesOrNot : Name → Name → List ℕ → Disk → Disk → Type 0
PublishesOrNot temp name bytes = IsOldOrNew temp name (λ found. found ≡ Some bytes)

-- The file reads as these bytes, and every crash that leaves it leaves these.
pub record IsSafe (name : Name) (bytes : List ℕ) (disk : Disk) : Type 0 where
  pub reads : (under disk name).file ≡ Some bytes
  pub only : (found : List ℕ) → MayHave (under disk name) (Some found) → found ≡ bytes

-- Every crash leaves the file with these bytes.
abbrev pub IsStored : Name → List ℕ → Disk → Type 0
IsStored name bytes disk =
    (found : Option (List ℕ)) → MayHave (under disk name) found → found ≡ Some bytes

-- No crash leaves a file at this name.
abbrev pub IsFree : Name → Disk → Type 0
IsFree name disk = (found : Option (List ℕ)) → MayHave (under disk name) found → found ≡ None

-- The file was created since the folder was synced last, reads as these bytes, and was synced since
-- the last of them came.
pub record IsSynced (name : Name) (bytes : List ℕ) (disk : Disk) : Type 0 where
  pub reads : (under disk name).file ≡ Some bytes
  pub synced : (under disk name).is_torn ≡ false
  pub created : (under disk name).is_loose ≡ true
