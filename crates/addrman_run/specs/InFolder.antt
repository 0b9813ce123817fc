-- What contracts say of one file of the folder. If they don't know the files, it may be any.
use Rattle.std.specs.Prelude.{◌≡◌, ◌⊎◌, ℕ, ◌<◌, ◌≤◌, List, length, Option, Some, None, IfSome, option_map}
use Rattle.host_io.specs.Past.{Past, files_of}
use Rattle.host_io.specs.PerName.{under}
use Rattle.host_io.specs.declared.name.Name.{Name}
use Rattle.host_io.specs.declared.name.Name.TheVariants as name
use Rattle.addrman_run.specs.declared.status.Status.{Status}
use Rattle.addrman_run.specs.declared.status.Status.TheVariants.{DiskFault, NoFile}

-- the file has these bytes, at most `max`
abbrev pub IsFileIn : Name → ℕ → Option Past → List ℕ → Type 0
IsFileIn name max past bytes =
    (length bytes ≤ max) × IfSome (files_of past) (λ fs. under fs name ≡ Some bytes)

-- the file has these bytes, however many
abbrev pub HasBytes : Name → Option Past → List ℕ → Type 0
HasBytes name past bytes = IfSome (files_of past) (λ fs. under fs name ≡ Some bytes)

-- there is no such file
abbrev pub IsAbsent : Name → Option Past → Type 0
IsAbsent name past = IfSome (files_of past) (λ fs. under fs name ≡ None)

-- the file has this many bytes, more than `max`
abbrev pub IsTooLarge : Name → ℕ → Option Past → ℕ → Type 0
IsTooLarge name max past size =
    (max < size) × IfSome (files_of past) (λ fs. option_map length (under fs name) ≡ Some size)

-- an absent file is reported, unless the folder fails
abbrev pub ReportsAbsence : Name → Option Past → Status → Type 0
ReportsAbsence name past status =
    IfSome (files_of past) (λ fs.
    under fs name ≡ None → (status ≡ NoFile name) ⊎ (status ≡ DiskFault))

-- in a folder with neither asmap.dat nor peers.dat, this holds
abbrev pub InBareFolder : Option Past → Type 0 → Type 0
InBareFolder past Holds =
    IfSome (files_of past) (λ fs.
    under fs name.Asmap ≡ None → under fs name.Peers ≡ None → Holds)

-- an absent peers.dat is reported if there is no asmap.dat either, unless the folder fails
abbrev pub ReportsNoPeers : Option Past → Status → Type 0
ReportsNoPeers past status =
    InBareFolder past ((status ≡ NoFile name.Peers) ⊎ (status ≡ DiskFault))
