-- A save in pieces.
use Rattle.std.specs.Prelude.{◌≡◌, ℕ, List, ◌++◌, Option, Some, IfSome, true}
use Rattle.host_io.specs.Past.{Past}
use Rattle.host_io.specs.PerName.{under}
use Rattle.host_io.specs.declared.name.Name.{Name}

-- The temporary name, the bytes written, and those left.
pub record Job : Type 0 where
  pub temp : Name
  pub written : List ℕ
  pub left : List ℕ

-- The whole file.
abbrev pub whole : Job → List ℕ
whole job = job.written ++ job.left

-- The file was created since the folder was synced last, and reads as these bytes, if contracts
-- know the folder's files.
abbrev pub ReadsAs : Name → List ℕ → Option Past → Type 0
ReadsAs name bytes past = IfSome past (λ p.
    ((under p.now name).file ≡ Some bytes) × ((under p.now name).is_loose ≡ true))
