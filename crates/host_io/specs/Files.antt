-- The files of a folder, each under one of a few names. They are a record by name, so that two
-- folders compare as values.
use Rattle.std.specs.Prelude.{ℕ, List, Option, None, Some, IsSome, IfSome}
use Rattle.host_io.specs.PerName.{under}
use Rattle.host_io.specs.declared.name.Name.{Name}
use Rattle.host_io.specs.declared.name.PerName.{PerName}

-- The bytes of each file, or None if it is absent.
abbrev pub Files : Type 0
Files = PerName (Option (List ℕ))

-- The bytes of a file, if contracts know the folder's files and this one is there.
abbrev pub known_bytes : Option Files → Name → Option (List ℕ)
known_bytes None name = None
known_bytes (Some files) name = under files name

-- The file is there, if contracts know the folder's files.
abbrev pub IsThere : Option Files → Name → Type 0
IsThere told name = IfSome told (λ files. IsSome (under files name))
