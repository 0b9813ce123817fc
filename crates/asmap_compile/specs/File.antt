-- A compiled file.
use Rattle.std.specs.Prelude.{ℕ, List}

-- its bytes, and how many bits the code in them has
pub record CodeFile : Type 0 where
  pub bytes : List ℕ
  pub bits : ℕ
