-- The answer of a lookup from an instruction on.
use Rattle.std.specs.Prelude.{◌≡◌, ℕ, ◌≤◌, Bool, List, ◌++◌, drop, Option, Some, None}
use Rattle.bit_code.specs.Coder.{digits}
use Rattle.asmap_vm.specs.Code.{Tree, code, IsSaneWithin, meaning}
use Rattle.asmap_vm.specs.declared.walk.Walk.{Walk}

-- at the offset is the code of a sane tree, which gives this answer for the address bits that are
-- left
pub record Answers (bits : List Bool) (address : ℕ) (walk : Walk) (answer : ℕ) : Type 0 where
  pub tree : Tree
  pub rest : List Bool
  pub sane : IsSaneWithin walk.left tree
  pub spelled : drop walk.offset bits ≡ code tree ++ rest
  pub left : walk.left ≤ 128
  pub gives : meaning tree (digits walk.left address) walk.default ≡ answer

-- before the first instruction
abbrev pub set_out : Walk
set_out = record { offset = 0; left = 128; default = 0 }

-- the same answer is still ahead, or it is given
abbrev pub GivesOn : List Bool → ℕ → Walk → Option ℕ → ℕ → Type 0
GivesOn bits address new None answer = Answers bits address new answer
GivesOn bits address new (Some given) answer = given ≡ answer
