-- What is still to be read of a file: the part at the next offset, and after it the right parts of
-- the jumps that are open.
use Rattle.std.specs.Prelude.{◌≡◌, ℕ, ◌-◌, ◌≤◌, Bool, List, [], ◌∷◌, ◌++◌, length, drop, map, ⊤}
use Rattle.asmap_vm.specs.Code.{Tree, code, IsSaneWithin}
use Rattle.prefix_table.specs.declared.rows.Row.{Row}
use Rattle.asmap_back.specs.Back.{first_at, rows_of}
use Rattle.asmap_back.specs.declared.part.Part.{Part}
use Rattle.asmap_back.specs.declared.back_rows.BackRows.{BackRows}

-- a tree at a path, the default there, and the number of the longest row above
pub record Ahead : Type 0 where
  pub tree : Tree
  pub path : List Bool
  pub default : ℕ
  pub last : ℕ

-- the part without its tree
abbrev pub part_of : Ahead → Part
part_of a =
    record { bits = first_at a.path; len = length a.path; default = a.default; last = a.last }

-- the tree is sane for the address bits that are left after its path
pub record IsSaneAhead (a : Ahead) : Type 0 where
  pub short : length a.path ≤ 128
  pub sane : IsSaneWithin (128 - length a.path) a.tree

-- All parts that are still to be read are sane.
abbrev pub AreSane : List Ahead → Type 0
AreSane [] = ⊤
AreSane (a ∷ more) = IsSaneAhead a × AreSane more

-- after each part there are no more parts than its path has bits
abbrev pub AreDeep : List Part → Type 0
AreDeep [] = ⊤
AreDeep (part ∷ more) = (length more ≤ part.len) × AreDeep more

-- the rows of some parts
unfoldable pub rows_ahead : List Ahead → List Row
rows_ahead [] = []
rows_ahead (a ∷ more) = rows_of a.tree a.path a.default a.last ++ rows_ahead more

-- the bits of some parts
unfoldable pub code_ahead : List Ahead → List Bool
code_ahead [] = []
code_ahead (a ∷ more) = code a.tree ++ code_ahead more

-- the bits from an offset on are the code of these parts, whose rows are left
pub record AreAhead (bits : List Bool) (at : ℕ) (parts : List Part) (left : List Row) : Type 0 where
  pub ahead : List Ahead
  pub are : map part_of ahead ≡ parts
  pub sane : AreSane ahead
  pub deep : AreDeep parts
  pub rest : List Bool
  pub spelled : drop at bits ≡ code_ahead ahead ++ rest
  pub rows_are : left ≡ rows_ahead ahead

-- these rows are still to come
pub record HasLeft (rows : BackRows) (left : List Row) : Type 0 where
  pub parts : AreAhead rows.bits rows.reading.offset rows.reading.parts left
  pub within : rows.reading.offset ≤ length rows.bits

-- how many bits of the file are still to be read
abbrev pub bits_left : BackRows → ℕ
bits_left rows = length rows.bits - rows.reading.offset
