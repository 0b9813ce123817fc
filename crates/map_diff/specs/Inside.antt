-- How far two asmap files have been read side by side.
use Rattle.std.specs.Prelude.{◌≡◌, ℕ, ◌+◌, ◌-◌, ◌<◌, ◌≤◌, Bool, true, false, List, [], ◌∷◌, ◌++◌, Option, Some, None, drop, length, map, if◌then◌else◌, ⊤}
use Rattle.bit_code.specs.Coder.{digits}
use Rattle.bit_code.specs.Prefixes.{begins_with}
use Rattle.asmap_vm.specs.Code.{Tree, meaning}
use Rattle.asmap_vm.specs.Instructions.{HasTree}
use Rattle.asmap_back.specs.Back.{first_at}
use Rattle.prefix_table.specs.declared.rows.TheConstants.{MAX_ROWS}
use Rattle.map_diff.specs.Diff.{Change, Part, Same, Mixed, after_bit, changes_of, same_pair, part, changed_at}
use Rattle.map_diff.specs.declared.changed.ChangedPrefix.{ChangedPrefix}
use Rattle.map_diff.specs.declared.cursor.Cursor.{Cursor}
use Rattle.map_diff.specs.declared.cursor.Cursor.TheVariants.{Fixed, Fork, Match}
use Rattle.map_diff.specs.declared.walk.Prefix.{Prefix}
use Rattle.map_diff.specs.declared.walk.Pair.{Pair}
use Rattle.map_diff.specs.declared.fault.DiffFault.{DiffFault}
use Rattle.map_diff.specs.declared.fault.DiffFault.TheVariants.{TooMany, Memory}

-- at the offset is a tree of the file for addresses of n more bits, whose map under this default
-- is f
pub record IsTree (bits : List Bool) (n offset default : ℕ) (f : List Bool → ℕ) : Type 0 where
  pub within : offset ≤ length bits
  pub tree : Tree
  pub rest : List Bool
  pub has : HasTree n tree (drop offset bits) rest
  pub map_is : f ≡ (λ address. meaning tree address default)

-- the next address bit decides between two trees of the file
pub record IsFork (bits : List Bool) (n left right default : ℕ) (f : List Bool → ℕ) : Type 0 where
  pub some : 0 < n
  pub zero : IsTree bits (n - 1) left default (after_bit false f)
  pub one : IsTree bits (n - 1) right default (after_bit true f)

-- an address that goes on with these bits gets the number of a map after them, others the default
abbrev pub matching : List Bool → (List Bool → ℕ) → ℕ → List Bool → ℕ
matching wanted next default address =
    if begins_with address wanted then next (drop (length wanted) address) else default

-- the low `size` digits of the number are wanted next
pub record IsMatching (bits : List Bool) (n number size offset default : ℕ)
    (f : List Bool → ℕ) : Type 0 where
  pub some : 0 < size
  pub most : size ≤ 8
  pub fits : size ≤ n
  pub next : List Bool → ℕ
  pub tree : IsTree bits (n - size) offset default next
  pub map_is : f ≡ matching (digits size number) next default

-- the cursor represents this map of addresses of n bits
abbrev pub IsMap : List Bool → ℕ → Cursor → (List Bool → ℕ) → Type 0
IsMap bits n (Fixed asn) f = f ≡ (λ address. asn)
IsMap bits n (Fork left right default) f = IsFork bits n left right default f
IsMap bits n (Match number size offset default) f = IsMatching bits n number size offset default f

-- two cursors represent the maps below a path
pub record AreMaps (old_bits new_bits : List Bool) (at : Prefix) (from to : Cursor)
    (p : List Bool) (f g : List Bool → ℕ) : Type 0 where
  pub len : length p ≡ at.len
  pub bits : first_at p ≡ at.bits
  pub short : length p ≤ 128
  pub old : IsMap old_bits (128 - length p) from f
  pub new : IsMap new_bits (128 - length p) to g

-- the part of two maps below a path
abbrev pub part_at : List Bool → (List Bool → ℕ) → (List Bool → ℕ) → Part
part_at p f g = part (128 - length p) f g

-- the changed prefixes below a path
unfoldable pub rows_at : List Bool → List Change → List ChangedPrefix
rows_at p cs = map (changed_at p) cs

-- what was read of a part: the pair that it is, or its changes, which were appended
abbrev pub IsRead : List Bool → Part → List ChangedPrefix → List ChangedPrefix →
    Option Pair → Type 0
IsRead p whole rows rows_after (Some pair) =
    (whole ≡ Same pair.old pair.new) × (rows_after ≡ rows)
IsRead p whole rows rows_after None =
    (cs : List Change) × (whole ≡ Mixed cs) × (rows_after ≡ rows ++ rows_at p cs)

-- There are too many rows, unless memory ran out. A row may be taken back for each bit of the
-- prefix that is still to be read.
abbrev pub HasCause : List ChangedPrefix → Part → ℕ → DiffFault → Type 0
HasCause rows whole left TooMany =
    MAX_ROWS + 128 < length rows + length (changes_of whole) + left
HasCause rows whole left Memory = ⊤

-- the two sides of a part below a path, and the rows before it
pub record Sides : Type 0 where
  pub path : List Bool
  pub left : Part
  pub right : Part
  pub rows : List ChangedPrefix

-- a part is this pair, or it is none
abbrev pub IsPair : Part → Option Pair → Type 0
IsPair whole (Some pair) = whole ≡ Same pair.old pair.new
IsPair whole None = (cs : List Change) × (whole ≡ Mixed cs)

-- two sides are one pair
abbrev pub is_one_pair : Option Pair → Option Pair → Bool
is_one_pair None right = false
is_one_pair (Some a) None = false
is_one_pair (Some a) (Some b) = same_pair a.old a.new b.old b.new

-- both sides were read, and the changes of the left one appended
pub record AreSides (s : Sides) (rows : List ChangedPrefix) (before : ℕ)
    (left right : Option Pair) (one : Prefix) : Type 0 where
  pub len : length (s.path ++ true ∷ []) ≡ one.len
  pub bits : first_at (s.path ++ true ∷ []) ≡ one.bits
  pub before_is : before ≡ length s.rows
  pub left_is : IsPair s.left left
  pub right_is : IsRead (s.path ++ true ∷ []) s.right
      (s.rows ++ rows_at (s.path ++ false ∷ []) (changes_of s.left)) rows right
