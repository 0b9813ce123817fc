-- What is still missing while a file is read: the part at the next offset, and after it the right
-- parts that are pending.
use Rattle.std.specs.Prelude.{◌≡◌, ◌≢◌, ℕ, ◌+◌, ◌<◌, ◌≤◌, Bool, false, List, [], ◌∷◌, ◌++◌, length, drop, replicate, ⊤, nat_lt, if◌then◌else◌}
use Rattle.asmap_vm.specs.Code.{Tree, code, IsSaneWithin, IsNoShortMatch, TakesDefault}
use Rattle.asmap_vm.specs.declared.stack.RightPart.{RightPart}
use Rattle.asmap_vm.specs.declared.scan.Before.{Before}
use Rattle.asmap_vm.specs.declared.scan.Before.TheVariants.{Nothing, ShortMatch, Default}
use Rattle.asmap_vm.specs.declared.scan.Scan.{Scan}

-- the tree may follow this
abbrev pub Suits : Before → Tree → Type 0
Suits Nothing t = ⊤
Suits ShortMatch t = IsNoShortMatch t
Suits Default t = TakesDefault t

-- the bits are the code of a tree that is sane there, and then the rest
pub record IsPart (before : Before) (left : ℕ) (bits rest : List Bool) : Type 0 where
  pub tree : Tree
  pub sane : IsSaneWithin left tree
  pub suits : Suits before tree
  pub spelled : bits ≡ code tree ++ rest

-- what a match of this many bits is to the part after it
abbrev pub after_match : ℕ → Before
after_match size = if nat_lt size 8 then ShortMatch else Nothing

-- at most seven bits, all zero
pub record IsPadding (bits : List Bool) : Type 0 where
  pub few : length bits ≤ 7
  pub zero : bits ≡ replicate (length bits) false

-- what has to follow a part of a file of this many bits: the pending right parts, each at its
-- offset, and the padding
unfoldable pub Follow : ℕ → List RightPart → List Bool → Type 0
Follow total [] bits = IsPadding bits
Follow total (right ∷ more) bits =
    (right.begins + length bits ≡ total)
    × ((rest : List Bool) × IsPart Nothing right.left bits rest × Follow total more rest)

-- the bits from the next offset on are a part that is sane there, and what has to follow it
unfoldable pub Completes : List Bool → Scan → Type 0
Completes bits scan =
    (rest : List Bool) × IsPart scan.before scan.left (drop scan.offset bits) rest
    × Follow (length bits) scan.pending rest

-- before the first instruction
abbrev pub start : Scan
start = record { offset = 0; left = 128; before = Nothing; pending = [] }

-- the jump of each pending right part took an address bit of its own
abbrev pub HaveOwnBits : List RightPart → Type 0
HaveOwnBits [] = ⊤
HaveOwnBits (right ∷ more) = (right.left + length more < 128) × HaveOwnBits more

-- the offset is within the file, and no more jumps are open than address bits were taken
pub record IsUnderWay (bits : List Bool) (scan : Scan) : Type 0 where
  pub offset : scan.offset ≤ length bits
  pub open_jumps : scan.left + length scan.pending ≤ 128
  pub apart : HaveOwnBits scan.pending

-- no part is pending and no padding follows, or the next right part doesn't begin here
abbrev pub IsStuckAt : List Bool → ℕ → List RightPart → Type 0
IsStuckAt bits offset [] = IsPadding (drop offset bits) → ⊥
IsStuckAt bits offset (right ∷ more) = right.begins ≢ offset

-- The reading cannot go on at the offset that it has come to.
abbrev pub IsStuck : List Bool → Scan → Type 0
IsStuck bits scan = IsStuckAt bits scan.offset scan.pending

-- one instruction was read, and the file is sane exactly when the rest is what has to follow
pub record Advances (bits : List Bool) (old new : Scan) : Type 0 where
  pub under_way : IsUnderWay bits new
  pub further : old.offset < new.offset
  pub sound : Completes bits new → Completes bits old
  pub complete : Completes bits old → Completes bits new
