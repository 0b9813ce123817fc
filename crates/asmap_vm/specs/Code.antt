-- The tree of instructions of an asmap file: its encoding in bits, which trees are sane, and the
-- number that a tree gives for an address. The rules are those of `Interpret` and
-- `SanityCheckASMap` in util/asmap.cpp of Bitcoin Core, for 128 address bits.
use Rattle.std.specs.Prelude.{ℕ, ◌-◌, ◌<◌, ◌≤◌, Bool, true, List, [], ◌∷◌, ◌++◌, if◌then◌else◌, length, drop, ⊤}
use Rattle.bit_code.specs.Coder.{digits, number_of, spelling, HasValue}
use Rattle.bit_code.specs.Prefixes.{begins_with}
use Rattle.bit_code.specs.Files as files
use Rattle.bit_code.specs.declared.coder.Coder.TheVariants as coders

-- Return: the answer. Jump: the left part if the next address bit is 0, else the right part. Match:
-- the part after these address bits, or the default if they differ. Default: the part with this
-- default.
pub data Tree : Type 0 where
  Return : (asn : ℕ) → Tree
  Jump : (left right : Tree) → Tree
  Match : (wanted : List Bool) (next : Tree) → Tree
  Default : (asn : ℕ) (next : Tree) → Tree

-- The number of a return (`Instruction::RETURN` in util/asmap.cpp).
abbrev pub return_kind : ℕ
return_kind = 0

-- The number of a jump (`Instruction::JUMP`).
abbrev pub jump_kind : ℕ
jump_kind = 1

-- The number of a match (`Instruction::MATCH`).
abbrev pub match_kind : ℕ
match_kind = 2

-- The number of a default (`Instruction::DEFAULT`).
abbrev pub default_kind : ℕ
default_kind = 3

-- the bits that encode a tree; a jump says how long the left part is
unfoldable pub code : Tree → List Bool
code (Return n) = spelling coders.Kind return_kind ++ spelling coders.Asn n
code (Jump l r) =
    spelling coders.Kind jump_kind ++ spelling coders.Jump (length (code l)) ++ code l ++ code r
code (Match wanted t) =
    spelling coders.Kind match_kind ++ spelling coders.Match (number_of (true ∷ wanted)) ++ code t
code (Default n t) = spelling coders.Kind default_kind ++ spelling coders.Asn n ++ code t

-- it may follow a default directly: it is neither a return nor a default
abbrev pub TakesDefault : Tree → Type 0
TakesDefault (Return n) = ⊥
TakesDefault (Default n t) = ⊥
TakesDefault t = ⊤

-- it may follow a match of fewer than eight bits directly: it is not such a match itself
abbrev pub IsNoShortMatch : Tree → Type 0
IsNoShortMatch (Match wanted t) = 8 ≤ length wanted
IsNoShortMatch t = ⊤

-- a match takes from one to eight bits, and no short one is followed directly by another
pub record IsMatch (wanted : List Bool) (t : Tree) : Type 0 where
  pub some : 0 < length wanted
  pub most : length wanted ≤ 8
  pub joined : length wanted < 8 → IsNoShortMatch t

-- the tree is sane, and no path in it takes more than this many address bits
unfoldable pub IsSaneWithin : ℕ → Tree → Type 0
IsSaneWithin left (Return n) = HasValue coders.Asn n
IsSaneWithin left (Jump l r) =
    (0 < left) × HasValue coders.Jump (length (code l)) × IsSaneWithin (left - 1) l
    × IsSaneWithin (left - 1) r
IsSaneWithin left (Match wanted t) =
    IsMatch wanted t × (length wanted ≤ left) × IsSaneWithin (left - length wanted) t
IsSaneWithin left (Default n t) = HasValue coders.Asn n × TakesDefault t × IsSaneWithin left t

-- a sane tree for addresses of 128 bits
abbrev pub IsSane : Tree → Type 0
IsSane t = IsSaneWithin 128 t

-- the bits of the file are the code of the tree and then at most seven zero-bits
abbrev pub IsTreeFile : Tree → List ℕ → Type 0
IsTreeFile t bytes = files.IsFileOf (code t) bytes

-- the file of a sane tree
pub record IsSaneFile (t : Tree) (bytes : List ℕ) : Type 0 where
  pub sane : IsSane t
  pub file : IsTreeFile t bytes

-- the number that a tree gives for these address bits under this default
unfoldable pub meaning : Tree → List Bool → ℕ → ℕ
meaning (Return n) bits default = n
meaning (Jump l r) [] default = default
meaning (Jump l r) (b ∷ bits) default = if b then meaning r bits default else meaning l bits default
meaning (Match wanted t) bits default =
    if begins_with bits wanted then meaning t (drop (length wanted) bits) default else default
meaning (Default n t) bits default = meaning t bits n

-- the number of an address of 128 bits, read from the high bit on; 0 is none
unfoldable pub asn_of : Tree → ℕ → ℕ
asn_of t address = meaning t (digits 128 address) 0
