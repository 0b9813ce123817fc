-- A tree as its first instruction and the parts after it. The instructions are those of `Interpret`
-- in util/asmap.cpp of Bitcoin Core.
use Rattle.std.specs.Prelude.{◌≡◌, ◌==◌, if◌then◌else◌, ℕ, Bool, true, List, [], ◌∷◌, ◌++◌, length}
use Rattle.bit_code.specs.Coder.{number_of, spelling, HasValue}
use Rattle.bit_code.specs.declared.coder.Coder.{Coder}
use Rattle.bit_code.specs.declared.coder.Coder.TheVariants as coders
use Rattle.asmap_vm.specs.Code.{Tree, Return, Jump, Match, Default, code, IsSaneWithin, return_kind, jump_kind, match_kind, default_kind}
use Rattle.asmap_vm.specs.declared.instruction.Instruction.{Instruction}
use Rattle.asmap_vm.specs.declared.instruction.Instruction.TheVariants as instructions

-- the kind of an instruction, as a number
abbrev pub kind_of : Instruction → ℕ
kind_of (instructions.Return n) = return_kind
kind_of (instructions.Jump n) = jump_kind
kind_of (instructions.Match n) = match_kind
kind_of (instructions.Default n) = default_kind

-- the coder of the number of an instruction
abbrev pub coder_of : Instruction → Coder
coder_of (instructions.Return n) = coders.Asn
coder_of (instructions.Jump n) = coders.Jump
coder_of (instructions.Match n) = coders.Match
coder_of (instructions.Default n) = coders.Asn

-- the number of an instruction
abbrev pub number_in : Instruction → ℕ
number_in (instructions.Return n) = n
number_in (instructions.Jump n) = n
number_in (instructions.Match n) = n
number_in (instructions.Default n) = n

-- the instruction of this kind with this number
abbrev pub instruction_at : ℕ → ℕ → Instruction
instruction_at kind n =
    if kind == return_kind then instructions.Return n
    else (if kind == jump_kind then instructions.Jump n
    else (if kind == match_kind then instructions.Match n else instructions.Default n))

-- the bits begin with the instruction, and then go on with the rest
pub record IsNext (i : Instruction) (bits rest : List Bool) : Type 0 where
  pub value : HasValue (coder_of i) (number_in i)
  pub spelled : bits
      ≡ spelling coders.Kind (kind_of i) ++ (spelling (coder_of i) (number_in i) ++ rest)

-- the first instruction of a tree
abbrev pub head : Tree → Instruction
head (Return n) = instructions.Return n
head (Jump l r) = instructions.Jump (length (code l))
head (Match wanted t) = instructions.Match (number_of (true ∷ wanted))
head (Default n t) = instructions.Default n

-- the bits after the first instruction of a tree
abbrev pub tail : Tree → List Bool
tail (Return n) = []
tail (Jump l r) = code l ++ code r
tail (Match wanted t) = code t
tail (Default n t) = code t

-- The bits begin with the code of a tree, and then go on with the rest. The tree is sane, and no
-- path in it takes more than this many address bits.
pub record HasTree (left : ℕ) (t : Tree) (bits rest : List Bool) : Type 0 where
  pub sane : IsSaneWithin left t
  pub spelled : bits ≡ code t ++ rest
