-- How an asmap file of Bitcoin Core encodes numbers as bits: `DecodeBits` in util/asmap.cpp and the
-- four tables of class sizes beside it.
use Rattle.std.specs.Prelude.{◌≡◌, ◌==◌, ℕ, ◌+◌, ◌-◌, ◌^◌, ◌<◌, ◌≤◌, Bool, true, false, List, [], ◌∷◌, ◌++◌, if◌then◌else◌, nat_lt, sum_by, length}
use Prim.Native.Nat.{zero, suc}
use Rattle.std.specs.Int.{bit_at}
use Rattle.std.specs.List.{range_with_len, flat_map}
use Rattle.bit_code.specs.declared.coder.Coder.{Coder}
use Rattle.bit_code.specs.declared.coder.Coder.TheVariants.{Kind, Asn, Match, Jump}

-- whether bit k of a number is set, counted from the low one
abbrev pub has_bit : ℕ → ℕ → Bool
has_bit n k = bit_at n k == 1

-- the low k binary digits of a number, high bit first
unfoldable pub digits : ℕ → ℕ → List Bool
digits zero n = []
digits (suc k) n = has_bit n k ∷ digits k n

-- the number whose binary digits these are, high bit first
unfoldable pub number_of : List Bool → ℕ
number_of [] = 0
number_of (b ∷ bits) = (if b then 2 ^ length bits else 0) + number_of bits

-- the low k binary digits of a number, low bit first
unfoldable pub low_digits : ℕ → ℕ → List Bool
low_digits zero n = []
low_digits (suc k) n = low_digits k n ++ has_bit n k ∷ []

-- the bits of a file: the first byte's first, and of each byte the low bit first
unfoldable pub file_bits : List ℕ → List Bool
file_bits bytes = flat_map (low_digits 8) bytes

-- the least value of a coder: `DecodeType`, `DecodeASN`, `DecodeMatch` and `DecodeJump` in
-- util/asmap.cpp
abbrev pub least : Coder → ℕ
least Kind = 0
least Asn = 1
least Match = 2
least Jump = 17

-- how many digits the values of each class have (`TYPE_BIT_SIZES` and its kin in util/asmap.cpp)
unfoldable pub sizes : Coder → List ℕ
sizes Kind = 0 ∷ 0 ∷ 1 ∷ []
sizes Asn = range_with_len 15 10
sizes Match = range_with_len 1 8
sizes Jump = range_with_len 5 26

-- how many values classes of these sizes have: 2 ^ size each
unfoldable pub values_of : List ℕ → ℕ
values_of classes = sum_by (λ size. 2 ^ size) classes

-- The encoding of number n, counted from 0, over classes of these sizes. A zero-bit says that n is
-- of the first class, and its digits follow; a one-bit, that it is of a later class. The last class
-- has no zero-bit.
unfoldable pub spelling_by : List ℕ → ℕ → List Bool
spelling_by [] n = []
spelling_by (size ∷ []) n = digits size n
spelling_by (size ∷ next ∷ more) n =
    if nat_lt n (2 ^ size)
    then false ∷ digits size n
    else true ∷ spelling_by (next ∷ more) (n - 2 ^ size)

-- the bits that encode a value of the coder
unfoldable pub spelling : Coder → ℕ → List Bool
spelling coder n = spelling_by (sizes coder) (n - least coder)

-- the coder can encode this number
pub record HasValue (coder : Coder) (n : ℕ) : Type 0 where
  pub low : least coder ≤ n
  pub high : n < least coder + values_of (sizes coder)

-- the bits begin with the encoding of a value of the coder, and then go on with the rest
pub record Spells (coder : Coder) (n : ℕ) (bits rest : List Bool) : Type 0 where
  pub value : HasValue coder n
  pub spelled : bits ≡ spelling coder n ++ rest

-- the coder of the number after a kind
abbrev pub coder_after : ℕ → Coder
coder_after kind = if kind == 1 then Jump else (if kind == 2 then Match else Asn)

-- the bits begin with a kind and a number of the coder for it, and then go on with the rest
pub record SpellsBoth (kind n : ℕ) (bits rest : List Bool) : Type 0 where
  pub kind_value : HasValue Kind kind
  pub value : HasValue (coder_after kind) n
  pub spelled : bits ≡ spelling Kind kind ++ (spelling (coder_after kind) n ++ rest)
