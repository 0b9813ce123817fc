-- The bytes that letters of base 32 encode; some other bytes if the letters encode none.
use Rattle.std.specs.Prelude.{ℕ, ◌+◌, ◌-◌, ◌*◌, ◌/◌, ◌%◌, List, [], ◌∷◌, ◌++◌, nat_lt, if◌then◌else◌}

-- the value of a letter, 0 for other bytes
abbrev pub value_of : ℕ → ℕ
value_of c =
    if nat_lt c 50 then 0 else if nat_lt c 56 then c - 24
    else if nat_lt c 97 then 0 else if nat_lt c 123 then c - 97 else 0

-- five bytes of 40 bits, the highest first
abbrev pub five_bytes : ℕ → List ℕ
five_bytes n =
    n / 4294967296 % 256 ∷ n / 16777216 % 256 ∷ n / 65536 % 256 ∷ n / 256 % 256 ∷ n % 256 ∷ []

-- the 40 bits of eight letters
abbrev pub bits_of : ℕ → ℕ → ℕ → ℕ → ℕ → ℕ → ℕ → ℕ → ℕ
bits_of s t u v w x y z =
    (((value_of s * 32 + value_of t) * 32 + value_of u) * 32 + value_of v) * 1048576
    + (((value_of w * 32 + value_of x) * 32 + value_of y) * 32 + value_of z)

-- the bytes of letters, eight by eight
unfoldable pub decoded : List ℕ → List ℕ
decoded (s ∷ t ∷ u ∷ v ∷ w ∷ x ∷ y ∷ z ∷ more) =
    five_bytes (bits_of s t u v w x y z) ++ decoded more
decoded other = []
