-- What the values of a line's fields hold.
use Rattle.std.specs.Prelude.{ℕ, List, [], get_or}
use Rattle.grammar.specs.Fields.{Value, TheNumber, TheBytes}

-- the number of a value, 0 if it has none
abbrev pub number_in : Value → ℕ
number_in (TheNumber n) = n
number_in other = 0

-- the bytes of a value, none if it has none
abbrev pub bytes_in : Value → List ℕ
bytes_in (TheBytes bytes) = bytes
bytes_in other = []

-- the value of field i, the number 0 if there is none
abbrev pub at : List Value → ℕ → Value
at values i = get_or values i (TheNumber 0)
