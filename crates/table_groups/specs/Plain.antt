-- Texts in which nothing has to be escaped, neither in XML 1.0 nor in JSON.
use Rattle.std.specs.Prelude.{◌≡◌, ℕ, ◌==◌, ◌&&◌, ◌||◌, not, nat_le, Bool, true, List}
use Rattle.std.specs.List.{list_all}

-- printable ASCII, but for the angle brackets, the ampersand and the quotation mark
abbrev pub is_plain : ℕ → Bool
is_plain b = nat_le 32 b && nat_le b 126 && not (b == 60 || b == 62 || b == 38 || b == 34)

-- Nothing in the text has to be escaped.
abbrev pub IsPlain : List ℕ → Type 0
IsPlain text = list_all is_plain text ≡ true
