-- How one leaves an order that samples are drawn from (`AddrManImpl::Delete` in addrman.cpp of
-- Bitcoin Core).
use Rattle.std.specs.Prelude.{ℕ, List, [], ◌∷◌, Bool, position, swap_remove}
use Rattle.std.specs.Option.{option_map_or}

-- the last takes the position of another, and the list is one shorter
abbrev pub without_position : {X : Type 0} → List X → ℕ → List X
without_position [] i = []
without_position (x ∷ xs) i = swap_remove (x ∷ xs) i x

-- the list without the first that passes the test, whose position the last takes
abbrev pub without_first : {X : Type 0} → (X → Bool) → List X → List X
without_first test xs = option_map_or (without_position xs) (position test xs) xs
