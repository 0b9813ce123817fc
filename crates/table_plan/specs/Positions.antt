-- Numbers in an order and, by number, their positions.
use Rattle.std.specs.Prelude.{◌≡◌, ℕ, ◌<◌, List, length, get_or}

-- the position of each number of the order leads back to it
pub record ArePositions (numbers positions : List ℕ) : Type 0 where
  pub below : (i : ℕ) → i < length numbers → get_or numbers i 0 < length positions
  pub back : (i : ℕ) → i < length numbers → get_or positions (get_or numbers i 0) 0 ≡ i
