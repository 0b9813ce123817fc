-- Lengths of parts of a list.
use Rattle.std.proofs.Common.{◌≡◌, ℕ, ◌+◌, ◌≤◌, Bool, true, false, cond, List, [], ◌∷◌, length, filter, nat_lt, refl, arith}

-- those below a number and those above it are no more than all
pub length-below_above : (n : ℕ) (xs : List ℕ) → length (filter (λ x. nat_lt x n) xs) + length (filter (λ x. nat_lt n x) xs) ≤ length xs
length-below_above n [] = omega arith
length-below_above n (x ∷ xs) = by (nat_lt x n) (nat_lt n x) refl refl (length-below_above n xs)
  where
    by : (p q : Bool) → nat_lt x n ≡ p → nat_lt n x ≡ q → length (filter (λ y. nat_lt y n) xs) + length (filter (λ y. nat_lt n y) xs) ≤ length xs
        → length (cond p (x ∷ filter (λ y. nat_lt y n) xs) (filter (λ y. nat_lt y n) xs)) + length (cond q (x ∷ filter (λ y. nat_lt n y) xs) (filter (λ y. nat_lt n y) xs)) ≤ length (x ∷ xs)
    by true true a b h = absurd (grind arith)
    by true false a b h = omega arith
    by false true a b h = omega arith
    by false false a b h = omega arith
