-- The decimal digits of a byte.
use Rattle.std.proofs.Common.{◌≡◌, ◌∙◌, ℕ, ◌+◌, ◌/◌, ◌%◌, ◌<◌, ◌≤◌, [], ◌∷◌, ◌++◌, List, append_assoc, decimal, ap, arith}
use Rattle.std.proofs.lemmas.Fmt.{decimal_digit, decimal_step}

pub one_digit : (n : ℕ) → n < 10 → decimal n ≡ (48 + n) ∷ []
one_digit n small = decimal_digit n small

pub two_digits : (n : ℕ) → 10 ≤ n → n < 100 → decimal n ≡ (48 + n / 10) ∷ (48 + n % 10) ∷ []
two_digits n large small =
    decimal_step n large (omega (arith, small))
    ∙ ap (λ ds. ds ++ (48 + n % 10) ∷ []) (one_digit (n / 10) (omega (arith, small)))

pub three_digits : (n : ℕ) → 100 ≤ n → n < 256
    → decimal n ≡ (48 + n / 100) ∷ (48 + n / 10 % 10) ∷ (48 + n % 10) ∷ []
three_digits n large small =
    let first : n / 10 / 10 ≡ n / 100 = omega arith in
    decimal_step n (omega (arith, large)) (omega (arith, small))
    ∙ ap (λ ds. ds ++ (48 + n % 10) ∷ []) (two_digits (n / 10) (omega (arith, large)) (omega (arith, small)))
    ∙ ap (λ d. (48 + d) ∷ (48 + n / 10 % 10) ∷ (48 + n % 10) ∷ []) first

-- what is appended one after another
pub two_parts : (before first second : List ℕ) (a b : ℕ) → first ≡ before ++ a ∷ []
    → second ≡ first ++ b ∷ [] → second ≡ before ++ a ∷ b ∷ []
two_parts before first second a b one two =
    two ∙ ap (λ xs. xs ++ b ∷ []) one ∙ append_assoc before (a ∷ []) (b ∷ [])

pub three_parts : (before first second third : List ℕ) (a b d : ℕ) → first ≡ before ++ a ∷ []
    → second ≡ first ++ b ∷ [] → third ≡ second ++ d ∷ [] → third ≡ before ++ a ∷ b ∷ d ∷ []
three_parts before first second third a b d one two three =
    three ∙ ap (λ xs. xs ++ d ∷ []) (two_parts before first second a b one two)
    ∙ append_assoc before (a ∷ b ∷ []) (d ∷ [])
