-- Sums over words and tries, one against others.
use Rattle.std.proofs.Common.{◌≡◌, ℕ, zero, suc, ◌+◌, ◌*◌, ◌^◌, ◌≤◌, List, [], ◌∷◌, sum_by, refl, sym, ap, ◌∙◌, arith}
use Rattle.std.specs.List.{range_with_len}
use Rattle.std.proofs.Math.Nat.{pow-succ', pow-zero}
use Rattle.std.proofs.lemmas.List.Sums.{sum_by-cons}
use Rattle.table_laws.proofs.Balance.{sum_nothing}
use Rattle.table_laws.proofs.Draws.{sum_times}
use Rattle.risk_laws.specs.Lists.{sum_words}
use Rattle.risk_tries.specs.Tries.{sum_tries}

sums_two : {X : Type 0} (f g h : X → ℕ) (k u v : ℕ) (xs : List X) → ((x : X) → f x * k ≤ g x * u + h x * v)
    → sum_by f xs * k ≤ sum_by g xs * u + sum_by h xs * v
sums_two f g h k u v [] each = omega arith
sums_two f g h k u v (x ∷ xs) each =
    step (sum_by f (x ∷ xs)) (f x) (sum_by f xs) (sum_by g (x ∷ xs)) (g x) (sum_by g xs) (sum_by h (x ∷ xs)) (h x) (sum_by h xs) k u v
    (sum_by-cons f x xs) (sum_by-cons g x xs) (sum_by-cons h x xs) (each x) (sums_two f g h k u v xs each)
  where
    step : (s a f t b g r c h k u v : ℕ) → s ≡ a + f → t ≡ b + g → r ≡ c + h → a * k ≤ b * u + c * v → f * k ≤ g * u + h * v → s * k ≤ t * u + r * v
    step s a f t b g r c h k u v one two three here rest =
        let first : s * k ≡ (a + f) * k = ap (λ z. z * k) one in
        let second : t * u ≡ (b + g) * u = ap (λ z. z * u) two in
        let third : r * v ≡ (c + h) * v = ap (λ z. z * v) three in
        omega (arith, first, second, third, here, rest)

pub words_two : (size n : ℕ) (f g h : List ℕ → ℕ) (k u v : ℕ) → ((ws : List ℕ) → f ws * k ≤ g ws * u + h ws * v)
    → sum_words size n f * k ≤ sum_words size n g * u + sum_words size n h * v
words_two size zero f g h k u v each = each []
words_two size (suc n) f g h k u v each =
    sums_two (λ w. sum_words size n (λ ws. f (w ∷ ws))) (λ w. sum_words size n (λ ws. g (w ∷ ws))) (λ w. sum_words size n (λ ws. h (w ∷ ws))) k u v (range_with_len 0 size)
    (λ w. words_two size n (λ ws. f (w ∷ ws)) (λ ws. g (w ∷ ws)) (λ ws. h (w ∷ ws)) k u v (λ ws. each (w ∷ ws)))

pub words_low : (size n : ℕ) (f g : List ℕ → ℕ) → ((ws : List ℕ) → f ws ≤ g ws) → sum_words size n f ≤ sum_words size n g
words_low size n f g each = out (sum_words size n f) (sum_words size n g) (words_two size n f g g 1 1 0 (λ ws. into (f ws) (g ws) (each ws)))
  where
    into : (a b : ℕ) → a ≤ b → a * 1 ≤ b * 1 + b * 0
    into a b h = omega (arith, h)

    out : (a b : ℕ) → a * 1 ≤ b * 1 + b * 0 → a ≤ b
    out a b h = omega (arith, h)

pub words_nothing : (size n : ℕ) → sum_words size n (λ ws. 0) ≡ 0
words_nothing size zero = refl
words_nothing size (suc n) = (λ i. sum_by (λ w. words_nothing size n i) (range_with_len 0 size)) ∙ sum_nothing (range_with_len 0 size)

words_constant : (size n k : ℕ) → sum_words size n (λ ws. k) ≡ sum_words size n (λ ws. 1) * k
words_constant size zero k = once k
  where
    once : (k : ℕ) → k ≡ 1 * k
    once k = omega arith
words_constant size (suc n) k =
    (λ i. sum_by (λ w. words_constant size n k i) (range_with_len 0 size)) ∙ sum_times (λ w. sum_words size n (λ ws. 1)) k (range_with_len 0 size)

pub tries_nothing : (size n m : ℕ) → sum_tries size n m (λ tries. 0) ≡ 0
tries_nothing size n zero = refl
tries_nothing size n (suc m) = (λ i. sum_words size n (λ ws. tries_nothing size n m i)) ∙ words_nothing size n

pub tries_low : (size n m : ℕ) (f g : List (List ℕ) → ℕ) → ((tries : List (List ℕ)) → f tries ≤ g tries) → sum_tries size n m f ≤ sum_tries size n m g
tries_low size n zero f g each = each []
tries_low size n (suc m) f g each =
    words_low size n (λ ws. sum_tries size n m (λ tries. f (ws ∷ tries))) (λ ws. sum_tries size n m (λ tries. g (ws ∷ tries)))
    (λ ws. tries_low size n m (λ tries. f (ws ∷ tries)) (λ tries. g (ws ∷ tries)) (λ tries. each (ws ∷ tries)))

pub one_more_try : (size n m : ℕ) → sum_tries size n (suc m) (λ tries. 1) ≡ sum_words size n (λ ws. 1) * sum_tries size n m (λ tries. 1)
one_more_try size n m = words_constant size n (sum_tries size n m (λ tries. 1))

pub all_tries : (size n m : ℕ) → sum_tries size n m (λ tries. 1) ≡ sum_words size n (λ ws. 1) ^ m
all_tries size n zero = sym (pow-zero (sum_words size n (λ ws. 1)))
all_tries size n (suc m) =
    one_more_try size n m ∙ ap (λ k. sum_words size n (λ ws. 1) * k) (all_tries size n m) ∙ sym (pow-succ' (sum_words size n (λ ws. 1)) m)
