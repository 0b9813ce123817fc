-- Triples are at most those of all starts.
use Rattle.std.proofs.Common.{◌≡◌, ℕ, suc, ◌+◌, ◌-◌, ◌*◌, ◌/◌, ◌^◌, ◌≤◌, ◌<◌, List, [], ◌∷◌, All, refl, sym, ap, ◌∙◌, arith}
use Rattle.std.proofs.Math.Nat.{div-lt_iff_lt-mul, min-le_right, mul-le-mul, mul-le-mul_left}
use Rattle.std.proofs.lemmas.List.Elements.{All-head, All-tail}
use Rattle.std.proofs.lemmas.List.Sums.{sum_by-cons}
use Rattle.risk_sum.specs.declared.kinds.Kind.{Kind}
use Rattle.peer_rec.specs.Rec.{next_factor}
use Rattle.risk_sum.specs.Kinds.{accepting, most_by, refused_by, rounded_up, starts_of, taken_by}

pub taken_few : (kinds : List Kind) (factor : ℕ) → All (λ k. k.theirs ≤ k.all) kinds → taken_by kinds factor ≤ starts_of kinds * 2 ^ 30
taken_few [] factor h = omega arith
taken_few (k ∷ ks) factor h =
    let here = mul-le-mul (All-head (λ (j : Kind). j.theirs ≤ j.all) k ks h) (min-le_right ((k.chance * factor + (2 ^ 30 - 1)) / 2 ^ 30) (2 ^ 30)) in
    join _ _ _ _ _ _ (sum_by-cons (λ (j : Kind). j.theirs * accepting j.chance factor) k ks) (sum_by-cons (λ (j : Kind). j.all) k ks) here (taken_few ks factor (All-tail (λ (j : Kind). j.theirs ≤ j.all) k ks h))
  where
    join : (t x y s a b : ℕ) → t ≡ x + y → s ≡ a + b → x ≤ a * 2 ^ 30 → y ≤ b * 2 ^ 30 → t ≤ s * 2 ^ 30
    join t x y s a b one two three four = omega (arith, one, two, three, four)

pub refused_few : (kinds : List Kind) (factor : ℕ) → refused_by kinds factor ≤ starts_of kinds * 2 ^ 30
refused_few [] factor = omega arith
refused_few (k ∷ ks) factor =
    let less : 2 ^ 30 - accepting k.chance factor ≤ 2 ^ 30 = omega arith in
    let here = mul-le-mul_left k.all less in
    join _ _ _ _ _ _ (sum_by-cons (λ (j : Kind). j.all * (2 ^ 30 - accepting j.chance factor)) k ks) (sum_by-cons (λ (j : Kind). j.all) k ks) here (refused_few ks factor)
  where
    join : (t x y s a b : ℕ) → t ≡ x + y → s ≡ a + b → x ≤ a * 2 ^ 30 → y ≤ b * 2 ^ 30 → t ≤ s * 2 ^ 30
    join t x y s a b one two three four = omega (arith, one, two, three, four)

-- a part of a number is at most that, also rounded up
pub rounded_few : (l r b : ℕ) → 0 < b → r ≤ b → rounded_up (l * r) b ≤ l
rounded_few l r b some low =
    let less : l * r + (b - 1) < (l + 1) * b = below (l * r) (l * b) (mul-le-mul_left l low) refl in
    let h : (l * r + (b - 1)) / b < l + 1 = (div-lt_iff_lt-mul some).1 less in
    omega (arith, h)
  where
    below : (x y : ℕ) → x ≤ y → y ≡ l * b → x + (b - 1) < (l + 1) * b
    below x y one is = omega (arith, one, is, some)

pub product_low : (l o b : ℕ) → l ≤ 2 ^ 64 → o ≤ b → b ≤ 2 ^ 46 → l * o ≤ 2 ^ 110
product_low l o b one two three = let h = mul-le-mul one (joined two three) in omega (arith, h)
  where
    joined : o ≤ b → b ≤ 2 ^ 46 → o ≤ 2 ^ 46
    joined two three = omega (arith, two, three)

-- one turn of the loop
pub one_turn : (kinds : List Kind) (busy left sum factor counter ahead whole taken refused next : ℕ) → counter < ahead
    → taken ≡ rounded_up (left * taken_by kinds factor) busy → refused ≡ rounded_up (left * refused_by kinds factor) busy → next ≡ next_factor factor
    → sum + most_by kinds busy left (ahead - counter) factor ≡ whole
    → sum + taken + most_by kinds busy refused (ahead - (counter + 1)) next ≡ whole
one_turn kinds busy left sum factor counter ahead whole taken refused next low one two three is =
    let cut : ahead - counter ≡ suc (ahead - (counter + 1)) = omega (arith, low) in
    by (ahead - (counter + 1)) (sym (ap (λ n. sum + most_by kinds busy left n factor) cut) ∙ is)
  where
    turn : (a b c : ℕ) → a + b + c ≡ a + (b + c)
    turn a b c = omega arith

    by : (n : ℕ) → sum + most_by kinds busy left (suc n) factor ≡ whole → sum + taken + most_by kinds busy refused n next ≡ whole
    by n is =
        (λ i. sum + one i + most_by kinds busy (two i) n (three i))
        ∙ turn sum (rounded_up (left * taken_by kinds factor) busy) (most_by kinds busy (rounded_up (left * refused_by kinds factor) busy) n (next_factor factor)) ∙ is

pub at_end : (kinds : List Kind) (busy left sum factor counter ahead whole : ℕ) → counter ≤ ahead → ahead ≤ counter
    → sum + most_by kinds busy left (ahead - counter) factor ≡ whole → sum + left ≡ whole
at_end kinds busy left sum factor counter ahead whole low end is =
    let none : ahead - counter ≡ 0 = omega (arith, low, end) in
    sym (ap (λ n. sum + most_by kinds busy left n factor) none) ∙ is

pub lower : {a b c : ℕ} → a ≤ b → b ≤ c → a ≤ c
lower one two = omega (arith, one, two)

pub added : (s p n l : ℕ) → s ≤ n * 2 ^ 64 → p ≤ l → l ≤ 2 ^ 64 → s + p ≤ (n + 1) * 2 ^ 64
added s p n l one two three = omega (arith, one, two, three)
