-- Of the numbers below a bound, at most as many are in a list as it has.
use Rattle.std.proofs.Common.{◌≡◌, ◌≢◌, ℕ, zero, suc, ◌+◌, ◌<◌, ◌≤◌, Bool, true, false, cond, not, ◌&&◌, ◌==◌, List, [], ◌∷◌, length, get_or, Contains, count_by, refl, sym, ap, inl, inr, ◌⊎◌, arith}
use Rattle.std.specs.List.{range_with_len}
use Rattle.std.proofs.lemmas.Bool.{and_parts, both_ways, false_from_ne_true}
use Rattle.std.proofs.lemmas.Bool.Decides.{Decides-eqb, eqb_tells}
use Rattle.std.proofs.lemmas.List.FromFn.{length-range_with_len}
use Rattle.table_laws.proofs.Counts.{all_range, count_cons, count_no, count_not}

-- one number is in a range once at most
one_at_most : (x a n : ℕ) → count_by (λ b. b == x) (range_with_len a n) ≤ 1
one_at_most x a zero = omega arith
one_at_most x a (suc n) = by (eqb_tells a x) (count_cons (λ b. b == x) a (range_with_len (a + 1) n)) (one_at_most x (a + 1) n)
  where
    by : (((a == x) ≡ true) × (a ≡ x)) ⊎ (((a == x) ≡ false) × (a ≢ x))
        → count_by (λ b. b == x) (range_with_len a (suc n)) ≡ cond (a == x) 1 0 + count_by (λ b. b == x) (range_with_len (a + 1) n)
        → count_by (λ b. b == x) (range_with_len (a + 1) n) ≤ 1 → count_by (λ b. b == x) (range_with_len a (suc n)) ≤ 1
    by (inl h) all rest =
        let one : ◌≡◌ {A = ℕ} (cond (a == x) 1 0) 1 = ap {B = ℕ} (λ b. cond b 1 0) h.0 in
        let same = h.1 in
        let none = count_no (λ b. b == x) (range_with_len (a + 1) n) (all_range (λ b. (b == x) ≡ false) (a + 1) n (λ b from to. false_from_ne_true (b == x) (λ is. let at = (Decides-eqb b x).0 is in omega (arith, at, from, same)))) in
        omega (arith, all, one, none)
    by (inr h) all rest =
        let none : ◌≡◌ {A = ℕ} (cond (a == x) 1 0) 0 = ap {B = ℕ} (λ b. cond b 1 0) h.0 in
        omega (arith, all, none, rest)

-- one by one or otherwise
split_off : (p : ℕ → Bool) (x : ℕ) (ns : List ℕ) → count_by p ns ≤ count_by (λ b. p b && not (b == x)) ns + count_by (λ b. b == x) ns
split_off p x [] = omega arith
split_off p x (n ∷ ns) =
    let all = count_cons p n ns in
    let others = count_cons (λ b. p b && not (b == x)) n ns in
    let same = count_cons (λ b. b == x) n ns in
    let rest = split_off p x ns in
    let here = one (p n) (n == x) in
    omega (arith, all, others, same, rest, here)
  where
    one : (a b : Bool) → ◌≤◌ (cond a 1 0) (cond (a && not b) 1 0 + cond b 1 0)
    one true true = omega arith
    one true false = omega arith
    one false true = omega arith
    one false false = omega arith

pub count_within : (p : ℕ → Bool) (xs : List ℕ) (n : ℕ) → ((b : ℕ) → b < n → p b ≡ true → Contains xs b) → count_by p (range_with_len 0 n) ≤ length xs
count_within p [] n within =
    let none = count_no p (range_with_len 0 n) (all_range (λ b. p b ≡ false) 0 n (λ b from to. false_from_ne_true (p b) (λ is. let c = within b (omega (arith, to)) is in let k = c.1 in omega (arith, k)))) in
    omega (arith, none)
count_within p (x ∷ xs) n within =
    let others = count_within (λ b. p b && not (b == x)) xs n (λ b below is. let h = and_parts (p b) (not (b == x)) is in later b (within b below h.0) h.1) in
    let all = split_off p x (range_with_len 0 n) in
    let one = one_at_most x 0 n in
    omega (arith, others, all, one)
  where
    later : (b : ℕ) → Contains (x ∷ xs) b → not (b == x) ≡ true → Contains xs b
    later b c other = at c.0 c.1 c.2
      where
        at : (k : ℕ) → k < length (x ∷ xs) → get_or (x ∷ xs) k b ≡ b → Contains xs b
        at zero low is = absurd (both_ways (not (b == x)) (ap not ((Decides-eqb b x).1 (sym is))) other)
        at (suc k) low is = (k, omega (arith, low), is)

-- all others pass
pub count_outside : (p : ℕ → Bool) (xs : List ℕ) (n : ℕ) → ((b : ℕ) → b < n → p b ≡ false → Contains xs b) → n ≤ count_by p (range_with_len 0 n) + length xs
count_outside p xs n within =
    let others = count_within (λ b. not (p b)) xs n (λ b below is. within b below (not_true (p b) is)) in
    let all = count_not p (range_with_len 0 n) in
    let long = length-range_with_len 0 n in
    omega (arith, others, all, long)
  where
    not_true : (b : Bool) → not b ≡ true → b ≡ false
    not_true true is = sym is
    not_true false is = refl
