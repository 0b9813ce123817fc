-- How many numbers below a bound pass a test, and sums of such counts.
use Rattle.std.proofs.Common.{◌≡◌, ℕ, zero, suc, ◌+◌, ◌-◌, ◌*◌, ◌/◌, ◌%◌, ◌^◌, ◌<◌, ◌≤◌, min, Bool, true, false, cond, ◌&&◌, nat_lt, List, [], ◌∷◌, ◌++◌, length, get_or, All, AllPairs, Contains, sum_by, count_by, Option, Some, None, refl, sym, ap, ◌∙◌, inl, inr, ◌⊎◌, arith}
use Rattle.std.specs.List.{range_with_len}
use Rattle.std.proofs.lemmas.Bool.{cases_lt, lt-ltb, le-ltb}
use Rattle.std.proofs.lemmas.List.Elements.{All-head, All-tail}
use Rattle.std.proofs.lemmas.List.Sums.{sum_by-append, sum_by-cons}
use Rattle.table_laws.specs.Rounds.{holds}
use Rattle.table_laws.proofs.Counts.{all_range, count_append, count_cons, count_none, range_from_at, range_last, sum_agree}

-- so many of the first n numbers are below t
pub count_low : (t n : ℕ) → count_by (λ w. nat_lt w t) (range_with_len 0 n) ≡ min t n
count_low t zero = omega arith
count_low t (suc n) =
    let zero_from : 0 + n ≡ n = omega arith in
    let cut = ap (count_by (λ w. nat_lt w t)) (range_last 0 n ∙ ap (λ k. range_with_len 0 n ++ k ∷ []) zero_from) in
    let split = count_append (λ w. nat_lt w t) (range_with_len 0 n) (n ∷ []) in
    let one = count_cons (λ w. nat_lt w t) n [] in
    let before = count_low t n in
    by (cases_lt n t) cut split one before
  where
    by : (n < t) ⊎ (t ≤ n)
        → count_by (λ w. nat_lt w t) (range_with_len 0 (suc n)) ≡ count_by (λ w. nat_lt w t) (range_with_len 0 n ++ n ∷ [])
        → count_by (λ w. nat_lt w t) (range_with_len 0 n ++ n ∷ []) ≡ count_by (λ w. nat_lt w t) (range_with_len 0 n) + count_by (λ w. nat_lt w t) (n ∷ [])
        → count_by (λ w. nat_lt w t) (n ∷ []) ≡ cond (nat_lt n t) 1 0 + count_by (λ w. nat_lt w t) []
        → count_by (λ w. nat_lt w t) (range_with_len 0 n) ≡ min t n
        → count_by (λ w. nat_lt w t) (range_with_len 0 (suc n)) ≡ min t (suc n)
    by (inl lt) cut split one before = let is : ◌≡◌ {A = ℕ} (cond (nat_lt n t) 1 0) 1 = ap {B = ℕ} (λ b. cond b 1 0) (lt-ltb n t lt) in omega (arith, cut, split, one, before, is, lt)
    by (inr le) cut split one before = let is : ◌≡◌ {A = ℕ} (cond (nat_lt n t) 1 0) 0 = ap {B = ℕ} (λ b. cond b 1 0) (le-ltb n t le) in omega (arith, cut, split, one, before, is, le)

-- a word is accepted if it is below a bound
pub low_word : (a w : ℕ) → w < 2 ^ 30 → nat_lt ((w % 2 ^ 30) * 2 ^ 30) a ≡ nat_lt w ((a + (2 ^ 30 - 1)) / 2 ^ 30)
low_word a w small = by (cases_lt w ((a + (2 ^ 30 - 1)) / 2 ^ 30))
  where
    by : (w < (a + (2 ^ 30 - 1)) / 2 ^ 30) ⊎ ((a + (2 ^ 30 - 1)) / 2 ^ 30 ≤ w) → nat_lt ((w % 2 ^ 30) * 2 ^ 30) a ≡ nat_lt w ((a + (2 ^ 30 - 1)) / 2 ^ 30)
    by (inl lt) = lt-ltb ((w % 2 ^ 30) * 2 ^ 30) a (omega (arith, lt, small)) ∙ sym (lt-ltb w ((a + (2 ^ 30 - 1)) / 2 ^ 30) lt)
    by (inr le) = le-ltb ((w % 2 ^ 30) * 2 ^ 30) a (omega (arith, le, small)) ∙ sym (le-ltb w ((a + (2 ^ 30 - 1)) / 2 ^ 30) le)

pub sum_const : {X : Type 0} (p : X → Bool) (t : ℕ) (xs : List X) → sum_by (λ x. cond (p x) t 0) xs ≡ count_by p xs * t
sum_const p t [] = omega arith
sum_const p t (x ∷ xs) =
    let all = sum_by-cons (λ y. cond (p y) t 0) x xs in
    let some = count_cons p x xs in
    by (p x) all some (sum_const p t xs)
  where
    by : (b : Bool) → sum_by (λ y. cond (p y) t 0) (x ∷ xs) ≡ cond b t 0 + sum_by (λ y. cond (p y) t 0) xs
        → count_by p (x ∷ xs) ≡ cond b 1 0 + count_by p xs
        → sum_by (λ y. cond (p y) t 0) xs ≡ count_by p xs * t
        → sum_by (λ y. cond (p y) t 0) (x ∷ xs) ≡ count_by p (x ∷ xs) * t
    by true all some rest = all ∙ ap (λ k. t + k) rest ∙ omega arith ∙ ap (λ k. k * t) (sym some)
    by false all some rest = all ∙ ap (λ k. 0 + k) rest ∙ omega arith ∙ ap (λ k. k * t) (sym some)

pub sum_times : {X : Type 0} (f : X → ℕ) (t : ℕ) (xs : List X) → sum_by (λ x. f x * t) xs ≡ sum_by f xs * t
sum_times f t [] = omega arith
sum_times f t (x ∷ xs) =
    sum_by-cons (λ y. f y * t) x xs ∙ ap (λ k. f x * t + k) (sum_times f t xs) ∙ times (f x) (sum_by f xs) ∙ ap (λ k. k * t) (sym (sum_by-cons f x xs))
  where
    times : (a b : ℕ) → a * t + b * t ≡ (a + b) * t
    times a b = omega arith

pub sum_none : {X : Type 0} (xs : List X) → sum_by (λ x. 0) xs ≡ 0
sum_none [] = refl
sum_none (x ∷ xs) = sum_by-cons (λ y. 0) x xs ∙ omega (arith, sum_none xs)

-- pairs of an index whose element passes and a word that accepts it: t words accept each of those
-- elements
module _ {X I : Type 0} (p : X → Bool) (q : X → ℕ → Bool) (c : I → Option X) (t : ℕ) (words : List ℕ)
    (each : (i : I) (x : X) → c i ≡ Some x → p x ≡ true → count_by (q x) words ≡ t) where
  for_one : (i : I) (o : Option X) → c i ≡ o → count_by (λ w. holds (λ x. p x && q x w) o) words ≡ cond (holds p o) t 0
  for_one i None is = count_none words
  for_one i (Some x) is = by (p x) refl
    where
      by : (b : Bool) → p x ≡ b → count_by (λ w. b && q x w) words ≡ cond b t 0
      by true passes = each i x is passes
      by false passes = count_none words

  pub count_pairs : (is : List I) → sum_by (λ i. count_by (λ w. holds (λ x. p x && q x w) (c i)) words) is ≡ count_by (λ i. holds p (c i)) is * t
  count_pairs is =
      sum_agree (λ i. count_by (λ w. holds (λ x. p x && q x w) (c i)) words) (λ i. cond (holds p (c i)) t 0) is (λ k d within. for_one (get_or is k d) (c (get_or is k d)) refl)
      ∙ sum_const (λ i. holds p (c i)) t is

-- a sum over the numbers below a bound, of a function that is 0 but at some of them
pub sum_over : (f : ℕ → ℕ) (bs : List ℕ) (a n : ℕ) → a ≤ n → AllPairs (λ x y. x < y) bs → All (λ b. a ≤ b) bs → All (λ b. b < n) bs
    → ((b : ℕ) → a ≤ b → b < n → (Contains bs b → ⊥) → f b ≡ 0) → sum_by f (range_with_len a (n - a)) ≡ sum_by f bs
sum_over f [] a n le rising above below none =
    sum_agree f (λ x. 0) (range_with_len a (n - a)) (all_range (λ b. f b ≡ 0) a (n - a) (λ b low high. none b low (omega (arith, high, le)) nothing))
    ∙ sum_none (range_with_len a (n - a))
  where
    nothing : {b : ℕ} → Contains {X = ℕ} [] b → ⊥
    nothing c = let within = c.1 in omega (arith, within)
sum_over f (b ∷ bs) a n le rising above below none =
    let low = All-head (λ x. a ≤ x) b bs above in
    let high = All-head (λ x. x < n) b bs below in
    let one : n - b - 1 ≡ n - (b + 1) = omega arith in
    let before : sum_by f (range_with_len a (b - a)) ≡ 0 =
    sum_agree f (λ x. 0) (range_with_len a (b - a)) (all_range (λ x. f x ≡ 0) a (b - a) (λ x from to. none x from (omega (arith, to, low, high)) (λ c. not_below x c (omega (arith, to, low)))))
    ∙ sum_none (range_with_len a (b - a)) in
    let after : sum_by f (range_with_len (b + 1) (n - b - 1)) ≡ sum_by f bs =
    ap (λ k. sum_by f (range_with_len (b + 1) k)) one
    ∙ sum_over f bs (b + 1) n (omega (arith, high)) (λ i j d i_j within. rising (suc i) (suc j) d (omega (arith, i_j)) (omega (arith, within)))
    (λ k d within. let more = rising 0 (suc k) d (omega arith) (omega (arith, within)) in omega (arith, more))
    (All-tail (λ x. x < n) b bs below)
    (λ x from to other. none x (omega (arith, from, low)) to (λ c. later x c from other)) in
    ap (sum_by f) (range_from_at n a b low high)
    ∙ sum_by-append f (range_with_len a (b - a)) (b ∷ range_with_len (b + 1) (n - b - 1))
    ∙ ap (λ k. k + sum_by f (b ∷ range_with_len (b + 1) (n - b - 1))) before
    ∙ ap (λ k. 0 + k) (sum_by-cons f b (range_with_len (b + 1) (n - b - 1)) ∙ ap (λ k. f b + k) after ∙ sym (sum_by-cons f b bs))
    ∙ omega arith
  where
    not_below : (x : ℕ) → Contains (b ∷ bs) x → x < b → ⊥
    not_below x c less = at c.0 c.1 c.2
      where
        at : (k : ℕ) → k < length (b ∷ bs) → get_or (b ∷ bs) k x ≡ x → ⊥
        at zero within is = omega (arith, is, less)
        at (suc k) within is = let more = rising 0 (suc k) x (omega arith) within in omega (arith, more, is, less)

    later : (x : ℕ) → Contains (b ∷ bs) x → b + 1 ≤ x → (Contains bs x → ⊥) → ⊥
    later x c from other = at c.0 c.1 c.2
      where
        at : (k : ℕ) → k < length (b ∷ bs) → get_or (b ∷ bs) k x ≡ x → ⊥
        at zero within is = omega (arith, is, from)
        at (suc k) within is = other (k, omega (arith, within), is)
