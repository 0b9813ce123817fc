-- Lists of rising numbers, and what a filter keeps of them.
use Rattle.std.proofs.Common.{◌≡◌, ◌≢◌, ℕ, suc, ◌<◌, ◌≤◌, Bool, true, false, nat_lt, List, [], ◌∷◌, length, AllPairs, Contains, filter, refl, sym, ap, subst, ◌∙◌, inl, inr, ⊎_elim, ◌⊎◌, arith, cond}
use Rattle.std.specs.List.Sorted.{IsStrictlyIncreasing}
use Rattle.std.proofs.lemmas.Bool.{both_ways, cases_eq, ltb-false}
use Rattle.std.proofs.lemmas.List.Elements.{Contains-append_left, Contains-append_right}
use Rattle.std.proofs.lemmas.List.Kept.{AllPairs-from_increasing, IsStrictlyIncreasing-filter}
use Rattle.peer_rec.specs.Buckets.{with_bucket}
use Rattle.table_machine.proofs.Lists.{Contains-cases, Contains-head, Contains-tail, Contains-filter, Contains-from_filter, none_in_nil}
use Rattle.table_machine.proofs.Buckets.{length_filter_le, rising-with_bucket, with_bucket-cases}

pub pairs_tail : {X : Type 0} (R : X → X → Type 0) (x : X) (xs : List X) → AllPairs R (x ∷ xs) → AllPairs R xs
pairs_tail R x xs pairs i j d l w = pairs (suc i) (suc j) d (omega arith) (omega arith)

pub pairs_head : {X : Type 0} (R : X → X → Type 0) (x y : X) (xs : List X) → AllPairs R (x ∷ xs) → Contains xs y → R x y
pairs_head {X} R x y xs pairs (k, within, is) = subst (λ (r : X). R x r) is (pairs 0 (suc k) y (omega arith) (omega arith))

-- two rising lists with the same numbers are one
pub rising_one : (xs ys : List ℕ) → AllPairs (λ m n. m < n) xs → AllPairs (λ m n. m < n) ys → ((n : ℕ) → Contains xs n → Contains ys n) → ((n : ℕ) → Contains ys n → Contains xs n) → xs ≡ ys
rising_one [] [] up also into back = refl
rising_one [] (y ∷ ys) up also into back = absurd (none_in_nil y (back y (Contains-head y ys)))
rising_one (x ∷ xs) [] up also into back = absurd (none_in_nil x (into x (Contains-head x xs)))
rising_one (x ∷ xs) (y ∷ ys) up also into back =
    let heads : x ≡ y = elim (Contains-cases y ys x (into x (Contains-head x xs))) [
      | inl e ↦ sym e
      | inr in_ys ↦ elim (Contains-cases x xs y (back y (Contains-head y ys))) [
        | inl e ↦ e
        | inr in_xs ↦ absurd (omega (arith, pairs_head (λ m n. m < n) x y xs up in_xs, pairs_head (λ m n. m < n) y x ys also in_ys))
      ]
    ] in
    let tails = rising_one xs ys (pairs_tail (λ m n. m < n) x xs up) (pairs_tail (λ m n. m < n) y ys also)
    (λ n in_xs. elim (Contains-cases y ys n (into n (Contains-tail x xs n in_xs))) [
      | inl e ↦ absurd (omega (arith, e, heads, pairs_head (λ a b. a < b) x n xs up in_xs))
      | inr there ↦ there
    ])
    (λ n in_ys. elim (Contains-cases x xs n (back n (Contains-tail y ys n in_ys))) [
      | inl e ↦ absurd (omega (arith, e, heads, pairs_head (λ a b. a < b) y n ys also in_ys))
      | inr there ↦ there
    ]) in
    λ i. heads i ∷ tails i

-- two tests that agree at each element keep the same elements
pub filter_same_at : {X : Type 0} (p q : X → Bool) (xs : List X) → ((x : X) → Contains xs x → p x ≡ q x) → filter p xs ≡ filter q xs
filter_same_at p q [] same = refl
filter_same_at {X} p q (x ∷ xs) same =
    let rest = filter_same_at p q xs (λ y c. same y (Contains-tail x xs y c)) in
    λ i. cond (same x (Contains-head x xs) i) (x ∷ rest i) (rest i)

pub filter_whole : {X : Type 0} (p : X → Bool) (xs : List X) → ((x : X) → Contains xs x → p x ≡ true) → filter p xs ≡ xs
filter_whole p [] all = refl
filter_whole {X} p (x ∷ xs) all =
    ap (λ b. cond b (x ∷ filter p xs) (filter p xs)) (all x (Contains-head x xs)) ∙ ap (λ ys. x ∷ ys) (filter_whole p xs (λ y c. all y (Contains-tail x xs y c)))

pub filter_nothing : {X : Type 0} (xs : List X) → filter (λ x. false) xs ≡ []
filter_nothing [] = refl
filter_nothing (x ∷ xs) = filter_nothing xs

-- a filter that an element fails keeps fewer
pub fewer : {X : Type 0} (p : X → Bool) (xs : List X) (x : X) → Contains xs x → p x ≡ false → length (filter p xs) < length xs
fewer p [] x c fails = absurd (none_in_nil x c)
fewer {X} p (y ∷ ys) x c fails = by (p y) refl (λ rest. fewer p ys x rest fails) (Contains-cases y ys x c)
  where
    most : length (filter p ys) ≤ length ys
    most = length_filter_le p ys

    by : (b : Bool) → p y ≡ b → (Contains ys x → length (filter p ys) < length ys) → (y ≡ x) ⊎ Contains ys x → length (cond b (y ∷ filter p ys) (filter p ys)) < suc (length ys)
    by true h more (inl same) = absurd (both_ways (p x) fails (subst (λ (z : X). p z ≡ true) same h))
    by true h more (inr rest) = let less = more rest in omega arith
    by false h more cases = omega (arith, most)

pub with_bucket-has : (bucket : ℕ) (buckets : List ℕ) → Contains (with_bucket bucket buckets) bucket
with_bucket-has bucket buckets =
    Contains-append_right (filter (λ n. nat_lt n bucket) buckets) (bucket ∷ filter (λ n. nat_lt bucket n) buckets) bucket
    (Contains-head bucket (filter (λ n. nat_lt bucket n) buckets))

pub with_bucket-keeps : (bucket : ℕ) (buckets : List ℕ) (b : ℕ) → Contains buckets b → Contains (with_bucket bucket buckets) b
with_bucket-keeps bucket buckets b c = by (nat_lt b bucket) (nat_lt bucket b) refl refl
  where
    low : List ℕ
    low = filter (λ n. nat_lt n bucket) buckets

    high : List ℕ
    high = filter (λ n. nat_lt bucket n) buckets

    by : (x y : Bool) → nat_lt b bucket ≡ x → nat_lt bucket b ≡ y → Contains (with_bucket bucket buckets) b
    by true y below above = Contains-append_left low (bucket ∷ high) b (Contains-filter (λ n. nat_lt n bucket) buckets b c below)
    by false true below above = Contains-append_right low (bucket ∷ high) b (Contains-tail bucket high b (Contains-filter (λ n. nat_lt bucket n) buckets b c above))
    by false false below above =
        let same : bucket ≡ b = omega (arith, ltb-false b bucket below, ltb-false bucket b above) in
        subst (Contains (with_bucket bucket buckets)) same (with_bucket-has bucket buckets)

-- with one more bucket of a rising list, a filter keeps that too
pub filter-with_bucket : (p q : ℕ → Bool) (bucket : ℕ) (buckets : List ℕ) → IsStrictlyIncreasing buckets → Contains buckets bucket
    → q bucket ≡ true → ((b : ℕ) → p b ≡ true → q b ≡ true) → ((b : ℕ) → q b ≡ true → b ≢ bucket → p b ≡ true)
    → with_bucket bucket (filter p buckets) ≡ filter q buckets
filter-with_bucket p q bucket buckets rising has own more only =
    rising_one (with_bucket bucket (filter p buckets)) (filter q buckets)
    (AllPairs-from_increasing _ (rising-with_bucket bucket (filter p buckets) (IsStrictlyIncreasing-filter p buckets rising)))
    (AllPairs-from_increasing _ (IsStrictlyIncreasing-filter q buckets rising))
    (λ n c. ⊎_elim
    (λ is. subst (Contains (filter q buckets)) (sym is) (Contains-filter q buckets bucket has own))
    (λ old. let h = Contains-from_filter p buckets n old in Contains-filter q buckets n h.0 (more n h.1))
    (with_bucket-cases bucket (filter p buckets) n c))
    (λ n c.
    let h = Contains-from_filter q buckets n c in
    ⊎_elim
    (λ is. subst (Contains (with_bucket bucket (filter p buckets))) (sym is) (with_bucket-has bucket (filter p buckets)))
    (λ other. with_bucket-keeps bucket (filter p buckets) n (Contains-filter p buckets n h.0 (only n h.1 other)))
    (cases_eq n bucket))
