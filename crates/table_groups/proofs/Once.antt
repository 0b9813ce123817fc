-- Each of some groups is once among them, and what is counted of all is counted of each.
use Rattle.std.proofs.Common.{◌≡◌, ℕ, ◌+◌, ◌||◌, Bool, true, false, cond, List, [], ◌∷◌, ◌++◌, map, refl, sym, ap, ◌∙◌, arith}
use Rattle.std.specs.Prelude.{bytes_eq, count_by}
use Rattle.std.specs.List.{AllByRecursion, fold, list_any, sum_by}
use Rattle.std.proofs.lemmas.Bool.{both_ways}
use Rattle.std.proofs.lemmas.List.Folds.{list_any-append}
use Rattle.std.proofs.lemmas.List.Sums.{sum_by-append, sum_by-cons}
use Rattle.std.proofs.lemmas.Slice.Eq.{bytes_eq-Decides}
use Rattle.table_groups.specs.Tally.{once, with_group}
use Rattle.table_groups.proofs.Visits.{count-cons, one_if}

or-false : (b : Bool) → (b || false) ≡ b
or-false true = refl
or-false false = refl

or-true : (b : Bool) → (b || true) ≡ true
or-true true = refl
or-true false = refl

or-assoc : (a b c : Bool) → ((a || b) || c) ≡ (a || (b || c))
or-assoc true b c = refl
or-assoc false b c = refl

pub same-back : (g h : List ℕ) → bytes_eq g h ≡ bytes_eq h g
same-back g h = by (bytes_eq g h) refl (bytes_eq h g) refl
  where
    by : (a : Bool) → bytes_eq g h ≡ a → (b : Bool) → bytes_eq h g ≡ b → a ≡ b
    by true e true f = refl
    by false e false f = refl
    by true e false f = absurd (both_ways (bytes_eq h g) f ((bytes_eq-Decides h g).1 (sym ((bytes_eq-Decides g h).0 e))))
    by false e true f = absurd (both_ways (bytes_eq g h) e ((bytes_eq-Decides g h).1 (sym ((bytes_eq-Decides h g).0 f))))

module _ (k : List ℕ) where
  any-last : (x : List ℕ) (seen : List (List ℕ)) → list_any (bytes_eq k) (seen ++ x ∷ []) ≡ (list_any (bytes_eq k) seen || bytes_eq k x)
  any-last x seen = list_any-append (bytes_eq k) seen (x ∷ []) ∙ ap (λ (b : Bool). list_any (bytes_eq k) seen || b) (or-false (bytes_eq k x))

  -- a group that is there already is found
  any-there : (x : List ℕ) (seen : List (List ℕ)) → list_any (bytes_eq x) seen ≡ true → bytes_eq k x ≡ true → list_any (bytes_eq k) seen ≡ true
  any-there x seen there e = ap (λ (j : List ℕ). list_any (bytes_eq j) seen) ((bytes_eq-Decides k x).0 e) ∙ there

  with-any : (x : List ℕ) (seen : List (List ℕ)) → list_any (bytes_eq k) (with_group seen x) ≡ (list_any (bytes_eq k) seen || bytes_eq k x)
  with-any x seen = by (list_any (bytes_eq x) seen) refl (bytes_eq k x) refl
    where
      by : (a : Bool) → list_any (bytes_eq x) seen ≡ a → (b : Bool) → bytes_eq k x ≡ b
          → list_any (bytes_eq k) (cond a seen (seen ++ x ∷ [])) ≡ (list_any (bytes_eq k) seen || b)
      by true e true f = any-there x seen e f ∙ sym (or-true (list_any (bytes_eq k) seen))
      by true e false f = sym (or-false (list_any (bytes_eq k) seen))
      by false e b f = any-last x seen ∙ ap (λ (c : Bool). list_any (bytes_eq k) seen || c) f

  fold-any : (xs seen : List (List ℕ)) → list_any (bytes_eq k) (fold with_group seen xs) ≡ (list_any (bytes_eq k) seen || list_any (bytes_eq k) xs)
  fold-any [] seen = sym (or-false (list_any (bytes_eq k) seen))
  fold-any (x ∷ xs) seen =
      fold-any xs (with_group seen x) ∙ ap (λ (b : Bool). b || list_any (bytes_eq k) xs) (with-any x seen) ∙ or-assoc (list_any (bytes_eq k) seen) (bytes_eq k x) (list_any (bytes_eq k) xs)

  -- the group is once among these, if it is
  abbrev HasOnce : List (List ℕ) → Type 0
  HasOnce seen = count_by (bytes_eq k) seen ≡ one_if (list_any (bytes_eq k) seen)

  with-once : (x : List ℕ) (seen : List (List ℕ)) → HasOnce seen → HasOnce (with_group seen x)
  with-once x seen is = by (list_any (bytes_eq x) seen) refl (bytes_eq k x) refl (list_any (bytes_eq k) seen) refl is
    where
      more : count_by (bytes_eq k) (seen ++ x ∷ []) ≡ count_by (bytes_eq k) seen + one_if (bytes_eq k x)
      more = sum_by-append (λ y. cond (bytes_eq k y) 1 0) seen (x ∷ []) ∙ ap (λ (n : ℕ). count_by (bytes_eq k) seen + n) (count-cons (bytes_eq k) x [] ∙ omega arith)

      by : (a : Bool) → list_any (bytes_eq x) seen ≡ a → (b : Bool) → bytes_eq k x ≡ b → (c : Bool) → list_any (bytes_eq k) seen ≡ c
          → count_by (bytes_eq k) seen ≡ one_if c → HasOnce (cond a seen (seen ++ x ∷ []))
      by true e b f c h is = is ∙ sym (ap one_if h)
      by false e true f true h is = absurd (both_ways (list_any (bytes_eq x) seen) e (ap (λ (j : List ℕ). list_any (bytes_eq j) seen) (sym ((bytes_eq-Decides k x).0 f)) ∙ h))
      by false e true f false h is = more ∙ omega (arith, is, ap one_if f) ∙ sym (ap one_if (any-last x seen ∙ (λ i. h i || f i)))
      by false e false f c h is = more ∙ omega (arith, is, ap one_if f) ∙ sym (ap one_if (any-last x seen ∙ (λ i. h i || f i) ∙ or-false c))

  fold-once : (xs seen : List (List ℕ)) → HasOnce seen → HasOnce (fold with_group seen xs)
  fold-once [] seen is = is
  fold-once (x ∷ xs) seen is = fold-once xs (with_group seen x) (with-once x seen is)

  pub once-count : (xs : List (List ℕ)) → count_by (bytes_eq k) (once xs) ≡ one_if (list_any (bytes_eq k) xs)
  once-count xs = fold-once xs [] refl ∙ ap one_if (fold-any xs [])

-- what holds of each holds of each once
append-all : {X : Type 0} (P : X → Type 0) (xs : List X) (y : X) → AllByRecursion P xs → P y → AllByRecursion P (xs ++ y ∷ [])
append-all P [] y each own = (own, tt)
append-all P (x ∷ xs) y each own = (each.0, append-all P xs y each.1 own)

with-all : (P : List ℕ → Type 0) (x : List ℕ) (seen : List (List ℕ)) → P x → AllByRecursion P seen → AllByRecursion P (with_group seen x)
with-all P x seen own each = by (list_any (bytes_eq x) seen)
  where
    by : (b : Bool) → AllByRecursion P (cond b seen (seen ++ x ∷ []))
    by true = each
    by false = append-all P seen x each own

fold-all : (P : List ℕ → Type 0) (xs seen : List (List ℕ)) → AllByRecursion P xs → AllByRecursion P seen → AllByRecursion P (fold with_group seen xs)
fold-all P [] seen each more = more
fold-all P (x ∷ xs) seen each more = fold-all P xs (with_group seen x) each.1 (with-all P x seen each.0 more)

pub once-all : (P : List ℕ → Type 0) (xs : List (List ℕ)) → AllByRecursion P xs → AllByRecursion P (once xs)
once-all P xs each = fold-all P xs [] each tt

-- ---- sums

pub sum-map : {X Y : Type 0} (f : Y → ℕ) (g : X → Y) (xs : List X) → sum_by f (map g xs) ≡ sum_by (λ x. f (g x)) xs
sum-map f g [] = refl
sum-map f g (x ∷ xs) = sum_by-cons f (g x) (map g xs) ∙ ap (λ (n : ℕ). f (g x) + n) (sum-map f g xs) ∙ sym (sum_by-cons (λ y. f (g y)) x xs)

pub sum-none : {X : Type 0} (xs : List X) → sum_by (λ x. 0) xs ≡ 0
sum-none [] = refl
sum-none (x ∷ xs) = omega (arith, sum_by-cons (λ y. 0) x xs, sum-none xs)

pub sum-both : {X : Type 0} (f g : X → ℕ) (xs : List X) → sum_by (λ x. f x + g x) xs ≡ sum_by f xs + sum_by g xs
sum-both f g [] = refl
sum-both f g (x ∷ xs) = omega (arith, sum_by-cons (λ y. f y + g y) x xs, sum_by-cons f x xs, sum_by-cons g x xs, sum-both f g xs)

-- a sum of sums in either order
pub sum-turned : {X Y : Type 0} (f : X → Y → ℕ) (xs : List X) (ys : List Y) → sum_by (λ x. sum_by (f x) ys) xs ≡ sum_by (λ y. sum_by (λ x. f x y) xs) ys
sum-turned f [] ys = sym (sum-none ys)
sum-turned f (x ∷ xs) ys =
    sum_by-cons (λ x. sum_by (f x) ys) x xs ∙ ap (λ (n : ℕ). sum_by (f x) ys + n) (sum-turned f xs ys)
    ∙ sym (sum-both (f x) (λ y. sum_by (λ x. f x y) xs) ys)
    ∙ sym (λ i. sum_by (λ y. sum_by-cons (λ x. f x y) x xs i) ys)

pub sum-same : {X : Type 0} (P : X → Type 0) (f g : X → ℕ) (xs : List X) → AllByRecursion P xs → ((x : X) → P x → f x ≡ g x) → sum_by f xs ≡ sum_by g xs
sum-same P f g [] each same = refl
sum-same P f g (x ∷ xs) each same = omega (arith, sum_by-cons f x xs, sum_by-cons g x xs, same x each.0, sum-same P f g xs each.1 same)
