-- Sums over records, class by class.
use Rattle.std.proofs.Common.{◌≡◌, ℕ, ◌+◌, ◌*◌, Bool, true, false, cond, ◌&&◌, ◌==◌, List, [], ◌∷◌, filter, map, count_by, sum_by, refl, sym, ap, ◌∙◌, arith, if◌then◌else◌}
use Rattle.std.proofs.lemmas.Bool.Decides.{Decides-eqb}
use Rattle.std.proofs.lemmas.List.Sums.{sum_by-cons}
use Rattle.table_laws.proofs.Balance.{sum_nothing, sum_swap}
use Rattle.table_laws.proofs.Draws.{sum_const, sum_times}

pub sum_filter : {X : Type 0} (f : X → ℕ) (p : X → Bool) (xs : List X) → sum_by f (filter p xs) ≡ sum_by (λ x. cond (p x) (f x) 0) xs
sum_filter f p [] = refl
sum_filter f p (x ∷ xs) = by (p x) (sum_filter f p xs) ∙ sym (sum_by-cons (λ y. cond (p y) (f y) 0) x xs)
  where
    by : (b : Bool) → sum_by f (filter p xs) ≡ sum_by (λ y. cond (p y) (f y) 0) xs → sum_by f (if b then x ∷ filter p xs else filter p xs) ≡ cond b (f x) 0 + sum_by (λ y. cond (p y) (f y) 0) xs
    by true rest = sum_by-cons f x (filter p xs) ∙ ap (λ k. f x + k) rest
    by false rest = omega (arith, rest)

pub sum_map : {X Y : Type 0} (f : Y → ℕ) (g : X → Y) (xs : List X) → sum_by f (map g xs) ≡ sum_by (λ x. f (g x)) xs
sum_map f g [] = refl
sum_map f g (x ∷ xs) = sum_by-cons f (g x) (map g xs) ∙ ap (λ k. f (g x) + k) (sum_map f g xs) ∙ sym (sum_by-cons (λ y. f (g y)) x xs)

-- of numbers of which one is k, only that adds something
single : (k : ℕ) (h : ℕ → ℕ) (cs : List ℕ) → sum_by (λ c. cond (k == c) (h c) 0) cs ≡ count_by (λ c. k == c) cs * h k
single k h cs = (λ i. sum_by (λ c. here c i) cs) ∙ sum_const (λ c. k == c) (h k) cs
  where
    here : (c : ℕ) → cond (k == c) (h c) 0 ≡ cond (k == c) (h k) 0
    here c = by (k == c) refl
      where
        by : (b : Bool) → (k == c) ≡ b → cond b (h c) 0 ≡ cond b (h k) 0
        by true is = ap h (sym ((Decides-eqb k c).0 is))
        by false is = refl

-- Elements by their classes: each is in one of these.
module _ {X : Type 0} (f : X → ℕ) (test wanted : X → Bool) (class : X → ℕ) (cs : List ℕ) (once : (x : X) → count_by (λ c. class x == c) cs ≡ 1) where
  abbrev of_class : ℕ → X → Bool
  of_class c x = test x && wanted x && class x == c

  one_element : (g : ℕ → ℕ) (x : X) → sum_by (λ c. cond (of_class c x) (f x) 0 * g c) cs ≡ cond (test x) (cond (wanted x) (f x * g (class x)) 0) 0
  one_element g x = by (test x) (wanted x)
    where
      zeros : (c : ℕ) → 0 * g c ≡ 0
      zeros c = omega arith

      none : sum_by (λ c. 0 * g c) cs ≡ 0
      none = (λ i. sum_by (λ c. zeros c i) cs) ∙ sum_nothing cs

      inside : (b : Bool) (n : ℕ) → cond b (f x) 0 * n ≡ cond b (f x * n) 0
      inside true n = refl
      inside false n = omega arith

      just : (n : ℕ) → 1 * n ≡ n
      just n = omega arith

      by : (t w : Bool) → sum_by (λ c. cond (t && w && class x == c) (f x) 0 * g c) cs ≡ cond t (cond w (f x * g (class x)) 0) 0
      by false w = none
      by true false = none
      by true true =
          (λ i. sum_by (λ c. inside (class x == c) (g c) i) cs)
          ∙ single (class x) (λ c. f x * g c) cs
          ∙ ap (λ k. k * (f x * g (class x))) (once x)
          ∙ just (f x * g (class x))

  pub class_sums : (g : ℕ → ℕ) (xs : List X)
      → sum_by (λ c. sum_by f (filter (of_class c) xs) * g c) cs ≡ sum_by (λ x. cond (test x) (cond (wanted x) (f x * g (class x)) 0) 0) xs
  class_sums g xs =
      (λ i. sum_by (λ c. sum_filter f (of_class c) xs i * g c) cs)
      ∙ sym (λ i. sum_by (λ c. sum_times (λ x. cond (of_class c x) (f x) 0) (g c) xs i) cs)
      ∙ sum_swap (λ c x. cond (of_class c x) (f x) 0 * g c) cs xs
      ∙ (λ i. sum_by (λ x. one_element g x i) xs)
