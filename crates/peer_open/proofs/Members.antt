-- A test of each element against a value, and the list of the elements' values.
use Rattle.std.proofs.Common.{◌≡◌, zero, suc, Bool, true, false, List, [], ◌∷◌, map, ◌||◌, refl, ap, ◌∙◌, arith, Contains}
use Rattle.std.specs.List.{list_any}
use Rattle.std.specs.Bool.{Decides}

pub contains_cons : {X : Type 0} (x y : X) (xs : List X) → Contains xs y → Contains (x ∷ xs) y
contains_cons x y xs has = (suc has.0, omega (arith, has.1), has.2)

module _ {X Y : Type 0} (test : X → Bool) (value : X → Y) (y : Y) (same : (x : X) → Decides (test x) (value x ≡ y)) where
  found : (xs : List X) → list_any test xs ≡ true → Contains (map value xs) y
  found [] h = absurd cc
  found (x ∷ xs) h = by (test x) refl (found xs) h
    where
      by : (b : Bool) → test x ≡ b → (list_any test xs ≡ true → Contains (map value xs) y) → (b || list_any test xs) ≡ true → Contains (map value (x ∷ xs)) y
      by true is later h = (0, omega arith, (same x).0 is)
      by false is later h = contains_cons (value x) y (map value xs) (later h)

  known : (xs : List X) → Contains (map value xs) y → list_any test xs ≡ true
  known [] has = absurd (omega (arith, has.1))
  known (x ∷ xs) (zero, there, is) = ap (λ b. b || list_any test xs) ((same x).1 is)
  known (x ∷ xs) (suc i, there, is) = ap (λ b. test x || b) (known xs (i, omega (arith, there), is)) ∙ either (test x)
    where
      either : (b : Bool) → (b || true) ≡ true
      either true = refl
      either false = refl

  -- the test finds an element exactly if the value is among theirs
  pub any-Decides : (xs : List X) → Decides (list_any test xs) (Contains (map value xs) y)
  any-Decides xs = (found xs, known xs)
