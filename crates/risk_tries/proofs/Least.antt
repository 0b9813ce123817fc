-- Groups that are left when one is opened: their shares, and the least sums of these.
use Rattle.std.proofs.Common.{◌≡◌, ℕ, zero, suc, ◌+◌, ◌≤◌, min, Bool, true, false, not, ◌||◌, List, [], ◌∷◌, filter, map, sum_by, refl, sym, ap, subst, ◌∙◌, inl, inr, arith, if◌then◌else◌}
use Rattle.std.specs.Prelude.{bytes_eq}
use Rattle.std.specs.List.{list_any}
use Rattle.std.proofs.Math.Nat.{le-min, min-le_left, min-le_right}
use Rattle.std.proofs.lemmas.Bool.{cases_lt}
use Rattle.std.proofs.lemmas.List.Sums.{sum_by-cons}
use Rattle.std.proofs.lemmas.Slice.Eq.{bytes_eq-Decides}
use Rattle.risk_tries.specs.TenBound.{least_sum}

-- the groups without this one
abbrev pub without : List ℕ → List (List ℕ) → List (List ℕ)
without g groups = filter (λ h. not (bytes_eq h g)) groups

abbrev pub has : List (List ℕ) → List ℕ → Bool
has groups g = list_any (λ h. bytes_eq h g) groups

up : {a b c : ℕ} → a ≤ b → b ≤ c → a ≤ c
up one two = omega (arith, one, two)

below : (a b c d : ℕ) → d ≤ c + a → d ≤ c + b → d ≤ c + min a b
below a b c d one two = elim (cases_lt a b) [
  | inl less ↦ let is : min a b ≡ a = omega (arith, less) in subst (λ k. d ≤ c + k) (sym is) one
  | inr more ↦ let is : min a b ≡ b = omega (arith, more) in subst (λ k. d ≤ c + k) (sym is) two
]

module _ (share : List ℕ → ℕ) where
  abbrev total : List (List ℕ) → ℕ
  total groups = sum_by share groups

  fewer : (g : List ℕ) (groups : List (List ℕ)) → total (without g groups) ≤ total groups
  fewer g [] = omega arith
  fewer g (h ∷ groups) = by (bytes_eq h g) (fewer g groups) (sum_by-cons share h groups) (sum_by-cons share h (without g groups))
    where
      by : (b : Bool) → total (without g groups) ≤ total groups → total (h ∷ groups) ≡ share h + total groups → total (h ∷ without g groups) ≡ share h + total (without g groups)
          → total (if not b then h ∷ without g groups else without g groups) ≤ total (h ∷ groups)
      by true less one two = omega (arith, less, one)
      by false less one two = omega (arith, less, one, two)

  -- a group that is opened takes its share
  pub less_share : (g : List ℕ) (groups : List (List ℕ)) → has groups g ≡ true → total (without g groups) + share g ≤ total groups
  less_share g [] is = absurd (cc)
  less_share g (h ∷ groups) is = by (bytes_eq h g) refl is (less_share g groups) (fewer g groups) (sum_by-cons share h groups) (sum_by-cons share h (without g groups))
    where
      by : (b : Bool) → bytes_eq h g ≡ b → (b || has groups g) ≡ true → (has groups g ≡ true → total (without g groups) + share g ≤ total groups) → total (without g groups) ≤ total groups
          → total (h ∷ groups) ≡ share h + total groups → total (h ∷ without g groups) ≡ share h + total (without g groups)
          → total (if not b then h ∷ without g groups else without g groups) + share g ≤ total (h ∷ groups)
      by true same is later less one two =
          let own : share h ≡ share g = ap share ((bytes_eq-Decides h g).0 same) in
          omega (arith, less, one, own)
      by false same is later less one two = let rest = later is in omega (arith, rest, one, two)

  abbrev least : ℕ → ℕ → List (List ℕ) → ℕ
  least none count groups = least_sum none count (map share groups)

  no_less : (none count : ℕ) (g : List ℕ) (groups : List (List ℕ)) → least none count groups ≤ least none count (without g groups)
  no_less none zero g groups = omega arith
  no_less none (suc count) g [] = omega arith
  no_less none (suc count) g (h ∷ groups) = by (bytes_eq h g) (no_less none count g groups) (no_less none (suc count) g groups)
    where
      by : (b : Bool) → least none count groups ≤ least none count (without g groups) → least none (suc count) groups ≤ least none (suc count) (without g groups)
          → least none (suc count) (h ∷ groups) ≤ least none (suc count) (if not b then h ∷ without g groups else without g groups)
      by true one two = up (min-le_right (share h + least none count groups) (least none (suc count) groups)) two
      by false one two =
          le-min (up (min-le_left (share h + least none count groups) (least none (suc count) groups)) (more (share h) (least none count groups) (least none count (without g groups)) one))
          (up (min-le_right (share h + least none count groups) (least none (suc count) groups)) two)
        where
          more : (a b c : ℕ) → b ≤ c → a + b ≤ a + c
          more a b c h = omega (arith, h)

  -- and the least sum of one more is at most that of the others and its share
  pub less_least : (none count : ℕ) (g : List ℕ) (groups : List (List ℕ)) → has groups g ≡ true
      → least none (suc count) groups ≤ share g + least none count (without g groups)
  less_least none count g [] is = absurd (cc)
  less_least none count g (h ∷ groups) is = by (bytes_eq h g) refl is count (λ n. less_least none n g groups)
    where
      lower : (n : ℕ) → least none (suc n) (h ∷ groups) ≤ share h + least none n groups
      lower n = min-le_left (share h + least none n groups) (least none (suc n) groups)

      later : (n : ℕ) → least none (suc n) (h ∷ groups) ≤ least none (suc n) groups
      later n = min-le_right (share h + least none n groups) (least none (suc n) groups)

      by : (b : Bool) → bytes_eq h g ≡ b → (b || has groups g) ≡ true → (count : ℕ)
          → ((n : ℕ) → has groups g ≡ true → least none (suc n) groups ≤ share g + least none n (without g groups))
          → least none (suc count) (h ∷ groups) ≤ share g + least none count (if not b then h ∷ without g groups else without g groups)
      by true same is count rest =
          let own : share h ≡ share g = ap share ((bytes_eq-Decides h g).0 same) in
          joined (share h) (share g) (least none count groups) (least none count (without g groups)) (least none (suc count) (h ∷ groups)) own (lower count) (no_less none count g groups)
        where
          joined : (a b x y z : ℕ) → a ≡ b → z ≤ a + x → x ≤ y → z ≤ b + y
          joined a b x y z own one two = omega (arith, own, one, two)
      by false same is zero rest = up (later 0) (rest 0 is)
      by false same is (suc n) rest =
          below (share h + least none n (without g groups)) (least none (suc n) (without g groups)) (share g) (least none (suc (suc n)) (h ∷ groups))
          (joined (share h) (share g) (least none (suc n) groups) (least none n (without g groups)) (least none (suc (suc n)) (h ∷ groups)) (lower (suc n)) (rest n is))
          (up (later (suc n)) (rest (suc n) is))
        where
          joined : (a b x y z : ℕ) → z ≤ a + x → x ≤ b + y → z ≤ b + (a + y)
          joined a b x y z one two = omega (arith, one, two)

-- a group that is another one is left
pub still_has : (g x : List ℕ) (groups : List (List ℕ)) → has groups x ≡ true → bytes_eq g x ≡ false → has (without g groups) x ≡ true
still_has g x [] is other = absurd (cc)
still_has g x (h ∷ groups) is other = by (bytes_eq h g) refl (bytes_eq h x) refl is (still_has g x groups)
  where
    apart : bytes_eq g x ≡ false → bytes_eq g x ≡ true → ⊥
    apart one two = cc

    by : (b : Bool) → bytes_eq h g ≡ b → (c : Bool) → bytes_eq h x ≡ c → (c || has groups x) ≡ true
        → (has groups x ≡ true → bytes_eq g x ≡ false → has (without g groups) x ≡ true)
        → has (if not b then h ∷ without g groups else without g groups) x ≡ true
    by true same true own is later =
        absurd (apart other (subst (λ k. bytes_eq k x ≡ true) ((bytes_eq-Decides h g).0 same) own))
    by true same false own is later = later is other
    by false same true own is later = λ i. own i || has (without g groups) x
    by false same false own is later = (λ i. own i || has (without g groups) x) ∙ later is other
