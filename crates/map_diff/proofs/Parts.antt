-- The parts of two maps, by their two sides.
use Rattle.std.proofs.Common.{◌≡◌, ℕ, suc, ◌==◌, ◌+◌, Bool, true, false, List, [], ◌∷◌, map, length, cond, Some, None, refl, ap, subst, arith, length-append}
use Rattle.map_diff.specs.Diff.{Change, Part, Same, Mixed, under_bit, changes_of, same_pair, both, joined, if_differing}

pub true_false : true ≡ false → ⊥
true_false e = subst (λ t. elim t as (λ _. Type 0) [ true ↦ Unit {0} | false ↦ ⊥ ]) e tt

pub some_none : (p : ℕ × ℕ) → Some p ≡ None → ⊥
some_none p e = subst (λ o. elim o as (λ _. Type 0) [ Some x ↦ Unit {0} | None ↦ ⊥ ]) e tt

pub mixed_same : (cs : List Change) (a b : ℕ) → Mixed cs ≡ Same a b → ⊥
mixed_same cs a b e = subst (λ w. elim w as (λ _. Type 0) [ Mixed x ↦ Unit {0} | Same x y ↦ ⊥ ]) e tt

-- two numbers that are not equal are a pair
pub differ_is : (a b : ℕ) → (a == b) ≡ false → if_differing a b ≡ Some (a, b)
unfolding if_differing
differ_is a b off = ap (λ t. cond t None (Some (a, b))) off

under_long : (b : Bool) (cs : List Change) → length (map (under_bit b) cs) ≡ length cs
under_long b [] = refl
under_long b (c ∷ cs) = ap suc (under_long b cs)

-- the changes of two sides that are not one pair
pub both_long : (l r : Part) → length (changes_of (both l r)) ≡ length (changes_of l) + length (changes_of r)
unfolding changes_of
both_long l r =
    omega (arith, length-append (map (under_bit false) (changes_of l)) (map (under_bit true) (changes_of r)), under_long false (changes_of l), under_long true (changes_of r))

-- a part is one pair, or else its two sides
pub data Form (l r whole : Part) : Type 0 where
  IsSame : (a b : ℕ) → whole ≡ Same a b → Form l r whole
  IsBoth : whole ≡ both l r → Form l r whole

pair_form : (a b c d : ℕ) (t : Bool) → Form (Same a b) (Same c d) (cond t (Same a b) (both (Same a b) (Same c d)))
pair_form a b c d true = IsSame a b refl
pair_form a b c d false = IsBoth refl

pub form_of : (l r : Part) → Form l r (joined l r)
unfolding joined
form_of (Same a b) (Same c d) = pair_form a b c d (same_pair a b c d)
form_of (Same a b) (Mixed cs) = IsBoth refl
form_of (Mixed cs) r = IsBoth refl
