-- An address is covered by a change with two numbers exactly if the maps give it these, and they
-- differ; and a part is one pair exactly if all its addresses have the pair.
use Rattle.std.proofs.Common.{◌≡◌, ℕ, zero, suc, ◌==◌, Bool, true, false, List, [], ◌∷◌, ◌++◌, map, length, cond, Some, None, refl, ap, sym, ◌∙◌, subst, arith, inl, inr}
use Rattle.std.specs.Prelude.{◌&&◌}
use Rattle.std.proofs.lemmas.Bool.{eqb-true, cases_Bool}
use Rattle.bit_code.specs.Prefixes.{begins_with}
use Rattle.map_diff.specs.Diff.{Change, Part, Same, Mixed, after_bit, under_bit, unless_equal, changes_of, same_pair, both, joined, part, changes, first_over, if_differing}

-- two lists one after the other, of which the second says nothing
over_append_none : (xs ys : List Change) (bits : List Bool) → first_over ys bits ≡ None → first_over (xs ++ ys) bits ≡ first_over xs bits
unfolding first_over
over_append_none [] ys bits h = h
over_append_none (c ∷ cs) ys bits h = ap (cond (begins_with bits c.path) (Some (c.old, c.new))) (over_append_none cs ys bits h)

-- or the first
over_none_append : (xs ys : List Change) (bits : List Bool) → first_over xs bits ≡ None → first_over (xs ++ ys) bits ≡ first_over ys bits
unfolding first_over
over_none_append [] ys bits h = refl
over_none_append (c ∷ cs) ys bits h =
    elim (begins_with bits c.path) as (λ b. cond b (Some (c.old, c.new)) (first_over cs bits) ≡ None → cond b (Some (c.old, c.new)) (first_over (cs ++ ys) bits) ≡ first_over ys bits) [
      | true ↦ λ e. absurd (some_none _ e)
      | false ↦ λ e. over_none_append cs ys bits e
    ] h
  where
    some_none : (p : ℕ × ℕ) → Some p ≡ None → ⊥
    some_none p e = subst (λ o. elim o as (λ _. Type 0) [ Some x ↦ Unit {0} | None ↦ ⊥ ]) e tt

-- changes under the address's own bit
over_under : (b : Bool) (cs : List Change) (bits : List Bool) → first_over (map (under_bit b) cs) (b ∷ bits) ≡ first_over cs bits
unfolding first_over begins_with
over_under b [] bits = refl
over_under true (c ∷ cs) bits = ap (cond (begins_with bits c.path) (Some (c.old, c.new))) (over_under true cs bits)
over_under false (c ∷ cs) bits = ap (cond (begins_with bits c.path) (Some (c.old, c.new))) (over_under false cs bits)

-- changes under the other bit
over_low : (cs : List Change) (bits : List Bool) → first_over (map (under_bit true) cs) (false ∷ bits) ≡ None
unfolding first_over begins_with
over_low [] bits = refl
over_low (c ∷ cs) bits = over_low cs bits

over_high : (cs : List Change) (bits : List Bool) → first_over (map (under_bit false) cs) (true ∷ bits) ≡ None
unfolding first_over begins_with
over_high [] bits = refl
over_high (c ∷ cs) bits = over_high cs bits

pub over_equal : (a b : ℕ) (bits : List Bool) → first_over (unless_equal a b) bits ≡ if_differing a b
unfolding first_over begins_with unless_equal if_differing
over_equal a b bits = elim (a == b) as (λ t. first_over (cond t [] (record { path = []; old = a; new = b } ∷ [])) bits ≡ cond t None (Some (a, b))) [ true ↦ refl | false ↦ refl ]

-- what two sides say of an address
over_both_low : (l r : Part) (bits : List Bool) → first_over (changes_of (both l r)) (false ∷ bits) ≡ first_over (changes_of l) bits
unfolding changes_of
over_both_low l r bits =
    over_append_none (map (under_bit false) (changes_of l)) (map (under_bit true) (changes_of r)) (false ∷ bits) (over_low (changes_of r) bits)
    ∙ over_under false (changes_of l) bits

over_both_high : (l r : Part) (bits : List Bool) → first_over (changes_of (both l r)) (true ∷ bits) ≡ first_over (changes_of r) bits
unfolding changes_of
over_both_high l r bits =
    over_none_append (map (under_bit false) (changes_of l)) (map (under_bit true) (changes_of r)) (true ∷ bits) (over_high (changes_of l) bits)
    ∙ over_under true (changes_of r) bits

and_left : (a b : Bool) → (a && b) ≡ true → a ≡ true
and_left true b h = refl
and_left false b h = h

and_right : (a b : Bool) → (a && b) ≡ true → b ≡ true
and_right true b h = h
and_right false b h = absurd (subst (λ t. elim t as (λ _. Type 0) [ true ↦ ⊥ | false ↦ Unit {0} ]) h tt)

pub same_first : (a b c d : ℕ) → same_pair a b c d ≡ true → a ≡ c
same_first a b c d h = eqb-true a c (and_left (a == c) (b == d) h)

pub same_second : (a b c d : ℕ) → same_pair a b c d ≡ true → b ≡ d
same_second a b c d h = eqb-true b d (and_right (a == c) (b == d) h)

equal_pair : (a b : ℕ) (xs ys : List Bool) → first_over (changes_of (Same a b)) xs ≡ first_over (changes_of (Same a b)) ys
unfolding changes_of
equal_pair a b xs ys = over_equal a b xs ∙ sym (over_equal a b ys)

over_joined_low : (l r : Part) (bits : List Bool) → first_over (changes_of (joined l r)) (false ∷ bits) ≡ first_over (changes_of l) bits
unfolding joined
over_joined_low (Same a b) (Same c d) bits =
    elim (same_pair a b c d) as (λ t. first_over (changes_of (cond t (Same a b) (both (Same a b) (Same c d)))) (false ∷ bits) ≡ first_over (changes_of (Same a b)) bits) [
      | true ↦ equal_pair a b (false ∷ bits) bits
      | false ↦ over_both_low (Same a b) (Same c d) bits
    ]
over_joined_low (Same a b) (Mixed cs) bits = over_both_low (Same a b) (Mixed cs) bits
over_joined_low (Mixed cs) r bits = over_both_low (Mixed cs) r bits

over_pair : (a b c d : ℕ) (xs ys : List Bool) → same_pair a b c d ≡ true → first_over (changes_of (Same a b)) xs ≡ first_over (changes_of (Same c d)) ys
unfolding changes_of
over_pair a b c d xs ys h =
    over_equal a b xs ∙ (λ i. if_differing (same_first a b c d h i) (same_second a b c d h i)) ∙ sym (over_equal c d ys)

over_joined_high : (l r : Part) (bits : List Bool) → first_over (changes_of (joined l r)) (true ∷ bits) ≡ first_over (changes_of r) bits
unfolding joined
over_joined_high (Same a b) (Same c d) bits =
    elim (cases_Bool (same_pair a b c d)) [
      | inl h ↦ ap (λ t. first_over (changes_of (cond t (Same a b) (both (Same a b) (Same c d)))) (true ∷ bits)) h ∙ over_pair a b c d (true ∷ bits) bits h
      | inr h ↦ ap (λ t. first_over (changes_of (cond t (Same a b) (both (Same a b) (Same c d)))) (true ∷ bits)) h ∙ over_both_high (Same a b) (Same c d) bits
    ]
over_joined_high (Same a b) (Mixed cs) bits = over_both_high (Same a b) (Mixed cs) bits
over_joined_high (Mixed cs) r bits = over_both_high (Mixed cs) r bits

-- a change covers an address exactly if its numbers differ, and has these numbers
pub changes_exact : (n : ℕ) (f g : List Bool → ℕ) (bits : List Bool) → length bits ≡ n → first_over (changes n f g) bits ≡ if_differing (f bits) (g bits)
unfolding part changes_of
changes_exact zero f g [] h = over_equal (f []) (g []) []
changes_exact zero f g (b ∷ bits) h = absurd (omega (arith, h))
changes_exact (suc n) f g [] h = absurd (omega (arith, h))
changes_exact (suc n) f g (false ∷ bits) h =
    over_joined_low (part n (after_bit false f) (after_bit false g)) (part n (after_bit true f) (after_bit true g)) bits
    ∙ changes_exact n (after_bit false f) (after_bit false g) bits (omega (arith, h))
changes_exact (suc n) f g (true ∷ bits) h =
    over_joined_high (part n (after_bit false f) (after_bit false g)) (part n (after_bit true f) (after_bit true g)) bits
    ∙ changes_exact n (after_bit true f) (after_bit true g) bits (omega (arith, h))

joined_same : (l r : Part) (a b : ℕ) → l ≡ Same a b → r ≡ Same a b → joined l r ≡ Same a b
unfolding joined
joined_same l r a b e h = (λ i. joined (e i) (h i)) ∙ ap (λ t. cond t (Same a b) (both (Same a b) (Same a b))) (reflexive a b)
  where
    reflexive : (a b : ℕ) → same_pair a b a b ≡ true
    reflexive a b = grind arith

-- a part whose addresses all have one pair is that pair: so the changes are the fewest
pub all_same : (n : ℕ) (f g : List Bool → ℕ) (a b : ℕ) → ((bits : List Bool) → length bits ≡ n → (f bits ≡ a) × (g bits ≡ b)) → part n f g ≡ Same a b
unfolding part
all_same zero f g a b h = λ i. Same ((h [] refl).0 i) ((h [] refl).1 i)
all_same (suc n) f g a b h =
    joined_same (part n (after_bit false f) (after_bit false g)) (part n (after_bit true f) (after_bit true g)) a b
    (all_same n (after_bit false f) (after_bit false g) a b (λ bits e. h (false ∷ bits) (omega (arith, e))))
    (all_same n (after_bit true f) (after_bit true g) a b (λ bits e. h (true ∷ bits) (omega (arith, e))))
