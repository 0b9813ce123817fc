-- Both maps are constant on each of their changes, and differ there.
use Rattle.std.proofs.Common.{◌≡◌, ℕ, zero, suc, ◌==◌, Bool, true, false, List, [], ◌∷◌, ◌++◌, map, length, cond, refl, ap, sym, ◌∙◌, subst, arith}
use Rattle.bit_code.specs.Prefixes.{begins_with}
use Rattle.map_diff.specs.Diff.{Change, Part, Same, Mixed, after_bit, under_bit, unless_equal, changes_of, same_pair, both, joined, part, changes, IsChange, EachIsChange, AreChanges}
use Rattle.map_diff.proofs.DiffLaws.{changes_exact, same_first, same_second}
use Rattle.map_diff.proofs.Parts.{IsSame, IsBoth, true_false, some_none, mixed_same, differ_is, form_of}

abbrev old_of : Part → ℕ
old_of (Same a b) = a
old_of (Mixed cs) = 0

abbrev new_of : Part → ℕ
new_of (Same a b) = b
new_of (Mixed cs) = 0

-- two sides of one pair have this pair
record AreSame (l r : Part) (a b : ℕ) : Type 0 where
  left : l ≡ Same a b
  right : r ≡ Same a b

pair_sides : (a b c d x y : ℕ) (t : Bool) → same_pair a b c d ≡ t → cond t (Same a b) (both (Same a b) (Same c d)) ≡ Same x y → AreSame (Same a b) (Same c d) x y
pair_sides a b c d x y true on e =
    record { left = e; right = (λ i. Same (sym (same_first a b c d on) i) (sym (same_second a b c d on) i)) ∙ e }
pair_sides a b c d x y false on e = absurd (mixed_same _ x y e)

same_sides : (l r : Part) (a b : ℕ) → joined l r ≡ Same a b → AreSame l r a b
unfolding joined
same_sides (Same a b) (Same c d) x y e = pair_sides a b c d x y (same_pair a b c d) refl e
same_sides (Same a b) (Mixed cs) x y e = absurd (mixed_same _ x y e)
same_sides (Mixed cs) r x y e = absurd (mixed_same _ x y e)

-- all addresses of one pair have its numbers
same_all : (n : ℕ) (f g : List Bool → ℕ) (a b : ℕ) → part n f g ≡ Same a b → (bits : List Bool) → length bits ≡ n → (f bits ≡ a) × (g bits ≡ b)
unfolding part
same_all zero f g a b e [] long = (ap old_of e, ap new_of e)
same_all zero f g a b e (x ∷ bits) long = absurd (omega (arith, long))
same_all (suc n) f g a b e [] long = absurd (omega (arith, long))
same_all (suc n) f g a b e (false ∷ bits) long =
    let s = same_sides (part n (after_bit false f) (after_bit false g)) (part n (after_bit true f) (after_bit true g)) a b e in
    same_all n (after_bit false f) (after_bit false g) a b s.left bits (omega (arith, long))
same_all (suc n) f g a b e (true ∷ bits) long =
    let s = same_sides (part n (after_bit false f) (after_bit false g)) (part n (after_bit true f) (after_bit true g)) a b e in
    same_all n (after_bit true f) (after_bit true g) a b s.right bits (omega (arith, long))

each_equal : (n : ℕ) (f g : List Bool → ℕ) (a b : ℕ) (t : Bool) → (a == b) ≡ t → ((bits : List Bool) → length bits ≡ n → (f bits ≡ a) × (g bits ≡ b)) → EachIsChange n f g (cond t [] (record { path = []; old = a; new = b } ∷ []))
each_equal n f g a b true e h = tt
each_equal n f g a b false e h = (record { differ = e; constant = λ bits long begins. h bits long }, tt)

-- the change of a part that is one pair
each_same : (n : ℕ) (f g : List Bool → ℕ) (a b : ℕ) → part n f g ≡ Same a b → EachIsChange n f g (unless_equal a b)
unfolding unless_equal
each_same n f g a b e = each_equal n f g a b (a == b) refl (same_all n f g a b e)

short_begins : (b : Bool) (bits : List Bool) (n : ℕ) (f g : List Bool → ℕ) (c : Change) → IsChange n (after_bit b f) (after_bit b g) c → length bits ≡ suc n → begins_with bits (b ∷ c.path) ≡ true → (f bits ≡ c.old) × (g bits ≡ c.new)
unfolding begins_with
short_begins b [] n f g c h long begins = absurd (omega (arith, long))
short_begins true (true ∷ bits) n f g c h long begins = h.constant bits (omega (arith, long)) begins
short_begins false (false ∷ bits) n f g c h long begins = h.constant bits (omega (arith, long)) begins
short_begins true (false ∷ bits) n f g c h long begins = absurd (true_false (sym begins))
short_begins false (true ∷ bits) n f g c h long begins = absurd (true_false (sym begins))

each_under : (b : Bool) (n : ℕ) (f g : List Bool → ℕ) (cs : List Change) → EachIsChange n (after_bit b f) (after_bit b g) cs → EachIsChange (suc n) f g (map (under_bit b) cs)
each_under b n f g [] h = tt
each_under b n f g (c ∷ cs) h =
    (record { differ = h.0.differ; constant = λ bits long begins. short_begins b bits n f g c h.0 long begins }, each_under b n f g cs h.1)

each_append : (n : ℕ) (f g : List Bool → ℕ) (xs ys : List Change) → EachIsChange n f g xs → EachIsChange n f g ys → EachIsChange n f g (xs ++ ys)
each_append n f g [] ys h k = k
each_append n f g (c ∷ cs) ys h k = (h.0, each_append n f g cs ys h.1 k)

each_both : (n : ℕ) (f g : List Bool → ℕ) (l r : Part) → EachIsChange n (after_bit false f) (after_bit false g) (changes_of l) → EachIsChange n (after_bit true f) (after_bit true g) (changes_of r) → EachIsChange (suc n) f g (changes_of (both l r))
unfolding changes_of
each_both n f g l r h k =
    each_append (suc n) f g (map (under_bit false) (changes_of l)) (map (under_bit true) (changes_of r)) (each_under false n f g (changes_of l) h) (each_under true n f g (changes_of r) k)

same_each : (n : ℕ) (f g : List Bool → ℕ) (a b : ℕ) → part n f g ≡ Same a b → EachIsChange n f g (changes n f g)
unfolding changes_of
same_each n f g a b e = subst (λ w. EachIsChange n f g (changes_of w)) (sym e) (each_same n f g a b e)

each_change : (n : ℕ) (f g : List Bool → ℕ) → EachIsChange n f g (changes n f g)
unfolding part
each_change zero f g = same_each zero f g (f []) (g []) refl
each_change (suc n) f g =
    let l = part n (after_bit false f) (after_bit false g) in
    let r = part n (after_bit true f) (after_bit true g) in
    elim (form_of l r) [
      | IsSame a b e ↦ same_each (suc n) f g a b e
      | IsBoth e ↦ subst (λ w. EachIsChange (suc n) f g (changes_of w)) (sym e) (each_both n f g l r (each_change n (after_bit false f) (after_bit false g)) (each_change n (after_bit true f) (after_bit true g)))
    ]

-- the changes are changes of the two maps that cover all addresses with two numbers
pub changes_are : (n : ℕ) (f g : List Bool → ℕ) → AreChanges n f g (changes n f g)
changes_are n f g =
    record {
      each = each_change n f g;
      all = λ bits long differ none. some_none (f bits, g bits) (sym (changes_exact n f g bits long ∙ differ_is (f bits) (g bits) differ) ∙ none);
    }
