-- No list of changes that covers the same addresses is shorter.
use Rattle.std.proofs.Common.{◌≡◌, ℕ, zero, suc, ◌==◌, ◌+◌, ◌≤◌, Bool, true, false, List, [], ◌∷◌, length, cond, Option, Some, None, refl, ap, sym, ◌∙◌, subst, arith, inl, inr}
use Rattle.std.specs.Prelude.{⊤}
use Rattle.std.proofs.lemmas.Bool.{cases_Bool}
use Rattle.bit_code.specs.Prefixes.{begins_with}
use Rattle.map_diff.specs.Diff.{Change, Part, Same, after_bit, unless_equal, changes_of, both, joined, part, changes, first_over, if_differing, IsChange, EachIsChange, AreChanges}
use Rattle.map_diff.proofs.DiffLaws.{all_same, changes_exact, over_equal}
use Rattle.map_diff.proofs.Parts.{IsSame, IsBoth, some_none, mixed_same, differ_is, both_long, form_of}

-- the changes whose prefix begins with a bit, without it
cut_one : Bool → List Bool → Change → List Change → List Change
cut_one b [] c rest = rest
cut_one true (true ∷ p) c rest = record { path = p; old = c.old; new = c.new } ∷ rest
cut_one false (false ∷ p) c rest = record { path = p; old = c.old; new = c.new } ∷ rest
cut_one true (false ∷ p) c rest = rest
cut_one false (true ∷ p) c rest = rest

cut : Bool → List Change → List Change
cut b [] = []
cut b (c ∷ cs) = cut_one b c.path c (cut b cs)

one_cut : (p : List Bool) (c : Change) (xs ys : List Change) (k : ℕ) → length xs + length ys ≤ k → length (cut_one false p c xs) + length (cut_one true p c ys) ≤ suc k
unfolding cut_one
one_cut [] c xs ys k h = omega (arith, h)
one_cut (true ∷ p) c xs ys k h = omega (arith, h)
one_cut (false ∷ p) c xs ys k h = omega (arith, h)

-- no change is on both sides
cut_count : (cs : List Change) → length (cut false cs) + length (cut true cs) ≤ length cs
unfolding cut
cut_count [] = omega arith
cut_count (c ∷ cs) = one_cut c.path c (cut false cs) (cut true cs) (length cs) (cut_count cs)

short : (b : Bool) (p : List Bool) (n : ℕ) (f g : List Bool → ℕ) (c : Change) → c.path ≡ b ∷ p → ((bits : List Bool) → begins_with (b ∷ bits) (b ∷ p) ≡ begins_with bits p) → IsChange (suc n) f g c → IsChange n (after_bit b f) (after_bit b g) (record { path = p; old = c.old; new = c.new })
short b p n f g c e same h =
    record {
      differ = h.differ;
      constant = λ bits long begins. h.constant (b ∷ bits) (omega (arith, long)) (ap (begins_with (b ∷ bits)) e ∙ same bits ∙ begins);
    }

one_each : (b : Bool) (p : List Bool) (n : ℕ) (f g : List Bool → ℕ) (c : Change) (rest : List Change) → c.path ≡ p → IsChange (suc n) f g c → EachIsChange n (after_bit b f) (after_bit b g) rest → EachIsChange n (after_bit b f) (after_bit b g) (cut_one b p c rest)
unfolding cut_one begins_with
one_each b [] n f g c rest e h more = more
one_each true (true ∷ p) n f g c rest e h more = (short true p n f g c e (λ bits. refl) h, more)
one_each false (false ∷ p) n f g c rest e h more = (short false p n f g c e (λ bits. refl) h, more)
one_each true (false ∷ p) n f g c rest e h more = more
one_each false (true ∷ p) n f g c rest e h more = more

cut_each : (b : Bool) (n : ℕ) (f g : List Bool → ℕ) (cs : List Change) → EachIsChange (suc n) f g cs → EachIsChange n (after_bit b f) (after_bit b g) (cut b cs)
unfolding cut
cut_each b n f g [] h = tt
cut_each b n f g (c ∷ cs) h = one_each b c.path n f g c (cut b cs) refl h.0 (cut_each b n f g cs h.1)

one_over : (b : Bool) (p : List Bool) (c : Change) (rest : List Change) (bits : List Bool) (later : Option (ℕ × ℕ)) → (p ≡ [] → ⊥) → first_over rest bits ≡ later → first_over (cut_one b p c rest) bits ≡ cond (begins_with (b ∷ bits) p) (Some (c.old, c.new)) later
unfolding cut_one begins_with first_over
one_over b [] c rest bits later some h = absurd (some refl)
one_over true (true ∷ p) c rest bits later some h = ap (cond (begins_with bits p) (Some (c.old, c.new))) h
one_over false (false ∷ p) c rest bits later some h = ap (cond (begins_with bits p) (Some (c.old, c.new))) h
one_over true (false ∷ p) c rest bits later some h = h
one_over false (true ∷ p) c rest bits later some h = h

-- no change is of all addresses
abbrev HaveBits : List Change → Type 0
HaveBits [] = ⊤
HaveBits (c ∷ cs) = (c.path ≡ [] → ⊥) × HaveBits cs

cut_over : (b : Bool) (cs : List Change) (bits : List Bool) → HaveBits cs → first_over (cut b cs) bits ≡ first_over cs (b ∷ bits)
unfolding cut first_over
cut_over b [] bits h = refl
cut_over b (c ∷ cs) bits h = one_over b c.path c (cut b cs) bits (first_over cs (b ∷ bits)) h.0 (cut_over b cs bits h.1)

-- a change of all addresses makes them one pair
whole_pair : (n : ℕ) (f g : List Bool → ℕ) (c : Change) → IsChange n f g c → c.path ≡ [] → part n f g ≡ Same c.old c.new
unfolding begins_with
whole_pair n f g c h e = all_same n f g c.old c.new (λ bits long. h.constant bits long (ap (begins_with bits) e))

have_bits : (n : ℕ) (f g : List Bool → ℕ) (cs : List Change) → ((a b : ℕ) → part n f g ≡ Same a b → ⊥) → EachIsChange n f g cs → HaveBits cs
have_bits n f g [] mixed h = tt
have_bits n f g (c ∷ cs) mixed h = (λ e. mixed c.old c.new (whole_pair n f g c h.0 e), have_bits n f g cs mixed h.1)

-- each side of changes that cover all is covered by those of its bit
cut_are : (b : Bool) (n : ℕ) (f g : List Bool → ℕ) (cs : List Change) → ((x y : ℕ) → part (suc n) f g ≡ Same x y → ⊥) → AreChanges (suc n) f g cs → AreChanges n (after_bit b f) (after_bit b g) (cut b cs)
cut_are b n f g cs mixed h =
    record {
      each = cut_each b n f g cs h.each;
      all = λ bits long differ none. h.all (b ∷ bits) (omega (arith, long)) differ (sym (cut_over b cs bits (have_bits (suc n) f g cs mixed h.each)) ∙ none);
    }

-- two numbers that are a pair of a change differ
not_equal : (a b : ℕ) (p : ℕ × ℕ) → if_differing a b ≡ Some p → (a == b) ≡ false
unfolding if_differing
not_equal a b p e =
    elim (cases_Bool (a == b)) [
      | inl h ↦ absurd (some_none p (sym e ∙ ap (λ t. cond t None (Some (a, b))) h))
      | inr h ↦ h
    ]

one_length : (a b : ℕ) (t : Bool) (k : ℕ) → (a == b) ≡ t → (t ≡ false → 1 ≤ k) → length (unless_equal a b) ≤ k
unfolding unless_equal
one_length a b true k e h = rw e omega arith
one_length a b false k e h = rw e (omega (arith, h refl))

some_change : (n : ℕ) (f g : List Bool → ℕ) (cs : List Change) (bits : List Bool) → AreChanges n f g cs → length bits ≡ n → (f bits == g bits) ≡ false → 1 ≤ length cs
unfolding first_over
some_change n f g [] bits h long differ = absurd (h.all bits long differ refl)
some_change n f g (c ∷ cs) bits h long differ = omega arith

zeros : ℕ → List Bool
zeros zero = []
zeros (suc n) = false ∷ zeros n

zeros_long : (n : ℕ) → length (zeros n) ≡ n
unfolding zeros
zeros_long zero = refl
zeros_long (suc n) = omega (arith, zeros_long n)

-- one pair wants at most one change
pair_fewest : (n : ℕ) (f g : List Bool → ℕ) (cs : List Change) (a b : ℕ) → part n f g ≡ Same a b → AreChanges n f g cs → length (changes n f g) ≤ length cs
unfolding changes_of
pair_fewest n f g cs a b e h =
    let bits = zeros n in
    let long = zeros_long n in
    let over : if_differing (f bits) (g bits) ≡ if_differing a b = sym (changes_exact n f g bits long) ∙ ap (λ w. first_over (changes_of w) bits) e ∙ over_equal a b bits in
    let one : length (unless_equal a b) ≤ length cs = one_length a b (a == b) (length cs) refl (λ off. some_change n f g cs bits h long (not_equal (f bits) (g bits) (a, b) (over ∙ differ_is a b off))) in
    subst (λ w. length (changes_of w) ≤ length cs) (sym e) one

-- two sides that are not one pair are none
both_mixed : (l r whole : Part) (a b : ℕ) → whole ≡ both l r → whole ≡ Same a b → ⊥
both_mixed l r whole a b e h = mixed_same _ a b (sym e ∙ h)

-- the changes are the fewest that cover the addresses to which the maps give two numbers
pub fewest : (n : ℕ) (f g : List Bool → ℕ) (cs : List Change) → AreChanges n f g cs → length (changes n f g) ≤ length cs
unfolding part
fewest zero f g cs h = pair_fewest zero f g cs (f []) (g []) refl h
fewest (suc n) f g cs h =
    let l = part n (after_bit false f) (after_bit false g) in
    let r = part n (after_bit true f) (after_bit true g) in
    elim (form_of l r) [
      | IsSame a b e ↦ pair_fewest (suc n) f g cs a b e h
      | IsBoth e ↦
          let mixed : (a b : ℕ) → part (suc n) f g ≡ Same a b → ⊥ = λ a b. both_mixed l r (joined l r) a b e in
          omega (
            arith,
            ap (λ w. length (changes_of w)) e,
            both_long l r,
            cut_count cs,
            fewest n (after_bit false f) (after_bit false g) (cut false cs) (cut_are false n f g cs mixed h),
            fewest n (after_bit true f) (after_bit true g) (cut true cs) (cut_are true n f g cs mixed h),
          )
    ]
