-- Deletion of a number from an order of distinct numbers leaves the others.
use Rattle.std.proofs.Common.{◌≡◌, ℕ, suc, ◌<◌, Bool, true, false, not, ◌==◌, List, [], ◌∷◌, length, get_or, All, Contains, filter, position, swap_remove, Option, Some, None, refl, sym, ap, subst, ◌∙◌, inl, inr, arith, true≢false, if◌then◌else◌, take, set, ◌-◌, ◌+◌, ◌⊎◌, lt-ltb}
use Rattle.std.specs.List.{IsDistinct, position_or_len}
use Rattle.std.specs.Option.{option_map_or}
use Rattle.std.specs.List.Sorted.{IsPermutation, IsStrictlyIncreasing}
use Rattle.std.proofs.lemmas.Bool.Decides.{Decides-eqb, Decides-like, same_from_decides}
use Rattle.std.proofs.lemmas.List.{get_or_default}
use Rattle.std.proofs.lemmas.List.Elements.{recursion_from_All, All-from_recursion, All-weaker}
use Rattle.std.proofs.lemmas.List.Kept.{AllPairs-from_increasing}
use Rattle.std.proofs.lemmas.List.Quantifiers.{position-Some}
use Rattle.std.proofs.lemmas.List.Sorted.{IsPermutation-swap_remove, IsPermutation-trans, Contains-permutation}
use Rattle.std.proofs.lemmas.Map.Keys.{IsDistinct-IsPermutation, IsDistinct-head}
use Rattle.std.proofs.lemmas.Map.Made.{IsDistinct-from_AllPairs}
use Rattle.peer_rec.specs.Deletion.{without_first, without_position}
use Rattle.table_machine.proofs.Lists.{IsPermutation-filter, filter_none_out, none_in_nil, Contains-cases}

-- the numbers other than n
abbrev pub others : ℕ → List ℕ → List ℕ
others n ns = filter (λ m. not (m == n)) ns

distinct_from_rising : (ns : List ℕ) → IsStrictlyIncreasing ns → IsDistinct ◌==◌ ns
distinct_from_rising ns rising =
    IsDistinct-from_AllPairs Decides-eqb ns (λ i j d below within same. let h : get_or ns i d < get_or ns j d = AllPairs-from_increasing ns rising i j d below within in omega arith)

flips : (m n : ℕ) → (m == n) ≡ (n == m)
flips m n = same_from_decides (m == n) (n == m) (Decides-eqb m n) (Decides-like (n == m) sym sym (Decides-eqb n m))

-- without the number at a position the others are left, if the numbers are distinct
others-without_position : (ns order : List ℕ) (n i : ℕ) → IsDistinct ◌==◌ ns → IsPermutation ns order → i < length order → get_or order i n ≡ n
    → IsPermutation (others n ns) (without_position order i)
others-without_position ns [] n i distinct same within at = absurd (omega arith)
others-without_position ns (o ∷ order) n i distinct same within at =
    let rest = swap_remove (o ∷ order) i n in
    let moved : IsPermutation ns (n ∷ rest) = IsPermutation-trans ns (o ∷ order) (n ∷ rest) same (IsPermutation-swap_remove (o ∷ order) i n within (sym at)) in
    let apart = IsDistinct-IsPermutation ◌==◌ flips ns (n ∷ rest) moved distinct in
    let differ : All (λ m. not (m == n) ≡ true) rest = All-weaker (λ m. (n == m) ≡ false) (λ m. not (m == n) ≡ true) (λ m h. ap not (flips m n ∙ h)) rest
    (All-from_recursion (λ m. (n == m) ≡ false) rest (IsDistinct-head ◌==◌ n rest apart)) in
    let whole : others n (n ∷ rest) ≡ rest =
    ap (λ b. if b then n ∷ others n rest else others n rest) (ap not ((Decides-eqb n n).1 refl))
    ∙ filter_none_out (λ m. not (m == n)) rest (recursion_from_All (λ m. not (m == n) ≡ true) rest differ) in
    let named : rest ≡ without_position (o ∷ order) i =
    ap (λ x. take (length (o ∷ order) - 1) (set (o ∷ order) i x)) (get_or_default (o ∷ order) (length (o ∷ order) - 1) n o (omega arith)) in
    subst (IsPermutation (others n ns)) (whole ∙ named) (IsPermutation-filter (λ m. not (m == n)) ns (n ∷ rest) moved)

-- a number that is in the list has a first position
pub first_within : (n : ℕ) (ns : List ℕ) → Contains ns n → position_or_len (λ m. m == n) ns < length ns
first_within n [] c = absurd (none_in_nil n c)
first_within n (m ∷ ms) c = by (m == n) refl (first_within n ms) (Contains-cases m ms n c)
  where
    by : (b : Bool) → (m == n) ≡ b → (Contains ms n → position_or_len (λ k. k == n) ms < length ms) → (m ≡ n) ⊎ Contains ms n
        → (if not b then 1 + position_or_len (λ k. k == n) ms else 0) < suc (length ms)
    by true h more cases = omega arith
    by false h more (inl one) = absurd (true≢false (sym ((Decides-eqb m n).1 one) ∙ h))
    by false h more (inr c) = let below = more c in omega arith

-- deletion of a number leaves the others, in some order
pub others-without_first : (ns order : List ℕ) (n : ℕ) → IsStrictlyIncreasing ns → IsPermutation ns order → Contains ns n
    → IsPermutation (others n ns) (without_first (λ m. m == n) order)
others-without_first ns order n rising same c = by (position (λ m. m == n) order) refl
  where
    by : (o : Option ℕ) → position (λ m. m == n) order ≡ o → IsPermutation (others n ns) (option_map_or (without_position order) o order)
    by None at =
        let there = first_within n order (Contains-permutation ns order n same c) in
        let found : position (λ m. m == n) order ≡ Some (position_or_len (λ m. m == n) order) =
        ap (λ b. if b then Some (position_or_len (λ m. m == n) order) else None) (lt-ltb _ _ there) in
        absurd (cc)
    by (Some i) at =
        let h = position-Some (λ m. m == n) order i n at in
        others-without_position ns order n i (distinct_from_rising ns rising) same h.0 ((Decides-eqb (get_or order i n) n).0 h.1)
