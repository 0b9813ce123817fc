-- Deletion of a number from an order, by its position.
use Rattle.std.proofs.Common.{AllPairs, ◌≡◌, ◌≢◌, ℕ, ◌+◌, ◌-◌, ◌<◌, List, [], ◌∷◌, length, get_or, set, take, Contains, Option, Some, None, position, swap_remove, refl, sym, ap, subst, ◌∙◌, arith, ◌==◌, if◌then◌else◌, lt-ltb}
use Rattle.std.specs.List.{position_or_len, range_with_len}
use Rattle.std.specs.Option.{option_map_or}
use Rattle.std.proofs.lemmas.Bool.Decides.{Decides-eqb}
use Rattle.std.proofs.lemmas.List.{get_or_default}
use Rattle.std.proofs.lemmas.List.FromFn.{get_or-range_with_len, length-range_with_len}
use Rattle.std.proofs.lemmas.List.Quantifiers.{position-Some}
use Rattle.peer_rec.specs.Deletion.{without_first, without_position}
use Rattle.table_plan.specs.Positions.{ArePositions}
use Rattle.table_machine.proofs.Orders.{first_within}

-- the default past the end is never used
swap_remove-default : (ns : List ℕ) (i d e : ℕ) → i < length ns → swap_remove ns i d ≡ swap_remove ns i e
swap_remove-default ns i d e within = ap (λ x. take (length ns - 1) (set ns i x)) (get_or_default ns (length ns - 1) d e (omega arith))

module _ (numbers positions : List ℕ) (are : ArePositions numbers positions) (number : ℕ) (there : Contains numbers number) where
  abbrev pub at : ℕ
  at = get_or positions number 0

  found : get_or numbers there.0 0 ≡ number
  found = get_or_default numbers there.0 0 number there.1 ∙ there.2

  at-is : at ≡ there.0
  at-is = ap (λ n. get_or positions n 0) (sym found) ∙ are.back there.0 there.1

  pub number-below : number < length positions
  number-below = subst (λ n. n < length positions) found (are.below there.0 there.1)

  pub at-within : at < length numbers
  at-within = subst (λ i. i < length numbers) (sym at-is) there.1

  -- numbers at two positions differ
  one-place : (i : ℕ) → i < length numbers → get_or numbers i 0 ≡ number → i ≡ at
  one-place i within is = sym (are.back i within) ∙ ap (λ n. get_or positions n 0) is

  first : position (λ m. m == number) numbers ≡ Some at
  first = by (position (λ m. m == number) numbers) refl
    where
      by : (o : Option ℕ) → position (λ m. m == number) numbers ≡ o → o ≡ Some at
      by None none =
          let within = first_within number numbers there in
          let some : position (λ m. m == number) numbers ≡ Some (position_or_len (λ m. m == number) numbers) =
          ap (λ b. if b then Some (position_or_len (λ m. m == number) numbers) else None) (lt-ltb _ _ within) in
          absurd (cc)
      by (Some i) some =
          let h = position-Some (λ m. m == number) numbers i 0 some in
          ap Some (one-place i h.0 ((Decides-eqb (get_or numbers i 0) number).0 h.1))

  pub deleted : (d : ℕ) → swap_remove numbers at d ≡ without_first (λ m. m == number) numbers
  deleted d = by numbers refl ∙ ap (λ o. option_map_or (without_position numbers) o numbers) (sym first)
    where
      by : (ns : List ℕ) → ns ≡ numbers → swap_remove numbers at d ≡ without_position numbers at
      by [] is = absurd (let within = at-within in let none = ap length is in omega arith)
      by (n ∷ ns) is =
          swap_remove-default numbers at d n at-within
          ∙ subst (λ xs. swap_remove xs at n ≡ without_position xs at) is refl

-- each number at its own position
pub are-counted : (count : ℕ) (numbers positions : List ℕ) → numbers ≡ range_with_len 0 count → positions ≡ range_with_len 0 count → ArePositions numbers positions
are-counted count numbers positions one two = record {
  below = λ i within.
      (let inside : i < count = omega (arith, ap length one, length-range_with_len 0 count) in
      let at = number i inside in
      let long = ap length two ∙ length-range_with_len 0 count in
      omega (arith, at, long));
  back = λ i within.
      (let inside : i < count = omega (arith, ap length one, length-range_with_len 0 count) in
      ap (λ n. get_or positions n 0) (number i inside) ∙ ap (λ ns. get_or ns i 0) two ∙ get_or-range_with_len 0 count i 0 inside ∙ plain i);
}
  where
    plain : (i : ℕ) → 0 + i ≡ i
    plain i = omega arith

    number : (i : ℕ) → i < count → get_or numbers i 0 ≡ i
    number i inside = ap (λ ns. get_or ns i 0) one ∙ get_or-range_with_len 0 count i 0 inside ∙ plain i

-- a number is not in the order twice
pub distinct : (numbers positions : List ℕ) → ArePositions numbers positions → AllPairs (λ m n. m ≢ n) numbers
distinct numbers positions are i j d before within same =
    let left = at i (omega (arith, before)) in
    let right = at j within in
    let one : i ≡ j = sym left ∙ ap (λ n. get_or positions n 0) same ∙ right in
    omega (arith, before, one)
  where
    at : (k : ℕ) → k < length numbers → get_or positions (get_or numbers k d) 0 ≡ k
    at k inside = ap (λ n. get_or positions n 0) (get_or_default numbers k d 0 inside) ∙ are.back k inside
