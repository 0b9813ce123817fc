-- A subnet that is longer than its address is the whole address.
use Rattle.std.proofs.Common.{◌≡◌, ℕ, ◌*◌, List, [], ◌∷◌, length, take, refl, sym, ap, ◌∙◌, arith, inl, inr}
use Rattle.std.specs.Prelude.{min, ◌==◌}
use Rattle.std.specs.List.{starts_with}
use Rattle.std.proofs.lemmas.Bool.{cases_lt}
use Rattle.std.proofs.lemmas.List.{take_all}
use Rattle.net_addr.specs.Ranges.{bits_of, range, in_range}

length-bits_of : (bytes : List ℕ) → length (bits_of bytes) ≡ 8 * length bytes
length-bits_of [] = refl
length-bits_of (b ∷ bs) = let rest = length-bits_of bs in omega (arith, rest)

-- the first bits of a base, of which there are no more
pub in_range-within : (bytes base : List ℕ) (len n : ℕ) → n ≡ min len (8 * length base) → in_range (range base n) bytes ≡ in_range (range base len) bytes
unfolding in_range
in_range-within bytes base len n e = elim (cases_lt (8 * length base) len) [
  | inl lt ↦
      let whole = length-bits_of base in
      ap (λ bits. starts_with ◌==◌ (bits_of bytes) bits) (take_all n (bits_of base) (omega (arith, whole, e)) ∙ sym (take_all len (bits_of base) (omega (arith, whole))))
  | inr le ↦ let same : n ≡ len = omega arith in ap (λ m. starts_with ◌==◌ (bits_of bytes) (take m (bits_of base))) same
]
