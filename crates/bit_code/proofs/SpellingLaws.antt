-- How many bits a spelling has. The crates above cite it too.
use Rattle.std.proofs.Common.{ℕ, zero, suc, ◌+◌, ◌-◌, ◌^◌, ◌<◌, ◌≤◌, length, arith, inl, inr}
use Rattle.std.specs.List.{range_with_len}
use Rattle.std.proofs.lemmas.Bool.{cases_lt, lt-ltb, le-ltb}
use Rattle.bit_code.specs.declared.coder.Coder.TheVariants as coders
use Rattle.bit_code.specs.Coder.{spelling, spelling_by, sizes}
use Rattle.bit_code.proofs.DigitLaws.{length-digits}

-- a spelling over several classes has a bit and the digits of the first class at least
shortest : (size last n : ℕ) → size ≤ length (spelling_by (range_with_len size (suc last)) n)
unfolding spelling_by
shortest size zero n = omega (arith, length-digits size n)
shortest size (suc last) n =
    elim (cases_lt n (2 ^ size)) [
      | inl here ↦ rw (lt-ltb n (2 ^ size) here) (omega (arith, length-digits size n))
      | inr later ↦ rw (le-ltb n (2 ^ size) later) (omega (arith, shortest (size + 1) last (n - 2 ^ size)))
    ]

one_more : (size last n : ℕ) → size < length (spelling_by (range_with_len size (suc (suc last))) n)
unfolding spelling_by
one_more size last n =
    elim (cases_lt n (2 ^ size)) [
      | inl here ↦ rw (lt-ltb n (2 ^ size) here) (omega (arith, length-digits size n))
      | inr later ↦ rw (le-ltb n (2 ^ size) later) (omega (arith, shortest (size + 1) last (n - 2 ^ size)))
    ]

-- the number of an autonomous system takes sixteen bits at least
pub length-spelling_asn : (n : ℕ) → 16 ≤ length (spelling coders.Asn n)
unfolding spelling sizes
length-spelling_asn n = one_more 15 8 (n - 1)
