-- A byte whose low bits are set.
use Rattle.std.proofs.Common.{◌≡◌, ◌≢◌, ℕ, zero, suc, ◌+◌, ◌-◌, ◌*◌, ◌/◌, ◌%◌, ◌^◌, ◌<◌, List, [], ◌∷◌, ◌++◌, get_or, take, refl, sym, ap, ◌∙◌, arith}
use Rattle.std.specs.Prelude.{bit_or}
use Rattle.std.proofs.lemmas.Bool.{ne_eqb}
use Rattle.std.proofs.lemmas.Nat.{or_block, or_lt, le_or_r, pow_pos, div-add-mod'}
use Rattle.std.specs.Int.Bits.{or_zero_r}
use Rattle.std.proofs.Math.Nat.{mod-lt}
use Rattle.net_group.specs.Group.{prefix_bytes}

or_ones : (k r : ℕ) → r < 2 ^ k → bit_or r (2 ^ k - 1) ≡ 2 ^ k - 1
or_ones k r h =
    let ones : 2 ^ k - 1 < 2 ^ k = omega (arith, pow_pos k) in
    omega (arith, or_lt k r (2 ^ k - 1) h ones, le_or_r r (2 ^ k - 1))

-- the low k bits of a number, set
or_low : (k b : ℕ) → bit_or b (2 ^ k - 1) ≡ b / 2 ^ k * 2 ^ k + (2 ^ k - 1)
or_low k b =
    let q = b / 2 ^ k in
    let r = b % 2 ^ k in
    let below : r < 2 ^ k = mod-lt b (pow_pos k) in
    let ones : 2 ^ k - 1 < 2 ^ k = omega (arith, pow_pos k) in
    let parts : b ≡ q * 2 ^ k + r = sym (div-add-mod' b (2 ^ k)) in
    let none : 2 ^ k - 1 ≡ 0 * 2 ^ k + (2 ^ k - 1) = omega arith in
    ap (λ n. bit_or n (2 ^ k - 1)) parts ∙ ap (λ n. bit_or (q * 2 ^ k + r) n) none ∙ or_block k q 0 r (2 ^ k - 1) below ones ∙ ap (λ n. n * 2 ^ k + bit_or r (2 ^ k - 1)) (or_zero_r q) ∙ ap (λ n. q * 2 ^ k + n) (or_ones k r below)

shifted : (r : ℕ) → 0 < r → r < 8 → 255 / 2 ^ r ≡ 2 ^ (8 - r) - 1
shifted zero p h = absurd (omega arith)
shifted (suc zero) p h = refl
shifted (suc (suc zero)) p h = refl
shifted (suc (suc (suc zero))) p h = refl
shifted (suc (suc (suc (suc zero)))) p h = refl
shifted (suc (suc (suc (suc (suc zero))))) p h = refl
shifted (suc (suc (suc (suc (suc (suc zero)))))) p h = refl
shifted (suc (suc (suc (suc (suc (suc (suc zero))))))) p h = refl
shifted (suc (suc (suc (suc (suc (suc (suc (suc r)))))))) p h = absurd (omega arith)

pub prefix_bytes-part : (n : ℕ) (bytes : List ℕ) → n % 8 ≢ 0 → take (n / 8) bytes ++ bit_or (get_or bytes (n / 8) 0) (255 / 2 ^ (n % 8)) ∷ [] ≡ prefix_bytes n bytes
prefix_bytes-part n bytes some =
    let b = get_or bytes (n / 8) 0 in
    let byte = ap (λ m. bit_or b m) (shifted (n % 8) (omega arith) (omega arith)) ∙ or_low (8 - n % 8) b in
    rw (ne_eqb (n % 8) 0 some) (ap (λ m. take (n / 8) bytes ++ m ∷ []) byte)
