-- Clearing bits.
use Rattle.std.proofs.Common.{◌≡◌, ℕ, suc, ◌+◌, ◌-◌, ◌*◌, ◌/◌, ◌<◌, ◌≤◌, ◌^◌, List, [], ◌∷◌, ◌++◌, length, take, get_or, zero, refl, ap, ◌∙◌, arith}
use Rattle.std.proofs.lemmas.Nat.{div-mul-add, pow_pos}
use Rattle.std.proofs.lemmas.List.{take_all}
use Rattle.net_addr.specs.declared.net.Net.{Net}
use Rattle.net_addr.specs.declared.net.Net.TheVariants.{Unroutable, Ipv4, Ipv6, Onion, I2p, Cjdns, Internal}
use Rattle.ban_list.specs.Subnet.{IsMasked, IsWhole, clear, kept}

-- nothing yet
pub clear-start : (len : ℕ) (bytes : List ℕ) → [] ≡ take 0 (clear len bytes)
clear-start len bytes = refl

pub length-clear : (len : ℕ) (bytes : List ℕ) → length (clear len bytes) ≡ length bytes
unfolding clear
length-clear len [] = refl
length-clear len (b ∷ bs) = ap suc (length-clear (len - 8) bs)

times_over : (q p : ℕ) → 0 < p → q * p / p ≡ q
times_over q p some =
    let e : q * p ≡ q * p + 0 = omega arith in
    ap (λ n. n / p) e ∙ div-mul-add q p 0 some

kept-again : (len byte : ℕ) → kept len (kept len byte) ≡ kept len byte
kept-again len byte = ap (λ q. q * 2 ^ (8 - len)) (times_over (byte / 2 ^ (8 - len)) (2 ^ (8 - len)) (pow_pos (8 - len)))

-- what is cleared stays so
pub clear-again : (len : ℕ) (bytes : List ℕ) → clear len (clear len bytes) ≡ clear len bytes
unfolding clear
clear-again len [] = refl
clear-again len (b ∷ bs) = λ i. kept-again len b i ∷ clear-again (len - 8) bs i

kept-whole : (len byte : ℕ) → 8 ≤ len → kept len byte ≡ byte
kept-whole len byte h =
    let none : 8 - len ≡ 0 = omega arith in
    let whole : byte / 1 * 1 ≡ byte = omega arith in
    ap (λ n. byte / 2 ^ n * 2 ^ n) none ∙ whole

-- nothing is cleared of the whole length
pub clear-whole : (len : ℕ) (bytes : List ℕ) → 8 * length bytes ≤ len → clear len bytes ≡ bytes
unfolding clear
clear-whole len [] h = refl
clear-whole len (b ∷ bs) h = λ i. kept-whole len b (omega arith) i ∷ clear-whole (len - 8) bs (omega arith) i

next_byte : (len i left : ℕ) (bytes : List ℕ) → i < length bytes → left ≡ len - 8 * i → take (suc i) (clear len bytes) ≡ take i (clear len bytes) ++ kept left (get_or bytes i 0) ∷ []
unfolding clear
next_byte len i left [] lt e = absurd (omega arith)
next_byte len zero left (b ∷ bs) lt e =
    let same : len ≡ left = omega arith in
    ap (λ n. kept n b ∷ []) same
next_byte len (suc i) left (b ∷ bs) lt e =
    ap (λ xs. kept len b ∷ xs) (next_byte (len - 8) i left bs (omega arith) (omega arith))

-- one byte more
pub clear-step : (len i left : ℕ) (bytes : List ℕ) → i < length bytes → left ≡ len - 8 * i → take (i + 1) (clear len bytes) ≡ take i (clear len bytes) ++ kept left (get_or bytes i 0) ∷ []
clear-step len i left bytes lt e =
    let next : i + 1 ≡ suc i = omega arith in
    ap (λ n. take n (clear len bytes)) next ∙ next_byte len i left bytes lt e

pub clear-end : (len : ℕ) (bytes : List ℕ) → take (length bytes) (clear len bytes) ≡ clear len bytes
clear-end len bytes = take_all (length bytes) (clear len bytes) (omega (arith, length-clear len bytes))

-- no network is of both kinds
pub masked_or_whole : (net : Net) → IsMasked net → IsWhole net → ⊥
masked_or_whole Onion m w = m
masked_or_whole I2p m w = m
masked_or_whole Cjdns m w = m
masked_or_whole Unroutable m w = m
masked_or_whole Ipv4 m w = w
masked_or_whole Ipv6 m w = w
masked_or_whole Internal m w = m
