-- The bytes of addresses.
use Rattle.std.proofs.Common.{◌≡◌, ℕ, suc, ◌<◌, true, false, List, [], ◌∷◌, length, take, drop, All, Bool, cond, replicate, ◌≢◌, refl, ap, ◌∙◌, arith, rules, inl, inr}
use Rattle.std.proofs.lemmas.Bool.{cases_lt}
use Rattle.std.proofs.lemmas.List.{get_or_past, take_all, length-drop}
use Rattle.std.proofs.lemmas.List.Elements.{All-drop}
use Rattle.net_addr.specs.Address.{IsAddress, length_of, is_old_form, begins_with, mapped_prefix, internal_prefix, torv2_prefix}
use Rattle.net_addr.specs.OldForm.{address, from_v1}
use Rattle.net_addr.specs.declared.net.Net.{Net}
use Rattle.net_addr.specs.declared.net.Net.TheVariants.{Unroutable, Ipv4, Ipv6, Internal}
use Rattle.net_addr.proofs.Bits.{AllBytes}

-- each element is below 256
pub All_bytes : (xs : List ℕ) → AllBytes xs → All (λ b. b < 256) xs
All_bytes [] h = search rules
All_bytes (x ∷ xs) h =
    let later = All_bytes xs (λ i. h (suc i)) in
    let first = h 0 in
    search rules

-- the bytes of an address by index
pub AllBytes-All : (xs : List ℕ) → All (λ b. b < 256) xs → AllBytes xs
AllBytes-All xs h i = elim (cases_lt i (length xs)) [
  | inl lt ↦ h i 0 lt
  | inr le ↦ omega (arith, get_or_past xs i 0 le)
]

-- an address of another network than IPv6
pub IsAddress-plain : (n : Net) (xs : List ℕ) → n ≢ Unroutable → n ≢ Ipv6 → length xs ≡ length_of n → All (λ b. b < 256) xs → IsAddress (address n xs)
IsAddress-plain n xs some other l h = record { network = some; length = l; bytes = h; own_form = λ e. absurd (other e) }

-- an IPv6 address
pub IsAddress-ipv6 : (xs : List ℕ) → length xs ≡ 16 → All (λ b. b < 256) xs → is_old_form xs ≡ false → IsAddress (address Ipv6 xs)
IsAddress-ipv6 xs l h own = record { network = λ e. cc; length = l; bytes = h; own_form = λ _. own }

-- sixteen bytes of the old form, and the parts of them that are an address
sixteen_zeros : All (λ b. b < 256) (replicate 16 0)
sixteen_zeros = search rules

from_v1-cases : (xs : List ℕ) (m i t : Bool) → begins_with xs mapped_prefix ≡ m → begins_with xs internal_prefix ≡ i → begins_with xs torv2_prefix ≡ t → length xs ≡ 16 → All (λ b. b < 256) xs → IsAddress (cond m (address Ipv4 (drop 12 xs)) (cond i (address Internal (drop 6 xs)) (cond t (address Ipv6 (replicate 16 0)) (address Ipv6 xs))))
from_v1-cases xs true i t a b c l h = IsAddress-plain Ipv4 (drop 12 xs) (λ e. cc) (λ e. cc) (omega (arith, length-drop 12 xs)) (All-drop (λ b. b < 256) 12 xs h)
from_v1-cases xs false true t a b c l h = IsAddress-plain Internal (drop 6 xs) (λ e. cc) (λ e. cc) (omega (arith, length-drop 6 xs)) (All-drop (λ b. b < 256) 6 xs h)
from_v1-cases xs false false true a b c l h = IsAddress-ipv6 (replicate 16 0) refl sixteen_zeros refl
from_v1-cases xs false false false a b c l h = IsAddress-ipv6 xs l h (rw (a, b, c) refl)

-- sixteen bytes of the old form give an address
pub IsAddress-from_v1 : (xs : List ℕ) → length xs ≡ 16 → All (λ b. b < 256) xs → IsAddress (from_v1 xs)
IsAddress-from_v1 xs l h = from_v1-cases xs _ _ _ refl refl refl l h

-- one that begins with the prefix of IPv4 addresses, of internal names, and with no prefix
pub from_v1-mapped : (xs ys : List ℕ) → length xs ≡ 16 → begins_with xs mapped_prefix ≡ true → ys ≡ take 4 (drop 12 xs) → address Ipv4 ys ≡ from_v1 xs
from_v1-mapped xs ys l m e =
    rw m (ap (address Ipv4) (e ∙ take_all 4 (drop 12 xs) (omega (arith, length-drop 12 xs))))

pub from_v1-internal : (xs ys : List ℕ) → length xs ≡ 16 → begins_with xs mapped_prefix ≡ false → begins_with xs internal_prefix ≡ true → ys ≡ take 10 (drop 6 xs) → address Internal ys ≡ from_v1 xs
from_v1-internal xs ys l m i e =
    rw (m, i) (ap (address Internal) (e ∙ take_all 10 (drop 6 xs) (omega (arith, length-drop 6 xs))))

pub from_v1-ipv6 : (xs : List ℕ) → begins_with xs mapped_prefix ≡ false → begins_with xs internal_prefix ≡ false → begins_with xs torv2_prefix ≡ false → address Ipv6 xs ≡ from_v1 xs
from_v1-ipv6 xs m i t = rw (m, i, t) refl
