-- The names of groups need no escapes.
use Rattle.std.proofs.Common.{◌≡◌, ℕ, zero, suc, ◌+◌, ◌-◌, ◌*◌, ◌/◌, ◌%◌, ◌<◌, ◌≤◌, ◌^◌, ◌==◌, Bool, true, false, cond, List, [], ◌∷◌, ◌++◌, take, refl, ap, ◌∙◌, inl, inr, arith}
use Rattle.std.specs.Prelude.{All, codes, decimal, slice_index, unwrap_or}
use Rattle.std.specs.Int.{w128, from_be_bytes, to_be_bytes}
use Rattle.std.specs.Net.Addr.{segments_of}
use Rattle.std.specs.Net.Text.{hex_groups_text}
use Rattle.std.proofs.lemmas.List.Sums.{list_all-from_AllPass}
use Rattle.std.proofs.lemmas.List.Elements.{All-head, All-tail, All-weaker}
use Rattle.std.proofs.NetLemmas.Alphabet.{IsHexOrColon, All-hex_groups_text}
use Rattle.hex.specs.Hex.{encode_lower, encode_with, lower_digits}
use Rattle.net_addr.proofs.Words.{AllBytes-high_first, AllSegments-of}
use Rattle.net_addr.specs.Address.{Address, IsAddress}
use Rattle.net_addr.specs.NetBits.{each_below}
use Rattle.net_addr.specs.Ranges.{in_range, linked_ipv4, net_class}
use Rattle.net_addr.specs.Text.{ipv6_text}
use Rattle.net_addr.specs.declared.net.Net.{Net}
use Rattle.net_addr.specs.declared.net.Net.TheVariants.{Unroutable, Ipv4, Ipv6, Onion, I2p, Cjdns, Internal}
use Rattle.net_group.specs.Group.{he_net}
use Rattle.placing.specs.Places.{Places, asn}
use Rattle.table_groups.specs.Plain.{IsPlain, is_plain}
use Rattle.table_groups.specs.Names.{ipv4_name, ipv6_name, letter, letters_text, name_by, name_of, prefix_text}
use Rattle.table_groups.proofs.PlainTexts.{plain-append, plain-cons, plain-decimal, plain-numbered}

same : (c low : ℕ) → low ≤ c → is_plain c ≡ is_plain (low + (c - low))
same c low le = let is : c ≡ low + (c - low) = omega arith in ap is_plain is

hex_or_colon : (c : ℕ) → IsHexOrColon c → is_plain c ≡ true
hex_or_colon c (inl h) = same c 48 h.0 ∙ each_below (λ d. is_plain (48 + d)) 11 refl (c - 48) (omega (arith, h))
hex_or_colon c (inr h) = same c 97 h.0 ∙ each_below (λ d. is_plain (97 + d)) 6 refl (c - 97) (omega (arith, h))

plain-ipv6 : (n : ℕ) → IsPlain (ipv6_text (to_be_bytes w128 n))
plain-ipv6 n =
    let bytes : List ℕ = to_be_bytes w128 n in
    let text : List ℕ = hex_groups_text (segments_of bytes) in
    list_all-from_AllPass is_plain text
    (All-weaker IsHexOrColon (λ c. is_plain c ≡ true) hex_or_colon text (All-hex_groups_text (segments_of bytes) (AllSegments-of bytes (AllBytes-high_first 16 n))))

plain-prefix : (bytes : List ℕ) (size width : ℕ) → IsPlain (prefix_text bytes size width)
plain-prefix bytes size width =
    plain-append (ipv6_text (to_be_bytes w128 (from_be_bytes w128 bytes / size * size))) (codes "/" ++ decimal width)
    (plain-ipv6 (from_be_bytes w128 bytes / size * size)) (plain-append (codes "/") (decimal width) refl (plain-decimal width))

plain-ipv4 : (bytes : List ℕ) → IsPlain (ipv4_name bytes)
plain-ipv4 bytes =
    plain-append (decimal (slice_index bytes 0)) (codes "." ++ (decimal (slice_index bytes 1) ++ codes ".0.0/16")) (plain-decimal (slice_index bytes 0))
    (plain-numbered (codes ".") (slice_index bytes 1) (codes ".0.0/16") refl refl)

plain-ipv6-name : (a : Address) → IsPlain (ipv6_name a)
plain-ipv6-name a = by (in_range he_net a.bytes)
  where
    by : (b : Bool) → IsPlain (cond b (prefix_text a.bytes (2 ^ 92) 36) (prefix_text a.bytes (2 ^ 96) 32))
    by true = plain-prefix a.bytes (2 ^ 92) 36
    by false = plain-prefix a.bytes (2 ^ 96) 32

plain-letter : (digit : ℕ) → digit < 32 → is_plain (letter digit) ≡ true
plain-letter digit small = each_below (λ d. is_plain (letter d)) 32 refl digit small

plain-letters : (byte : ℕ) → byte < 256 → IsPlain (letters_text byte)
plain-letters byte small =
    plain-cons (letter (byte / 16 * 2)) (codes " or " ++ (letter (byte / 16 * 2 + 1) ∷ [])) (plain-letter (byte / 16 * 2) (omega arith))
    (plain-append (codes " or ") (letter (byte / 16 * 2 + 1) ∷ []) refl (plain-cons (letter (byte / 16 * 2 + 1)) [] (plain-letter (byte / 16 * 2 + 1) (omega arith)) refl))

-- a byte of an address
first-byte : (bytes : List ℕ) → All (λ b. b < 256) bytes → slice_index bytes 0 < 256
first-byte [] each = omega arith
first-byte (b ∷ bs) each = All-head (λ b. b < 256) b bs each

plain-digit : (d : ℕ) → d < 16 → is_plain (slice_index lower_digits d) ≡ true
plain-digit d small = each_below (λ d. is_plain (slice_index lower_digits d)) 16 refl d small

plain-hex : (n : ℕ) (bytes : List ℕ) → All (λ b. b < 256) bytes → IsPlain (encode_lower (take n bytes))
unfolding encode_with
plain-hex zero bytes each = refl
plain-hex (suc n) [] each = refl
plain-hex (suc n) (b ∷ bs) each =
    let small : b < 256 = All-head (λ b. b < 256) b bs each in
    plain-cons (slice_index lower_digits (b / 16)) (slice_index lower_digits (b % 16) ∷ encode_lower (take n bs)) (plain-digit (b / 16) (omega (arith, small)))
    (plain-cons (slice_index lower_digits (b % 16)) (encode_lower (take n bs)) (plain-digit (b % 16) (omega arith)) (plain-hex n bs (All-tail (λ b. b < 256) b bs each)))

by_class : (class : Net) (a : Address) → IsAddress a → IsPlain (name_by class a)
by_class Unroutable a is = refl
by_class Ipv4 a is = plain-ipv4 (unwrap_or (linked_ipv4 a) [])
by_class Ipv6 a is = plain-ipv6-name a
by_class Onion a is = plain-append (codes "Tor v3 ") (letters_text (slice_index a.bytes 0)) refl (plain-letters (slice_index a.bytes 0) (first-byte a.bytes is.bytes))
by_class I2p a is = plain-append (codes "I2P ") (letters_text (slice_index a.bytes 0)) refl (plain-letters (slice_index a.bytes 0) (first-byte a.bytes is.bytes))
by_class Cjdns a is = plain-prefix a.bytes (2 ^ 116) 12
by_class Internal a is =
    plain-append (codes "internal ") (encode_lower (take 4 a.bytes) ++ codes "..") refl (plain-append (encode_lower (take 4 a.bytes)) (codes "..") (plain-hex 4 a.bytes is.bytes) refl)

pub name-plain : (places : Places) (a : Address) → IsAddress a → IsPlain (name_of places a)
unfolding name_of
name-plain places a is = by (asn places.map a == 0)
  where
    by : (b : Bool) → IsPlain (cond b (name_by (net_class a) a) (codes "AS" ++ decimal (asn places.map a)))
    by true = by_class (net_class a) a is
    by false = plain-append (codes "AS") (decimal (asn places.map a)) refl (plain-decimal (asn places.map a))
