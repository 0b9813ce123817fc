-- The text of IPv4 addresses, by what std's parser reads.
use Rattle.std.proofs.Common.{◌≡◌, ◌≢◌, ℕ, zero, suc, ◌/◌, ◌%◌, ◌<◌, ◌^◌, List, [], ◌∷◌, ◌++◌, length, get_or, drop, All, decimal, refl, sym, ap, ◌∙◌, subst, arith, append_assoc, inl, inr}
use Rattle.std.proofs.lemmas.Nat.{from_be_bytes-to_be_bytes_4, be_bytes_4}
use Rattle.std.proofs.lemmas.List.Elements.{All-head, All-tail}
use Rattle.std.proofs.lemmas.List.{append_cancel_right}
use Rattle.std.proofs.lemmas.List.Elements.{All-weaker}
use Rattle.std.proofs.NetLemmas.Theorems.{IsIpv4Text_unique, IsIpv6Text_unique}
use Rattle.std.proofs.NetLemmas.Texts.{IsColonHex-hex_groups_text}
use Rattle.std.proofs.NetLemmas.Alphabet.{IsHexOrColon, All-hex_groups_text}
use Rattle.std.specs.declared.net.ipv6_addr.Ipv6Addr.{Ipv6Addr}
use Rattle.std.specs.Net.Grammar.{IsColonHex}
use Rattle.net_addr.proofs.Words.{from_be_bytes-to_be_bytes_16, AllBytes-high_first, segments-octets, octets-segments, AllSegments-of}
use Rattle.std.specs.Int.{w32, w128, to_be_bytes, from_be_bytes}
use Rattle.std.specs.Net.Addr.{ipv4_bits, ipv6_octets, segments_of}
use Rattle.std.specs.Net.Grammar.{IsDotted, IsIpv4Text as StdIpv4Text, IsIpv6Text as StdIpv6Text}
use Rattle.std.specs.Net.Text.{dotted_text, hex_groups_text}
use Rattle.std.specs.declared.net.ipv4_addr.Ipv4Addr.{Ipv4Addr}
use Rattle.net_addr.specs.Text.{ipv4_text, ipv6_text, IsIpv4Text, IsIpv6Text, IsAddrText, IsPeerText}
use Rattle.net_addr.specs.declared.peer.Peer.{Peer}
use Rattle.net_addr.proofs.Numbers.{decimal-no_colon}

dotted_text-ipv4_text : (a b c d : ℕ) → dotted_text a b c d ≡ ipv4_text (a ∷ b ∷ c ∷ d ∷ [])
dotted_text-ipv4_text a b c d = simp append_assoc

-- the address whose bytes are those of a number
abbrev pub octets_of_bits : ℕ → Ipv4Addr
octets_of_bits n = record { octets = to_be_bytes w32 n }

pub spelled-by_bits : (text : List ℕ) (n : ℕ) → IsIpv4Text text n → IsDotted text (to_be_bytes w32 n)
spelled-by_bits text n h = record {
  a = n / 16777216 % 256;
  b = n / 65536 % 256;
  c = n / 256 % 256;
  d = n % 256;
  fit = (omega arith, omega arith, omega arith, omega arith);
  value = refl;
  spelled = h.1 ∙ sym (dotted_text-ipv4_text _ _ _ _);
}

four_below : (a b c d : ℕ) → (a < 256) × (b < 256) × (c < 256) × (d < 256) → (i : ℕ) → get_or (a ∷ b ∷ c ∷ d ∷ []) i 0 < 256
four_below a b c d h zero = h.0
four_below a b c d h (suc zero) = h.1
four_below a b c d h (suc (suc zero)) = h.2
four_below a b c d h (suc (suc (suc zero))) = h.3
four_below a b c d h (suc (suc (suc (suc i)))) = omega arith

-- a text that spells an address spells its number
pub spelled-bits : (text : List ℕ) (a : Ipv4Addr) (n : ℕ) → StdIpv4Text text a → n ≡ ipv4_bits a → text ≡ ipv4_text (to_be_bytes w32 n)
unfolding ipv4_bits
spelled-bits text a n h e =
    let four = h.a ∷ h.b ∷ h.c ∷ h.d ∷ [] in
    let bytes : to_be_bytes w32 n ≡ four = be_bytes_4 four n refl (four_below h.a h.b h.c h.d h.fit) (e ∙ ap (from_be_bytes w32) h.value) in
    h.spelled ∙ dotted_text-ipv4_text h.a h.b h.c h.d ∙ ap ipv4_text (sym bytes)

bits_of_octets : (n : ℕ) → n < 2 ^ 32 → ipv4_bits (octets_of_bits n) ≡ n
unfolding ipv4_bits
bits_of_octets n h = from_be_bytes-to_be_bytes_4 n h

-- and no other number
pub bits-of_spelled : (text : List ℕ) (a : Ipv4Addr) (m n : ℕ) → StdIpv4Text text a → m ≡ ipv4_bits a → IsIpv4Text text n → m ≡ n
bits-of_spelled text a m n h e f =
    e ∙ ap ipv4_bits (IsIpv4Text_unique text a (octets_of_bits n) h (spelled-by_bits text n f)) ∙ bits_of_octets n f.0

four_bits : (a b c d : ℕ) → a < 256 → b < 256 → c < 256 → d < 256 → from_be_bytes w32 (a ∷ b ∷ c ∷ d ∷ []) < 2 ^ 32
four_bits a b c d h k l m = omega arith

-- four bytes are those of a number of 32 bits
pub bits_of_bytes : (xs : List ℕ) → length xs ≡ 4 → All (λ b. b < 256) xs → (from_be_bytes w32 xs < 2 ^ 32) × (to_be_bytes w32 (from_be_bytes w32 xs) ≡ xs)
bits_of_bytes [] e h = absurd (omega (arith, e))
bits_of_bytes (a ∷ []) e h = absurd (omega (arith, e))
bits_of_bytes (a ∷ b ∷ []) e h = absurd (omega (arith, e))
bits_of_bytes (a ∷ b ∷ c ∷ []) e h = absurd (omega (arith, e))
bits_of_bytes (a ∷ b ∷ c ∷ d ∷ []) e h = (
  four_bits a b c d (h 0 0 (omega arith)) (h 1 0 (omega arith)) (h 2 0 (omega arith)) (h 3 0 (omega arith)),
  be_bytes_4 (a ∷ b ∷ c ∷ d ∷ []) _ refl (four_below a b c d (h 0 0 (omega arith), h 1 0 (omega arith), h 2 0 (omega arith), h 3 0 (omega arith))) refl,
)
bits_of_bytes (a ∷ b ∷ c ∷ d ∷ x ∷ xs) e h = absurd (omega (arith, e))

no_colon : (xs ys : List ℕ) → ¬ (All (λ c. c ≢ 58) (xs ++ 58 ∷ ys))
no_colon [] ys h = All-head (λ c. c ≢ 58) 58 ys h refl
no_colon (x ∷ xs) ys h = no_colon xs ys (All-tail (λ c. c ≢ 58) x (xs ++ 58 ∷ ys) h)

-- the text before the last colon and the text after it are known from the whole
pub last_colon-unique : (a x b y : List ℕ) → a ++ 58 ∷ b ≡ x ++ 58 ∷ y → All (λ c. c ≢ 58) b → All (λ c. c ≢ 58) y → (a ≡ x) × (b ≡ y)
last_colon-unique [] [] b y e h k = (refl, ap (λ xs. drop 1 xs) e)
last_colon-unique [] (c ∷ x) b y e h k = absurd (no_colon x y (subst (All (λ c. c ≢ 58)) (ap (λ xs. drop 1 xs) e) h))
last_colon-unique (c ∷ a) [] b y e h k = absurd (no_colon a b (subst (All (λ c. c ≢ 58)) (sym (ap (λ xs. drop 1 xs) e)) k))
last_colon-unique (c ∷ a) (d ∷ x) b y e h k =
    let heads : c ≡ d = cc in
    let tails : a ++ 58 ∷ b ≡ x ++ 58 ∷ y = ap (λ xs. drop 1 xs) e in
    let rest = last_colon-unique a x b y tails h k in
    (λ i. heads i ∷ rest.0 i, rest.1)

-- the parts round the last colon of a peer's text are its address's text and its port's
pub peer_parts : (text before after : List ℕ) (p : Peer) → text ≡ before ++ 58 ∷ after → All (λ c. c ≢ 58) after → IsPeerText text p → IsAddrText before p.addr × (after ≡ decimal p.port)
peer_parts text before after p cut last h =
    let whole = sym cut ∙ h.spelled ∙ append_assoc h.addr (58 ∷ []) (decimal p.port) in
    let parts = last_colon-unique before h.addr after (decimal p.port) whole last (decimal-no_colon p.port (omega (arith, h.port))) in
    (subst (λ t. IsAddrText t p.addr) (sym parts.0) h.addr_text, parts.1)

-- the IPv6 address whose groups are those of a number
abbrev pub groups_of_bits : ℕ → Ipv6Addr
groups_of_bits n = record { segments = segments_of (to_be_bytes w128 n) }

-- a text that spells an address without dots spells its number
pub ipv6-found : (text octets : List ℕ) (a : Ipv6Addr) (n : ℕ) → StdIpv6Text text a → All (λ c. c ≢ 46) text → octets ≡ ipv6_octets a → to_be_bytes w128 n ≡ octets → n < 2 ^ 128 → IsIpv6Text text n
ipv6-found text octets a n h no_dots e b small = record {
  small = small;
  groups = subst (IsColonHex text) (sym (ap segments_of (b ∙ e) ∙ segments-octets a.segments)) h;
  no_dots = no_dots;
}

-- and no other number
pub ipv6-only : (text octets : List ℕ) (a : Ipv6Addr) (m n : ℕ) → StdIpv6Text text a → octets ≡ ipv6_octets a → m ≡ from_be_bytes w128 octets → IsIpv6Text text n → m ≡ n
ipv6-only text octets a m n h e f other =
    let one = IsIpv6Text_unique text a (groups_of_bits n) h other.groups in
    let bytes : octets ≡ to_be_bytes w128 n = e ∙ ap ipv6_octets one ∙ octets-segments (to_be_bytes w128 n) refl (AllBytes-high_first 16 n) in
    f ∙ ap (from_be_bytes w128) bytes ∙ from_be_bytes-to_be_bytes_16 n other.small

-- a hexadecimal digit or a colon is no dot
not_dot : (c : ℕ) → IsHexOrColon c → c ≢ 46
not_dot c (inl h) = omega arith
not_dot c (inr h) = omega arith

-- what is printed of an IPv6 address is read as itself
pub IsIpv6Text-ipv6_text : (n : ℕ) → n < 2 ^ 128 → IsIpv6Text (ipv6_text (to_be_bytes w128 n)) n
IsIpv6Text-ipv6_text n small =
    let bytes = to_be_bytes w128 n in
    let groups = segments_of bytes in
    let fits = AllSegments-of bytes (AllBytes-high_first 16 n) in
    record {
      small = small;
      groups = IsColonHex-hex_groups_text groups refl fits;
      no_dots = All-weaker IsHexOrColon (λ c. c ≢ 46) not_dot (hex_groups_text groups) (All-hex_groups_text groups fits);
    }

-- what comes before the same last byte is the same
pub last_byte : (xs ys : List ℕ) (c : ℕ) → xs ++ c ∷ [] ≡ ys ++ c ∷ [] → xs ≡ ys
last_byte xs ys c e = append_cancel_right xs ys (c ∷ []) e
