-- The texts of sets of addresses need no escapes.
use Rattle.std.proofs.Common.{◌≡◌, ℕ, zero, suc, ◌+◌, ◌-◌, ◌<◌, ◌≤◌, true, List, [], ◌∷◌, ◌++◌, get_or, length, map, take, refl, ap, subst, sym, inl, inr, ◌∙◌, arith}
use Rattle.std.specs.Prelude.{All, codes, decimal}
use Rattle.std.specs.List.{AllByRecursion}
use Rattle.std.specs.Net.Addr.{segments_of}
use Rattle.std.specs.Net.Text.{hex_groups_text}
use Rattle.std.proofs.NetLemmas.Alphabet.{IsHexOrColon, All-hex_groups_text}
use Rattle.std.proofs.lemmas.List.{take_all}
use Rattle.std.proofs.lemmas.List.Elements.{All-from_recursion, All-head, All-tail, All-weaker}
use Rattle.std.proofs.lemmas.List.Sums.{list_all-from_AllPass}
use Rattle.ban_list.specs.SubnetText.{ip_by, length_by, subnet_text}
use Rattle.hex.specs.Hex.{encode_lower}
use Rattle.net_addr.proofs.Bits.{AllBytes}
use Rattle.net_addr.proofs.Words.{AllSegments-of}
use Rattle.net_addr.specs.Address.{Address, IsAddress}
use Rattle.net_addr.specs.NetBits.{each_below}
use Rattle.net_addr.specs.Text.{ipv4_text, ipv6_text, label_of}
use Rattle.net_addr.specs.declared.net.Net.{Net}
use Rattle.net_addr.specs.declared.net.Net.TheVariants.{Unroutable, Ipv4, Ipv6, Onion, I2p, Cjdns, Internal}
use Rattle.picture_laws.proofs.Facts.{plain-hex}
use Rattle.picture_laws.proofs.Plain.{plain-append, plain-cons, plain-decimal}
use Rattle.table_picture.specs.Sets.{HasAddress}
use Rattle.picture_text.specs.Markup.{IsPlain, is_plain}
use Rattle.risk_parts.specs.Sets.{set_text}
use Rattle.risk_parts.specs.declared.addr_set.AddrSet.{AddrSet}
use Rattle.risk_parts.specs.declared.addr_set.AddrSet.TheVariants.{Subnet, Number}

below : (bytes : List ℕ) → All (λ b. b < 256) bytes → AllBytes bytes
below [] each i = omega arith
below (b ∷ bs) each zero = All-head (λ b. b < 256) b bs each
below (b ∷ bs) each (suc i) = below bs (All-tail (λ b. b < 256) b bs each) i

plain-ipv4 : (bytes : List ℕ) → IsPlain (ipv4_text bytes)
plain-ipv4 [] = refl
plain-ipv4 (b ∷ []) = plain-decimal b
plain-ipv4 (b ∷ c ∷ bs) = plain-append (decimal b) (46 ∷ ipv4_text (c ∷ bs)) (plain-decimal b) (plain-cons 46 (ipv4_text (c ∷ bs)) refl (plain-ipv4 (c ∷ bs)))

same : (c low : ℕ) → low ≤ c → is_plain c ≡ is_plain (low + (c - low))
same c low le = let is : c ≡ low + (c - low) = omega arith in ap is_plain is

hex_or_colon : (c : ℕ) → IsHexOrColon c → is_plain c ≡ true
hex_or_colon c (inl h) = same c 48 h.0 ∙ each_below (λ d. is_plain (48 + d)) 11 refl (c - 48) (omega (arith, h))
hex_or_colon c (inr h) = same c 97 h.0 ∙ each_below (λ d. is_plain (97 + d)) 6 refl (c - 97) (omega (arith, h))

plain-ipv6 : (bytes : List ℕ) → AllBytes bytes → IsPlain (ipv6_text bytes)
plain-ipv6 bytes each =
    let text : List ℕ = hex_groups_text (segments_of bytes) in
    list_all-from_AllPass is_plain text
    (All-weaker IsHexOrColon (λ c. is_plain c ≡ true) hex_or_colon text (All-hex_groups_text (segments_of bytes) (AllSegments-of bytes each)))

plain-bytes : (bytes : List ℕ) → AllBytes bytes → IsPlain (encode_lower bytes)
plain-bytes bytes each = subst (λ (t : List ℕ). IsPlain (encode_lower t)) (take_all (length bytes) bytes (omega arith)) (plain-hex (length bytes) bytes each)

plain-length : (net : Net) (len : ℕ) → IsPlain (length_by net len)
plain-length Ipv4 len = plain-append (codes "/") (decimal len) refl (plain-decimal len)
plain-length Ipv6 len = plain-append (codes "/") (decimal len) refl (plain-decimal len)
plain-length Unroutable len = refl
plain-length Onion len = refl
plain-length I2p len = refl
plain-length Cjdns len = refl
plain-length Internal len = refl

plain-ip : (net : Net) (bytes : List ℕ) → AllBytes bytes → IsPlain (ip_by net bytes)
plain-ip Ipv4 bytes each = plain-ipv4 bytes
plain-ip Ipv6 bytes each = plain-ipv6 bytes each
plain-ip Unroutable bytes each = refl
plain-ip Onion bytes each = plain-append (label_of Onion) (encode_lower bytes) refl (plain-bytes bytes each)
plain-ip I2p bytes each = plain-append (label_of I2p) (encode_lower bytes) refl (plain-bytes bytes each)
plain-ip Cjdns bytes each = plain-append (label_of Cjdns) (encode_lower bytes) refl (plain-bytes bytes each)
plain-ip Internal bytes each = plain-append (label_of Internal) (encode_lower bytes) refl (plain-bytes bytes each)

plain-set : (set : AddrSet) → HasAddress set → IsPlain (set_text set)
plain-set (Subnet s) is =
    plain-append (ip_by s.addr.net s.addr.bytes) (length_by s.addr.net s.len) (plain-ip s.addr.net s.addr.bytes (below s.addr.bytes is.bytes)) (plain-length s.addr.net s.len)
plain-set (Number n) is = plain-append (codes "AS") (decimal n) refl (plain-decimal n)

each-text : (sets : List AddrSet) → All HasAddress sets → AllByRecursion IsPlain (map set_text sets)
each-text [] each = tt
each-text (set ∷ sets) each = (plain-set set (All-head HasAddress set sets each), each-text sets (All-tail HasAddress set sets each))

pub plain-sets : (sets : List AddrSet) → All HasAddress sets → All IsPlain (map set_text sets)
plain-sets sets each = All-from_recursion IsPlain (map set_text sets) (each-text sets each)
