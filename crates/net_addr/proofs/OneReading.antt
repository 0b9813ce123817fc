-- The text of an address or a peer has one reading.
use Rattle.std.proofs.Common.{◌≡◌, ℕ, List, [], ◌∷◌, drop, decimal, Result, Ok, refl, sym, ap, ◌∙◌, subst, arith, append_assoc}
use Rattle.std.specs.Int.{w128, to_be_bytes}
use Rattle.std.proofs.lemmas.Fmt.{decimal_injective}
use Rattle.std.proofs.NetLemmas.Theorems.{IsIpv4Text_unique, IsIpv6Text_unique}
use Rattle.net_addr.specs.Address.{Address, length_of}
use Rattle.net_addr.specs.OldForm.{address, from_v1}
use Rattle.net_addr.specs.Inside.{HasLabel}
use Rattle.net_addr.specs.Text.{IsHexText, IsBracketText, IsDottedText, IsAddrText, IsPeerText}
use Rattle.net_addr.specs.Text.IsAddrText.{dotted, bracketed, onion, i2p, cjdns, internal}
use Rattle.net_addr.specs.declared.net.Net.{Net}
use Rattle.net_addr.specs.declared.net.Net.TheVariants.{Ipv4, Onion, I2p, Cjdns, Internal}
use Rattle.net_addr.specs.declared.peer.Peer.{Peer}
use Rattle.net_addr.proofs.Forms.{bracket_first, bracket_only, digits_only}
use Rattle.net_addr.proofs.Numbers.{decimal-no_colon}
use Rattle.net_addr.proofs.Texts.{octets_of_bits, groups_of_bits, spelled-by_bits, last_byte, peer_parts}
use Rattle.net_addr.proofs.Words.{AllBytes-high_first, octets-segments}
use Rattle.std.specs.Net.Addr.{octets_of, segments_of}
use Rattle.std.specs.Net.Grammar.{IsColonHex}
use Rattle.hex.specs.Hex.{decode_sized}

one_dotted : (text : List ℕ) (a b : Address) → IsDottedText text a → IsDottedText text b → a ≡ b
one_dotted text a b h k =
    let one = IsIpv4Text_unique text (octets_of_bits h.bits) (octets_of_bits k.bits) (spelled-by_bits text h.bits h.bits_text) (spelled-by_bits text k.bits k.bits_text) in
    h.address ∙ ap (λ o. address Ipv4 o.octets) one ∙ sym k.address

one_bracketed : (text : List ℕ) (a b : Address) → IsBracketText text a → IsBracketText text b → a ≡ b
one_bracketed text a b h k =
    let inner = last_byte h.inner k.inner 93 (ap (drop 1) (sym h.spelled ∙ k.spelled)) in
    let groups = subst (λ t. IsColonHex t (segments_of (to_be_bytes w128 h.bits))) inner h.bits_text.groups in
    let one = IsIpv6Text_unique k.inner (groups_of_bits h.bits) (groups_of_bits k.bits) groups k.bits_text.groups in
    let bytes = sym (octets-segments (to_be_bytes w128 h.bits) refl (AllBytes-high_first 16 h.bits))
    ∙ ap (λ g. octets_of g.segments) one
    ∙ octets-segments (to_be_bytes w128 k.bits) refl (AllBytes-high_first 16 k.bits) in
    h.address ∙ ap from_v1 bytes ∙ sym k.address

pub same_ok : {A E : Type 0} (r : Result A E) (x y : A) → r ≡ Ok x → r ≡ Ok y → x ≡ y
same_ok r x y e f = cc

one_labelled : (net : Net) (text : List ℕ) (a b : Address) → HasLabel net → IsHexText net text a → IsAddrText text b → a ≡ b
one_labelled net text a b l h k =
    let other = digits_only net text h.digits b l h.spelled k in
    let bytes = same_ok (decode_sized h.digits (length_of net)) a.bytes b.bytes h.hex.bytes other.bytes in
    λ i. record { net = (h.hex.network ∙ sym other.network) i; bytes = bytes i }

one_with_bracket : (text : List ℕ) (a b : Address) → IsBracketText text a → IsAddrText text b → a ≡ b
one_with_bracket text a b h k = one_bracketed text a b h (bracket_only text b (bracket_first text a h) k)

-- a text is read as one address at most
pub one_address : (text : List ℕ) (a b : Address) → IsAddrText text a → IsAddrText text b → a ≡ b
one_address text a b (bracketed h) k = one_with_bracket text a b h k
one_address text a b (onion h) k = one_labelled Onion text a b tt h k
one_address text a b (i2p h) k = one_labelled I2p text a b tt h k
one_address text a b (cjdns h) k = one_labelled Cjdns text a b tt h k
one_address text a b (internal h) k = one_labelled Internal text a b tt h k
one_address text a b (dotted h) (dotted k) = one_dotted text a b h k
one_address text a b (dotted h) (bracketed k) = sym (one_with_bracket text b a k (dotted h))
one_address text a b (dotted h) (onion k) = sym (one_labelled Onion text b a tt k (dotted h))
one_address text a b (dotted h) (i2p k) = sym (one_labelled I2p text b a tt k (dotted h))
one_address text a b (dotted h) (cjdns k) = sym (one_labelled Cjdns text b a tt k (dotted h))
one_address text a b (dotted h) (internal k) = sym (one_labelled Internal text b a tt k (dotted h))

-- a text is read as one peer at most
pub one_peer : (text : List ℕ) (p q : Peer) → IsPeerText text p → IsPeerText text q → p ≡ q
one_peer text p q h k =
    let cut = h.spelled ∙ append_assoc h.addr (58 ∷ []) (decimal p.port) in
    let parts = peer_parts text h.addr (decimal p.port) q cut (decimal-no_colon p.port (omega (arith, h.port))) k in
    let addr = one_address h.addr p.addr q.addr h.addr_text parts.0 in
    let port = decimal_injective p.port q.port (omega (arith, h.port)) (omega (arith, k.port)) parts.1 in
    λ i. record { addr = addr i; port = port i }
