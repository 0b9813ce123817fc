-- What is printed of an address is read as the address.
use Rattle.std.proofs.Common.{◌≡◌, ℕ, ◌^◌, ◌<◌, Bool, true, false, ◌||◌, List, length, All, refl, sym, ap, ◌∙◌, subst}
use Rattle.std.specs.Int.{w32, w128, from_be_bytes}
use Rattle.hex.specs.Hex.{encode_lower}
use Rattle.hex.proofs.HexLemmas.{decode_sized-encode_lower}
use Rattle.net_addr.specs.Address.{Address, IsAddress, length_of}
use Rattle.net_addr.specs.OldForm.{address, from_v1}
use Rattle.net_addr.specs.Text.{ipv4_text, ipv6_text, text_by, addr_text, IsIpv6Text, IsHexOf, IsBracketText, IsDottedText, IsAddrText, IsPeerText, peer_text}
use Rattle.net_addr.specs.Text.IsAddrText.{dotted, bracketed, onion, i2p, cjdns, internal}
use Rattle.net_addr.specs.declared.net.Net.{Net}
use Rattle.net_addr.specs.declared.net.Net.TheVariants.{Unroutable, Ipv4, Ipv6, Onion, I2p, Cjdns, Internal}
use Rattle.net_addr.specs.declared.peer.Peer.{Peer}
use Rattle.net_addr.proofs.Bytes.{AllBytes-All, from_v1-ipv6}
use Rattle.net_addr.proofs.Texts.{bits_of_bytes, IsIpv6Text-ipv6_text}
use Rattle.net_addr.proofs.Words.{to_be_bytes-from_be_bytes_16, from_be_bytes-below_16}

pub neither : (a b c : Bool) → (a || b || c) ≡ false → (a ≡ false) × (b ≡ false) × (c ≡ false)
neither false false false e = (refl, refl, refl)
neither true b c e = cc
neither false true c e = cc
neither false false true e = cc

hex_text : (net : Net) (a : Address) → IsAddress a → a.net ≡ net → IsHexOf net (encode_lower a.bytes) a
hex_text net a h e = record {
  network = e;
  bytes = decode_sized-encode_lower a.bytes (length_of net) (h.length ∙ ap length_of e) (AllBytes-All a.bytes h.bytes);
}

dotted_text : (bytes : List ℕ) → length bytes ≡ 4 → All (λ b. b < 256) bytes → IsDottedText (ipv4_text bytes) (address Ipv4 bytes)
dotted_text bytes l h =
    let known = bits_of_bytes bytes l h in
    record {
      bits = from_be_bytes w32 bytes;
      bits_text = (known.0, ap ipv4_text (sym known.1));
      address = ap (address Ipv4) (sym known.1);
    }

bracket_text : (bytes : List ℕ) → IsAddress (address Ipv6 bytes) → IsBracketText (text_by Ipv6 bytes) (address Ipv6 bytes)
bracket_text bytes h =
    let bits = from_be_bytes w128 bytes in
    let fits = AllBytes-All bytes h.bytes in
    let back = to_be_bytes-from_be_bytes_16 bytes h.length fits in
    let small = from_be_bytes-below_16 bytes fits in
    let own = neither _ _ _ (h.own_form refl) in
    record {
      inner = ipv6_text bytes;
      bits = bits;
      spelled = refl;
      bits_text = subst (λ b. IsIpv6Text (ipv6_text b) bits) back (IsIpv6Text-ipv6_text bits small);
      address = from_v1-ipv6 bytes own.0 own.1 own.2 ∙ ap from_v1 (sym back);
    }

of_parts : (n : Net) (bytes : List ℕ) → IsAddress (address n bytes) → IsAddrText (text_by n bytes) (address n bytes)
of_parts Unroutable bytes h = absurd (h.network refl)
of_parts Ipv4 bytes h = dotted (dotted_text bytes h.length h.bytes)
of_parts Ipv6 bytes h = bracketed (bracket_text bytes h)
of_parts Onion bytes h = onion (record { digits = encode_lower bytes; spelled = refl; hex = hex_text Onion (address Onion bytes) h refl })
of_parts I2p bytes h = i2p (record { digits = encode_lower bytes; spelled = refl; hex = hex_text I2p (address I2p bytes) h refl })
of_parts Cjdns bytes h = cjdns (record { digits = encode_lower bytes; spelled = refl; hex = hex_text Cjdns (address Cjdns bytes) h refl })
of_parts Internal bytes h = internal (record { digits = encode_lower bytes; spelled = refl; hex = hex_text Internal (address Internal bytes) h refl })

pub printed_address : (a : Address) → IsAddress a → IsAddrText (addr_text a) a
printed_address a h = of_parts a.net a.bytes h

pub printed_peer : (p : Peer) → IsAddress p.addr → p.port < 2 ^ 16 → IsPeerText (peer_text p) p
printed_peer p h port = record { addr = addr_text p.addr; addr_text = printed_address p.addr h; port = port; spelled = refl }
