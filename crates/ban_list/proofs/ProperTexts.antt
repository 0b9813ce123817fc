-- The text of a subnet is that of a proper one.
use Rattle.std.proofs.Common.{◌≡◌, ℕ, ◌≤◌, List, length, sym, ap, ◌∙◌, subst, arith, inl, inr}
use Rattle.std.specs.Int.{w128, to_be_bytes}
use Rattle.net_addr.specs.Address.{Address, length_of}
use Rattle.net_addr.specs.Text.{IsAddrText}
use Rattle.net_addr.specs.Text.IsAddrText.{dotted, bracketed, onion, i2p, cjdns, internal}
use Rattle.net_addr.specs.declared.net.Net.{Net}
use Rattle.net_addr.specs.declared.net.Net.TheVariants.{Onion, I2p, Cjdns, Internal}
use Rattle.net_addr.proofs.Digits.{IsAddress-hex}
use Rattle.ban_list.specs.Subnet.{IsProper, IsMasked, IsWhole, clear, width}
use Rattle.ban_list.specs.SubnetText.{IsLength, IsMaskedSubnet, IsWholeSubnet, IsSubnetText}
use Rattle.ban_list.specs.declared.subnet.Subnet.{Subnet}
use Rattle.ban_list.proofs.Forms.{net_of_ip, masked_of_ip, of_form, bracket_whole}
use Rattle.ban_list.proofs.Masks.{clear-again, clear-whole, masked_or_whole}

length_within : (net : Net) (tail : List ℕ) (len : ℕ) → IsLength net tail len → len ≤ width net
length_within net tail len (inl h) = omega (arith, h.1)
length_within net tail len (inr h) = h.1

proper_masked : (net : Net) (text : List ℕ) (s : Subnet) → IsMaskedSubnet net text s → IsProper s
proper_masked net text s m =
    let from : s.addr.net ≡ m.addr.net = ap (λ (a : Address). a.net) m.masked.addr in
    let same : s.addr.net ≡ net = from ∙ net_of_ip net m.ip m.addr m.ip_text in
    let masked : IsMasked s.addr.net = subst IsMasked (sym same) (masked_of_ip net m.ip m.addr m.ip_text) in
    let bytes : s.addr.bytes ≡ clear s.len m.addr.bytes = ap (λ (a : Address). a.bytes) m.masked.addr in
    record {
      network = λ e. subst IsMasked e masked;
      len = subst (λ n. s.len ≤ width n) (sym same) (length_within net m.tail s.len m.length);
      whole = λ w. absurd (masked_or_whole s.addr.net masked w);
      clear = ap (clear s.len) bytes ∙ clear-again s.len m.addr.bytes ∙ sym bytes;
    }

whole_length : (text : List ℕ) (a : Address) → IsWhole a.net → IsAddrText text a → length a.bytes ≡ length_of a.net
whole_length text a w (dotted h) = absurd (subst IsWhole (ap (λ (x : Address). x.net) h.address) w)
whole_length text a w (bracketed h) = absurd (bracket_whole (to_be_bytes w128 h.bits) (subst (λ (x : Address). IsWhole x.net) h.address w))
whole_length text a w (onion h) = (IsAddress-hex Onion h.digits a (λ e. cc) (λ e. cc) h.hex).length
whole_length text a w (i2p h) = (IsAddress-hex I2p h.digits a (λ e. cc) (λ e. cc) h.hex).length
whole_length text a w (cjdns h) = (IsAddress-hex Cjdns h.digits a (λ e. cc) (λ e. cc) h.hex).length
whole_length text a w (internal h) = (IsAddress-hex Internal h.digits a (λ e. cc) (λ e. cc) h.hex).length

proper_whole : (text : List ℕ) (s : Subnet) → IsWholeSubnet text s → IsProper s
proper_whole text s h =
    let size = whole_length text s.addr h.network h.addr_text in
    record {
      network = λ e. subst IsWhole e h.network;
      len = omega (arith, h.length);
      whole = λ _. h.length;
      clear = clear-whole s.len s.addr.bytes (omega (arith, h.length, size));
    }

pub proper_text : (text : List ℕ) (s : Subnet) → IsSubnetText text s → IsProper s
proper_text text s h = of_form text s h (proper_whole text s) (λ net. proper_masked net text s)
