use Rattle.std.proofs.Common.{◌≡◌, ◌++◌, ℕ, List, Some, codes, ap, sym, ◌∙◌, subst, refl}
use Rattle.std.specs.Int.{w32, w128, to_be_bytes}
use Rattle.net_addr.specs.Address.{Address}
use Rattle.net_addr.specs.OldForm.{address, from_v1}
use Rattle.net_addr.specs.Text.{IsDottedText, IsBracketText, IsIpv4Text, IsIpv6Text}
use Rattle.net_addr.specs.declared.net.Net.TheVariants.{Ipv4, Ipv6}
use Rattle.ban_list.specs.SubnetText.{IsIpText}
use Rattle.ban_list.proofs.Forms.{one_ip, inner_text, same_some, by_ip}
use Rattle.ban_list.proofs.subnet_text.parse_ip.Goals as goal

-- what was read as IPv4
as_ipv4 : (text : List ℕ) (bits : ℕ) (a : Address) → IsIpv4Text text bits → a ≡ address Ipv4 (to_be_bytes w32 bits) → IsDottedText text a
as_ipv4 text bits a h e = record { bits = bits; bits_text = h; address = e }

-- what was read as IPv6
as_ipv6 : (text : List ℕ) (bits : ℕ) (a : Address) → IsIpv6Text text bits → a ≡ from_v1 (to_be_bytes w128 bits) → IsBracketText (codes "[" ++ text ++ codes "]") a
as_ipv6 text bits a h e = record { inner = text; bits = bits; spelled = refl; bits_text = h; address = e }

pub returns-in-Some-clause-only : goal.returns-in-Some-clause-only
returns-in-Some-clause-only c = λ net a h.
    let found = as_ipv4 c.args.text.now c.in-Some.bits c.ipv4.result c.in-Some.ensures.found (c.ipv4.ensures.value ∙ ap (address Ipv4) c.to_be_bytes.ensures) in
    ap Some (one_ip Ipv4 net c.args.text.now c.ipv4.result a found h)

pub returns-in_err-bits-clause-only : goal.returns-in_err-bits-clause-only
returns-in_err-bits-clause-only c = λ net a h.
    by_ip net c.args.text.now a h
    (λ four. let e = c.in_default.ensures.only four.bits four.bits_text in cc)
    (λ six _. let e = c.in_err-bits.ensures.only six.bits (inner_text c.args.text.now a six) in cc)

pub returns-then-is_ipv6-clause-found : goal.returns-then-is_ipv6-clause-found
returns-then-is_ipv6-clause-found c =
    let a = c.from_v1-addr.result in
    let net : a.net ≡ Ipv6 = sym c.net.ensures ∙ c.is_ipv6.ensures.yes c.if-is_ipv6.true in
    let six = as_ipv6 c.args.text.now c.in_ok-bits.bits a c.in_ok-bits.ensures.found (c.from_v1-addr.ensures.value ∙ ap from_v1 c.to_be_bytes-2.ensures) in
    subst (λ n. IsIpText n c.args.text.now a) (sym net) (six, net)

pub returns-then-is_ipv6-clause-only : goal.returns-then-is_ipv6-clause-only
returns-then-is_ipv6-clause-only c = λ n b h.
    let a = c.from_v1-addr.result in
    let net : a.net ≡ Ipv6 = sym c.net.ensures ∙ c.is_ipv6.ensures.yes c.if-is_ipv6.true in
    let six = as_ipv6 c.args.text.now c.in_ok-bits.bits a c.in_ok-bits.ensures.found (c.from_v1-addr.ensures.value ∙ ap from_v1 c.to_be_bytes-2.ensures) in
    ap Some (one_ip Ipv6 n c.args.text.now a b (six, net) h)

pub returns-else-is_ipv6-clause-only : goal.returns-else-is_ipv6-clause-only
returns-else-is_ipv6-clause-only c = λ n b h.
    by_ip n c.args.text.now b h
    (λ four. let e = c.in_default.ensures.only four.bits four.bits_text in cc)
    (λ six net.
    let bits : c.in_ok-bits.bits ≡ six.bits = same_some _ _ (c.in_ok-bits.ensures.only six.bits (inner_text c.args.text.now b six)) in
    let a : c.from_v1-addr.result ≡ b = c.from_v1-addr.ensures.value ∙ ap from_v1 (c.to_be_bytes-2.ensures ∙ ap (to_be_bytes w128) bits) ∙ sym six.address in
    absurd (c.is_ipv6.ensures.no c.if-is_ipv6.false (c.net.ensures ∙ ap (λ (x : Address). x.net) a ∙ net)))
