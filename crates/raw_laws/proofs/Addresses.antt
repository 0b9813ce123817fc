-- The name of an address, beside its network, reads as the address.
use Rattle.std.proofs.Common.{◌≡◌, ◌≢◌, ℕ, Bool, true, false, cond, List, [], ◌∷◌, length, slice_index, refl, sym, ap, ◌∙◌, subst, arith, inl, inr, Some}
use Rattle.std.specs.Int.{w128, from_be_bytes, to_be_bytes}
use Rattle.net_addr.specs.Address.{Address, IsAddress, net_number}
use Rattle.net_addr.specs.OldForm.{address, from_v1}
use Rattle.net_addr.specs.Ranges.{in_range}
use Rattle.net_addr.specs.Text.{ipv6_text, IsIpv6Text}
use Rattle.net_addr.specs.declared.net.Net.{Net}
use Rattle.net_addr.specs.declared.net.Net.TheVariants.{Unroutable, Ipv4, Ipv6, Onion, I2p, Cjdns, Internal}
use Rattle.net_addr.proofs.Bytes.{AllBytes-All, from_v1-ipv6}
use Rattle.net_addr.proofs.Printed.{neither}
use Rattle.net_addr.proofs.Texts.{IsIpv6Text-ipv6_text}
use Rattle.net_addr.proofs.Words.{to_be_bytes-from_be_bytes_16, from_be_bytes-below_16}
use Rattle.names.specs.Name.{IsColonText, IsName, flipped, is_cjdns, name_by, name_text}
use Rattle.names.specs.Name.IsName.{dotted, colons, lettered}
use Rattle.names.proofs.Forms.{colons_apart, dotted_dots}
use Rattle.names.proofs.Printed.{name_reads}
use Rattle.node_json.specs.Raw.{class_name}
use Rattle.raw_read.specs.Fields.{IsPlainText, IsRawName, is_local}
use Rattle.raw_laws.specs.Printed.{HasRawName}

plain_colon : (text : List ℕ) (a : Address) → IsPlainText text a → IsColonText text (flipped a)
plain_colon text a h = record { bits = h.bits; bits_text = h.bits_text; address = ap flipped h.address }

-- an address that is flipped from another is one of CJDNS
of_colons : (text : List ℕ) (a x : Address) (b : Bool) → is_cjdns x.net x.bytes ≡ b → a ≡ cond b (address Cjdns x.bytes) x → IsPlainText text x → a.net ≢ Cjdns → IsRawName true text a
of_colons text a x true e is h other = absurd (other (ap (λ (y : Address). y.net) is))
of_colons text a x false e is h other = inl (subst (IsPlainText text) (sym is) h)

reread : (local : Bool) (text : List ℕ) (a : Address) → IsName text a → (local ≡ true → a.net ≢ Cjdns) → IsRawName local text a
reread false text a h other = h
reread true text a (dotted h) other = inr ((λ x k. dotted_dots text a (flipped x) h (plain_colon text x k)), dotted h)
reread true text a (lettered net l h) other =
    inr ((λ x k. colons_apart net text h.stem h.end (flipped x) l h.spelled h.suffix (plain_colon text x k)), lettered net l h)
reread true text a (colons h) other =
    let x = from_v1 (to_be_bytes w128 h.bits) in
    of_colons text a x (is_cjdns x.net x.bytes) refl h.address (record { bits = h.bits; bits_text = h.bits_text; address = refl }) (other refl)

-- the class of an address that begins with fc
fc6 : (rest : List ℕ) → is_local (Some (class_name (address Ipv6 (0xfc ∷ rest)))) ≡ true
unfolding in_range
fc6 rest = refl

fc_cjdns : (rest : List ℕ) → is_local (Some (class_name (address Cjdns (0xfc ∷ rest)))) ≡ false
unfolding in_range
fc_cjdns rest = refl

fc_by : (P : List ℕ → Type 0) (bytes : List ℕ) → length bytes ≡ 16 → slice_index bytes 0 ≡ 0xfc → ((rest : List ℕ) → P (0xfc ∷ rest)) → P bytes
fc_by P [] l e h = absurd (omega (arith, l))
fc_by P (b ∷ rest) l e h = subst (λ c. P (c ∷ rest)) (sym e) (h rest)

-- sixteen bytes that are no old form are printed as their own text
plain6 : (bytes : List ℕ) → IsAddress (address Ipv6 bytes) → IsPlainText (ipv6_text bytes) (address Ipv6 bytes)
plain6 bytes h =
    let bits = from_be_bytes w128 bytes in
    let fits = AllBytes-All bytes h.bytes in
    let back = to_be_bytes-from_be_bytes_16 bytes h.length fits in
    let form = neither _ _ _ (h.own_form refl) in
    record {
      bits = bits;
      bits_text = subst (λ b. IsIpv6Text (ipv6_text b) bits) back (IsIpv6Text-ipv6_text bits (from_be_bytes-below_16 bytes fits));
      address = from_v1-ipv6 bytes form.0 form.1 form.2 ∙ ap from_v1 (sym back);
    }

false_true : (b : Bool) → b ≡ true → b ≡ false → ⊥
false_true b h k = cc

of_ipv6 : (local : Bool) (bytes : List ℕ) → is_local (Some (class_name (address Ipv6 bytes))) ≡ local → IsAddress (address Ipv6 bytes) → IsRawName local (ipv6_text bytes) (address Ipv6 bytes)
of_ipv6 true bytes e h = inl (plain6 bytes h)
of_ipv6 false bytes e h =
    name_reads (address Ipv6 bytes) h
    (λ fc. false_true (is_local (Some (class_name (address Ipv6 bytes)))) (fc_by (λ b. is_local (Some (class_name (address Ipv6 b))) ≡ true) bytes h.length fc fc6) e)

of_cjdns : (local : Bool) (bytes : List ℕ) → is_local (Some (class_name (address Cjdns bytes))) ≡ local → IsAddress (address Cjdns bytes) → slice_index bytes 0 ≡ 0xfc → IsRawName local (ipv6_text bytes) (address Cjdns bytes)
of_cjdns false bytes e h fc = name_reads (address Cjdns bytes) h fc
of_cjdns true bytes e h fc =
    absurd (false_true (is_local (Some (class_name (address Cjdns bytes)))) e (fc_by (λ b. is_local (Some (class_name (address Cjdns b))) ≡ false) bytes h.length fc fc_cjdns))

abbrev local_of : Net → List ℕ → Bool
local_of net bytes = is_local (Some (class_name (address net bytes)))

of_net : (net : Net) (bytes : List ℕ) → HasRawName (address net bytes) → IsRawName (local_of net bytes) (name_by net bytes) (address net bytes)
of_net Unroutable bytes h = absurd (h.address.network refl)
of_net Ipv4 bytes h = reread (local_of Ipv4 bytes) _ _ (name_reads (address Ipv4 bytes) h.address tt) (λ _ e. omega (arith, ap net_number e))
of_net Ipv6 bytes h = of_ipv6 (local_of Ipv6 bytes) bytes refl h.address
of_net Onion bytes h = reread (local_of Onion bytes) _ _ (name_reads (address Onion bytes) h.address tt) (λ _ e. omega (arith, ap net_number e))
of_net I2p bytes h = reread (local_of I2p bytes) _ _ (name_reads (address I2p bytes) h.address tt) (λ _ e. omega (arith, ap net_number e))
of_net Cjdns bytes h = of_cjdns (local_of Cjdns bytes) bytes refl h.address h.own
of_net Internal bytes h = reread (local_of Internal bytes) _ _ (name_reads (address Internal bytes) h.address tt) (λ _ e. omega (arith, ap net_number e))

pub name_rereads : (a : Address) → HasRawName a → IsRawName (is_local (Some (class_name a))) (name_text a) a
name_rereads a h = of_net a.net a.bytes h
