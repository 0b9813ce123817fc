-- What is printed of an address parses as the address.
use Rattle.std.proofs.Common.{◌≡◌, ◌≢◌, ℕ, ◌<◌, ◌==◌, Bool, true, false, cond, List, [], ◌∷◌, ◌++◌, length, All, slice_index, refl, arith, ap, sym, ◌∙◌, subst}
use Rattle.std.specs.Int.{w32, w128, from_be_bytes}
use Rattle.std.proofs.lemmas.Bool.Decides.{Decides-eqb}
use Rattle.net_addr.specs.Address.{Address, IsAddress}
use Rattle.net_addr.specs.OldForm.{address, from_v1}
use Rattle.net_addr.specs.Text.{ipv4_text, ipv6_text, IsIpv6Text}
use Rattle.net_addr.specs.declared.net.Net.{Net}
use Rattle.net_addr.specs.declared.net.Net.TheVariants.{Unroutable, Ipv4, Ipv6, Onion, I2p, Cjdns, Internal}
use Rattle.net_addr.proofs.Bytes.{AllBytes-All, from_v1-ipv6}
use Rattle.net_addr.proofs.Texts.{bits_of_bytes, IsIpv6Text-ipv6_text}
use Rattle.net_addr.proofs.Words.{to_be_bytes-from_be_bytes_16, from_be_bytes-below_16}
use Rattle.names.specs.Name.{HasOwnName, IsColonText, IsLettered, IsName, IsSuffix, encoded, flipped, letters_of, name_by, name_text, own_by, suffix_of}
use Rattle.names.specs.Name.IsName.{dotted, colons, lettered}
use Rattle.names.proofs.Lower.{base32_lower}
use Rattle.net_addr.proofs.Printed.{neither}

dotted_name : (bytes : List ℕ) → IsAddress (address Ipv4 bytes) → IsName (ipv4_text bytes) (address Ipv4 bytes)
dotted_name bytes h =
    let known = bits_of_bytes bytes h.length h.bytes in
    dotted (record {
      bits = from_be_bytes w32 bytes;
      bits_text = (known.0, ap ipv4_text (sym known.1));
      address = ap (address Ipv4) (sym known.1);
    })

-- sixteen bytes are printed as a text of the address that they are in the old form
colon_text : (bytes : List ℕ) (a : Address) → length bytes ≡ 16 → All (λ b. b < 256) bytes → a ≡ flipped (from_v1 bytes) → IsColonText (ipv6_text bytes) a
colon_text bytes a l h e =
    let bits = from_be_bytes w128 bytes in
    let fits = AllBytes-All bytes h in
    let back = to_be_bytes-from_be_bytes_16 bytes l fits in
    record {
      bits = bits;
      bits_text = subst (λ b. IsIpv6Text (ipv6_text b) bits) back (IsIpv6Text-ipv6_text bits (from_be_bytes-below_16 bytes fits));
      address = e ∙ ap (λ b. flipped (from_v1 b)) (sym back);
    }

flip_by : (bytes : List ℕ) (b : Bool) → (slice_index bytes 0 == 0xfc) ≡ b → flipped (address Ipv6 bytes) ≡ cond b (address Cjdns bytes) (address Ipv6 bytes)
flip_by bytes b e = ap (λ t. cond t (address Cjdns bytes) (address Ipv6 bytes)) e

not_equal : (m n : ℕ) → m ≢ n → (m == n) ≡ false
not_equal m n h = elim (m == n) as (λ b. (m == n) ≡ b → b ≡ false) [ true ↦ λ e. absurd (h ((Decides-eqb m n).0 e)) | false ↦ λ e. refl ] refl

ipv6_name : (bytes : List ℕ) → IsAddress (address Ipv6 bytes) → slice_index bytes 0 ≢ 0xfc → IsName (ipv6_text bytes) (address Ipv6 bytes)
ipv6_name bytes h own =
    let form = neither _ _ _ (h.own_form refl) in
    colons (colon_text bytes (address Ipv6 bytes) h.length h.bytes
    (sym (flip_by bytes false (not_equal _ _ own)) ∙ ap flipped (from_v1-ipv6 bytes form.0 form.1 form.2)))

-- bytes that begin with fc are in the form of IPv6
fc_plain : (bytes : List ℕ) → length bytes ≡ 16 → slice_index bytes 0 ≡ 0xfc → address Ipv6 bytes ≡ from_v1 bytes
fc_plain [] l e = absurd (omega (arith, l))
fc_plain (b ∷ bytes) l e = subst (λ c. address Ipv6 (c ∷ bytes) ≡ from_v1 (c ∷ bytes)) (sym e) (from_v1-ipv6 (0xfc ∷ bytes) refl refl refl)

cjdns_name : (bytes : List ℕ) → IsAddress (address Cjdns bytes) → slice_index bytes 0 ≡ 0xfc → IsName (ipv6_text bytes) (address Cjdns bytes)
cjdns_name bytes h own =
    colons (colon_text bytes (address Cjdns bytes) h.length h.bytes
    (sym (flip_by bytes true ((Decides-eqb _ _).1 own)) ∙ ap flipped (fc_plain bytes h.length own)))

lettered_name : (net : Net) (bytes : List ℕ) → IsLettered net → IsSuffix net (suffix_of net) → IsAddress (address net bytes) → IsName (letters_of net bytes ++ suffix_of net) (address net bytes)
lettered_name net bytes l s h = lettered net l (record {
  stem = letters_of net bytes;
  end = suffix_of net;
  spelled = refl;
  suffix = s;
  stem_letters = record { network = refl; own = h; encodes = base32_lower (encoded net bytes) };
})

of_parts : (net : Net) (bytes : List ℕ) → IsAddress (address net bytes) → own_by net bytes → IsName (name_by net bytes) (address net bytes)
of_parts Unroutable bytes h own = absurd (h.network refl)
of_parts Ipv4 bytes h own = dotted_name bytes h
of_parts Ipv6 bytes h own = ipv6_name bytes h own
of_parts Cjdns bytes h own = cjdns_name bytes h own
of_parts Onion bytes h own = lettered_name Onion bytes tt refl h
of_parts I2p bytes h own = lettered_name I2p bytes tt refl h
of_parts Internal bytes h own = lettered_name Internal bytes tt refl h

pub name_reads : (a : Address) → IsAddress a → HasOwnName a → IsName (name_text a) a
name_reads a h own = of_parts a.net a.bytes h own
