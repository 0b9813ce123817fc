-- A value says one thing of a record at most.
use Rattle.std.proofs.Common.{◌≡◌, ℕ, ◌-◌, ◌<◌, ◌^◌, Bool, true, false, List, ◌++◌, codes, decimal, length, map, refl, replicate, take, sym, ap, ◌∙◌, subst, arith, inl, inr, Option, Some}
use Rattle.std.specs.Prelude.{unwrap_or}
use Rattle.std.specs.Char.{to_ascii_lowercase}
use Rattle.std.specs.Int.{w128, to_be_bytes}
use Rattle.std.proofs.Math.Seq.{take-append_seam}
use Rattle.std.proofs.lemmas.Fmt.{decimal_injective}
use Rattle.std.proofs.lemmas.List.{length-append, length-replicate}
use Rattle.json.specs.Json.{Json}
use Rattle.net_addr.specs.Address.{Address}
use Rattle.net_addr.specs.OldForm.{from_v1}
use Rattle.net_addr.specs.Text.{IsIpv6Text}
use Rattle.net_addr.specs.Text.IsAddrText.{dotted as dotted_addr, bracketed}
use Rattle.net_addr.specs.declared.net.Net.{Net}
use Rattle.net_addr.proofs.OneReading.{one_address}
use Rattle.names.specs.Name.{HasLetters, IsLettered, IsName, flipped}
use Rattle.names.specs.Name.IsName.{dotted, colons, lettered}
use Rattle.names.specs.Text.{OrElse}
use Rattle.names.proofs.Forms.{colons_apart, dotted_apart, dotted_dots, letters_only}
use Rattle.names.proofs.Letters.{few_letters, letters_address}
use Rattle.names.proofs.Readings.{IsUnique}
use Rattle.peer_rec.specs.declared.file_rec.FileRec.{FileRec}
use Rattle.raw_read.specs.Fields.{IsAddressAt, IsNumberAt, IsPlainText, IsRawName, IsRec, HasField, is_local, text_at}
use Rattle.raw_read.specs.declared.raw.Field.{Field}
use Rattle.raw_read.specs.declared.raw.Field.TheVariants.{Address as an_address, Port, Services, Time, Source}

pub same_some : {A : Type 0} (x y : A) → Some x ≡ Some y → x ≡ y
same_some {A} x y e = ap (λ (o : Option A). unwrap_or o x) e

-- an IPv6 text has one value
one_bits : (text : List ℕ) (m n : ℕ) → IsIpv6Text text m → IsIpv6Text text n → from_v1 (to_be_bytes w128 m) ≡ from_v1 (to_be_bytes w128 n)
one_bits text m n h k =
    one_address (codes "[" ++ text ++ codes "]") _ _
    (bracketed (record { inner = text; bits = m; spelled = refl; bits_text = h; address = refl }))
    (bracketed (record { inner = text; bits = n; spelled = refl; bits_text = k; address = refl }))

one_plain : (text : List ℕ) → IsUnique (IsPlainText text)
one_plain text a b h k = h.address ∙ one_bits text h.bits k.bits h.bits_text k.bits_text ∙ sym k.address

one_letters : (net : Net) (L : List ℕ) (a b : Address) → IsLettered net → HasLetters net L a → HasLetters net L b → a ≡ b
one_letters net L a b l h k =
    let zeros : List ℕ = replicate (64 - length L) 0 in
    let few = few_letters net a L l h in
    let whole : length (L ++ zeros) ≡ 64 = omega (arith, length-append L zeros, length-replicate {A = ℕ} (64 - length L) 0, few) in
    let seam : take (length L) (L ++ zeros) ≡ L = take-append_seam L zeros in
    sym (letters_address net a L (L ++ zeros) _ (length L) l h seam few whole refl)
    ∙ letters_address net b L (L ++ zeros) _ (length L) l k seam few whole refl

one_name : (text : List ℕ) → IsUnique (IsName text)
one_name text a b (dotted h) (dotted k) = one_address text a b (dotted_addr h) (dotted_addr k)
one_name text a b (dotted h) (colons k) = absurd (dotted_dots text a b h k)
one_name text a b (dotted h) (lettered net l k) = absurd (dotted_apart net text k.stem k.end a l k.spelled k.suffix h)
one_name text a b (colons h) (dotted k) = absurd (dotted_dots text b a k h)
one_name text a b (colons h) (colons k) = h.address ∙ ap flipped (one_bits text h.bits k.bits h.bits_text k.bits_text) ∙ sym k.address
one_name text a b (colons h) (lettered net l k) = absurd (colons_apart net text k.stem k.end a l k.spelled k.suffix h)
one_name text a b (lettered net l h) k =
    one_letters net (map to_ascii_lowercase h.stem) a b l h.stem_letters (letters_only net text h.stem h.end b l h.spelled h.suffix k)

one_of : (P Q : Address → Type 0) → IsUnique P → IsUnique Q → IsUnique (OrElse P Q)
one_of P Q p q a b (inl h) (inl k) = p a b h k
one_of P Q p q a b (inl h) (inr k) = absurd (k.0 a h)
one_of P Q p q a b (inr h) (inl k) = absurd (h.0 b k)
one_of P Q p q a b (inr h) (inr k) = q a b h.1 k.1

pub one_raw_name : (local : Bool) (text : List ℕ) → IsUnique (IsRawName local text)
one_raw_name false text = one_name text
one_raw_name true text = one_of (IsPlainText text) (IsName text) (one_plain text) (one_name text)

one_number : (name : List ℕ) (max m n : ℕ) (j : Json) → max < 2 ^ 64 → IsNumberAt name max j m → IsNumberAt name max j n → m ≡ n
one_number name max m n j few h k =
    decimal_injective m n (omega (arith, few, h.below)) (omega (arith, few, k.below)) (same_some (decimal m) (decimal n) (sym h.digits ∙ k.digits))

one_address_at : (name network : List ℕ) (j : Json) → IsUnique (IsAddressAt name network j)
one_address_at name network j a b h k =
    let text = same_some h.text k.text (sym h.found ∙ k.found) in
    one_raw_name (is_local (text_at network j)) k.text a b (subst (λ t. IsRawName (is_local (text_at network j)) t a) text h.named) k.named

pub one_rec : (j : Json) (r s : FileRec) → IsRec j r → IsRec j s → r ≡ s
one_rec j r s h k =
    let addr = one_address_at _ _ j _ _ h.address k.address in
    let port = one_number _ _ _ _ j (omega arith) h.port k.port in
    let services = one_number _ _ _ _ j (omega arith) h.services k.services in
    let time = one_number _ _ _ _ j (omega arith) h.time k.time in
    let source = one_address_at _ _ j _ _ h.source k.source in
    let success = h.last_success ∙ sym k.last_success in
    let attempts = h.attempts ∙ sym k.attempts in
    λ i. record {
      peer = record { addr = addr i; port = port i };
      source = source i;
      time = time i;
      services = services i;
      last_success = success i;
      attempts = attempts i;
    }

pub has_fields : (j : Json) (r : FileRec) (field : Field) → IsRec j r → HasField j field
has_fields j r an_address h = (r.peer.addr, h.address)
has_fields j r Port h = (r.peer.port, h.port)
has_fields j r Services h = (r.services, h.services)
has_fields j r Time h = (r.time, h.time)
has_fields j r Source h = (r.source, h.source)
