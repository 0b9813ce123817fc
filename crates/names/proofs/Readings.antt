-- What people write for an address has one meaning.
use Rattle.std.proofs.Common.{◌≡◌, ◌≢◌, ℕ, List, ◌∷◌, ◌++◌, [], All, codes, decimal, get_or, length, ◌+◌, map, refl, replicate, take, ◌-◌, sym, ap, ◌∙◌, subst, arith, inl, inr, append_assoc}
use Rattle.std.specs.Prelude.{Option, Some, None, IfSome}
use Rattle.std.specs.Char.{to_ascii_lowercase}
use Rattle.std.specs.Int.{w128, to_be_bytes}
use Rattle.std.proofs.Math.Seq.{take-append_seam}
use Rattle.std.proofs.lemmas.List.{get_or-append-add, length-append, length-replicate}
use Rattle.std.proofs.lemmas.Option.{none-some}
use Rattle.net_addr.specs.Address.{Address}
use Rattle.net_addr.specs.OldForm.{from_v1}
use Rattle.net_addr.specs.Text.{IsAddrText}
use Rattle.net_addr.specs.Text.IsAddrText.{dotted as dotted_addr, bracketed}
use Rattle.net_addr.specs.declared.net.Net.{Net}
use Rattle.net_addr.proofs.Numbers.{decimal-no_colon}
use Rattle.net_addr.proofs.OneReading.{one_address}
use Rattle.net_addr.proofs.Texts.{last_colon-unique}
use Rattle.names.specs.Name.{HasLetters, IsColonText, IsLettered, IsName, flipped}
use Rattle.names.specs.Name.IsName.{dotted, colons, lettered}
use Rattle.names.specs.Text.{IsHost, IsHostOfPort, IsTextOf, IsWithPort, OrElse}
use Rattle.names.proofs.Forms.{colons_apart, dotted_apart, dotted_dots, letters_only}
use Rattle.names.proofs.Letters.{few_letters, letters_address}

-- ---- one reading, or else another

pub first_only : (P Q : Address → Type 0) (a : Address) → P a → ((b : Address) → P b → Some a ≡ Some b) → (b : Address) → OrElse P Q b → Some a ≡ Some b
first_only P Q a found only b (inl h) = only b h
first_only P Q a found only b (inr h) = absurd (h.0 a found)

pub none_of : (P : Address → Type 0) (o : Option Address) → o ≡ None → ((b : Address) → P b → o ≡ Some b) → (b : Address) → ¬ P b
none_of P o is only b h = none-some b (sym is ∙ only b h)

pub second_found : (P Q : Address → Type 0) (r : Option Address) → ((b : Address) → ¬ P b) → IfSome r Q → IfSome r (OrElse P Q)
second_found P Q None none found = tt
second_found P Q (Some a) none found = inr (none, found)

pub second_only : (P Q : Address → Type 0) (r : Option Address) → ((b : Address) → ¬ P b) → ((b : Address) → Q b → r ≡ Some b) → (b : Address) → OrElse P Q b → r ≡ Some b
second_only P Q r none only b (inl h) = absurd (none b h)
second_only P Q r none only b (inr h) = only b h.1

pub both_found : (C : Type 0) (P : Address → Type 0) (r : Option Address) → C → IfSome r P → IfSome r (λ a. C × P a)
both_found C P None c found = tt
both_found C P (Some a) c found = (c, found)

-- one address at most
abbrev pub IsUnique : (Address → Type 0) → Type 0
IsUnique P = (a b : Address) → P a → P b → a ≡ b

one_of : (P Q : Address → Type 0) → IsUnique P → IsUnique Q → IsUnique (OrElse P Q)
one_of P Q p q a b (inl h) (inl k) = p a b h k
one_of P Q p q a b (inl h) (inr k) = absurd (k.0 a h)
one_of P Q p q a b (inr h) (inl k) = absurd (h.0 b k)
one_of P Q p q a b (inr h) (inr k) = q a b h.1 k.1

-- ---- names

one_colons : (text : List ℕ) (a b : Address) → IsColonText text a → IsColonText text b → a ≡ b
one_colons text a b h k =
    let first = from_v1 (to_be_bytes w128 h.bits) in
    let second = from_v1 (to_be_bytes w128 k.bits) in
    let same = one_address (codes "[" ++ text ++ codes "]") first second
    (bracketed (record { inner = text; bits = h.bits; spelled = refl; bits_text = h.bits_text; address = refl }))
    (bracketed (record { inner = text; bits = k.bits; spelled = refl; bits_text = k.bits_text; address = refl })) in
    h.address ∙ ap flipped same ∙ sym k.address

one_letters : (net : Net) (L : List ℕ) (a b : Address) → IsLettered net → HasLetters net L a → HasLetters net L b → a ≡ b
one_letters net L a b l h k =
    let zeros : List ℕ = replicate (64 - length L) 0 in
    let few = few_letters net a L l h in
    let whole : length (L ++ zeros) ≡ 64 = omega (arith, length-append L zeros, length-replicate {A = ℕ} (64 - length L) 0, few) in
    let seam : take (length L) (L ++ zeros) ≡ L = take-append_seam L zeros in
    sym (letters_address net a L (L ++ zeros) _ (length L) l h seam few whole refl)
    ∙ letters_address net b L (L ++ zeros) _ (length L) l k seam few whole refl

one_name : (text : List ℕ) → IsUnique (IsName text)
one_name text a b (dotted h) (dotted k) = one_address text a b (dotted_addr h) (dotted_addr k)
one_name text a b (dotted h) (colons k) = absurd (dotted_dots text a b h k)
one_name text a b (dotted h) (lettered net l k) = absurd (dotted_apart net text k.stem k.end a l k.spelled k.suffix h)
one_name text a b (colons h) (dotted k) = absurd (dotted_dots text b a k h)
one_name text a b (colons h) (colons k) = one_colons text a b h k
one_name text a b (colons h) (lettered net l k) = absurd (colons_apart net text k.stem k.end a l k.spelled k.suffix h)
one_name text a b (lettered net l h) k =
    one_letters net (map to_ascii_lowercase h.stem) a b l h.stem_letters (letters_only net text h.stem h.end b l h.spelled h.suffix k)

-- ---- texts

one_host : (text : List ℕ) → IsUnique (IsHost text)
one_host text = one_of (IsAddrText text) (IsName text) (one_address text) (one_name text)

one_host_of_port : (text : List ℕ) → IsUnique (IsHostOfPort text)
one_host_of_port text =
    one_of (IsAddrText text) (λ a. All (λ c. c ≢ 58) text × IsName text a) (one_address text) (λ a b h k. one_name text a b h.1 k.1)

pub colon_in : (text before after : List ℕ) → text ≡ before ++ 58 ∷ after → All (λ c. c ≢ 58) text → ⊥
colon_in text before after e none =
    none (length before + 0) 0 (omega (arith, ap length e, length-append before (58 ∷ after)))
    (ap (λ t. get_or t (length before + 0) 0) e ∙ get_or-append-add before (58 ∷ after) 0 0)

-- the parts round the last colon are the address and the port
pub port_parts : (text before after : List ℕ) (a : Address) → text ≡ before ++ 58 ∷ after → All (λ c. c ≢ 58) after → (h : IsWithPort text a) → IsHostOfPort before a × (after ≡ decimal h.port)
port_parts text before after a cut last h =
    let whole = sym cut ∙ h.spelled ∙ append_assoc h.host (58 ∷ []) (decimal h.port) in
    let parts = last_colon-unique before h.host after (decimal h.port) whole last (decimal-no_colon h.port (omega (arith, h.small))) in
    (subst (λ t. IsHostOfPort t a) (sym parts.0) h.host_text, parts.1)

one_with_port : (text : List ℕ) → IsUnique (IsWithPort text)
one_with_port text a b h k =
    let cut = h.spelled ∙ append_assoc h.host (58 ∷ []) (decimal h.port) in
    let parts = port_parts text h.host (decimal h.port) b cut (decimal-no_colon h.port (omega (arith, h.small))) k in
    one_host_of_port h.host a b h.host_text parts.0

-- a text stands for one address at most
pub one_text : (text : List ℕ) → IsUnique (IsTextOf text)
one_text text = one_of (IsHost text) (IsWithPort text) (one_host text) (one_with_port text)
