-- The first bytes of a text determine which form of address it is.
use Rattle.std.proofs.Common.{◌≡◌, ◌≢◌, ℕ, ◌/◌, ◌%◌, ◌<◌, ◌≤◌, List, [], ◌∷◌, ◌++◌, get_or, Option, None, Some, decimal, sym, ap, ◌∙◌, subst, arith}
use Rattle.std.specs.Prelude.{IfSome}
use Rattle.std.specs.List.{join_with_byte}
use Rattle.std.proofs.lemmas.Fmt.{decimal_is_IsNumeral}
use Rattle.std.proofs.lemmas.Str.Parse.{digit_at}
use Rattle.std.proofs.lemmas.List.{get_or_append_left, append_cancel_left}
use Rattle.net_addr.specs.Address.{Address}
use Rattle.net_addr.specs.Inside.{HasLabel}
use Rattle.net_addr.specs.Text.{label_of, IsHexOf, IsHexText, IsBracketText, IsDottedText, IsAddrText}
use Rattle.net_addr.specs.Text.IsAddrText.{dotted, bracketed, onion, i2p, cjdns, internal}
use Rattle.net_addr.specs.declared.net.Net.{Net}
use Rattle.net_addr.specs.declared.net.Net.TheVariants.{Unroutable, Ipv4, Ipv6, Onion, I2p, Cjdns, Internal}

-- a property of a value, weakened
pub if_some : {A : Type 0} (P Q : A → Type 0) → ((x : A) → P x → Q x) → (o : Option A) → IfSome o P → IfSome o Q
if_some P Q f None h = tt
if_some P Q f (Some x) h = f x h

first_digit : (n : ℕ) (rest : List ℕ) → n < 256 → (48 ≤ get_or (decimal n ++ rest) 0 0) × (get_or (decimal n ++ rest) 0 0 ≤ 57)
first_digit n rest h =
    let digits = decimal_is_IsNumeral n (omega arith) in
    let digit = digit_at (decimal n) 0 digits.0.1 digits.0.0 in
    let same = get_or_append_left (decimal n) rest 0 0 digits.0.0 in
    (omega (arith, same, digit), omega (arith, same, digit))

dotted_first : (text : List ℕ) (a : Address) → IsDottedText text a → (48 ≤ get_or text 0 0) × (get_or text 0 0 ≤ 57)
dotted_first text a h =
    let n = h.bits in
    let first = first_digit (n / 16777216 % 256) (46 ∷ join_with_byte 46 (decimal (n / 65536 % 256) ∷ decimal (n / 256 % 256) ∷ decimal (n % 256) ∷ [])) (omega arith) in
    subst (λ x. (48 ≤ x) × (x ≤ 57)) (sym (ap (λ t. get_or t 0 0) h.bits_text.1)) first

pub bracket_first : (text : List ℕ) (a : Address) → IsBracketText text a → get_or text 0 0 ≡ 91
bracket_first text a h = ap (λ t. get_or t 0 0) h.spelled

onion_first : (text : List ℕ) (a : Address) → IsHexText Onion text a → get_or text 0 0 ≡ 111
onion_first text a h = ap (λ t. get_or t 0 0) h.spelled

i2p_first : (text : List ℕ) (a : Address) → IsHexText I2p text a → (get_or text 0 0 ≡ 105) × (get_or text 1 0 ≡ 50)
i2p_first text a h = (ap (λ t. get_or t 0 0) h.spelled, ap (λ t. get_or t 1 0) h.spelled)

cjdns_first : (text : List ℕ) (a : Address) → IsHexText Cjdns text a → get_or text 0 0 ≡ 99
cjdns_first text a h = ap (λ t. get_or t 0 0) h.spelled

internal_first : (text : List ℕ) (a : Address) → IsHexText Internal text a → (get_or text 0 0 ≡ 105) × (get_or text 1 0 ≡ 110)
internal_first text a h = (ap (λ t. get_or t 0 0) h.spelled, ap (λ t. get_or t 1 0) h.spelled)

pub bracket_only : (text : List ℕ) (a : Address) → get_or text 0 0 ≡ 91 → IsAddrText text a → IsBracketText text a
bracket_only text a e (dotted h) = absurd (omega (arith, e, dotted_first text a h))
bracket_only text a e (bracketed h) = h
bracket_only text a e (onion h) = absurd (omega (arith, e, onion_first text a h))
bracket_only text a e (i2p h) = absurd (omega (arith, e, i2p_first text a h))
bracket_only text a e (cjdns h) = absurd (omega (arith, e, cjdns_first text a h))
bracket_only text a e (internal h) = absurd (omega (arith, e, internal_first text a h))

onion_only : (text : List ℕ) (a : Address) → get_or text 0 0 ≡ 111 → IsAddrText text a → IsHexText Onion text a
onion_only text a e (dotted h) = absurd (omega (arith, e, dotted_first text a h))
onion_only text a e (bracketed h) = absurd (omega (arith, e, bracket_first text a h))
onion_only text a e (onion h) = h
onion_only text a e (i2p h) = absurd (omega (arith, e, i2p_first text a h))
onion_only text a e (cjdns h) = absurd (omega (arith, e, cjdns_first text a h))
onion_only text a e (internal h) = absurd (omega (arith, e, internal_first text a h))

i2p_only : (text : List ℕ) (a : Address) → get_or text 0 0 ≡ 105 → get_or text 1 0 ≡ 50 → IsAddrText text a → IsHexText I2p text a
i2p_only text a e f (dotted h) = absurd (omega (arith, e, dotted_first text a h))
i2p_only text a e f (bracketed h) = absurd (omega (arith, e, bracket_first text a h))
i2p_only text a e f (onion h) = absurd (omega (arith, e, onion_first text a h))
i2p_only text a e f (i2p h) = h
i2p_only text a e f (cjdns h) = absurd (omega (arith, e, cjdns_first text a h))
i2p_only text a e f (internal h) = absurd (omega (arith, f, internal_first text a h))

cjdns_only : (text : List ℕ) (a : Address) → get_or text 0 0 ≡ 99 → IsAddrText text a → IsHexText Cjdns text a
cjdns_only text a e (dotted h) = absurd (omega (arith, e, dotted_first text a h))
cjdns_only text a e (bracketed h) = absurd (omega (arith, e, bracket_first text a h))
cjdns_only text a e (onion h) = absurd (omega (arith, e, onion_first text a h))
cjdns_only text a e (i2p h) = absurd (omega (arith, e, i2p_first text a h))
cjdns_only text a e (cjdns h) = h
cjdns_only text a e (internal h) = absurd (omega (arith, e, internal_first text a h))

internal_only : (text : List ℕ) (a : Address) → get_or text 0 0 ≡ 105 → get_or text 1 0 ≡ 110 → IsAddrText text a → IsHexText Internal text a
internal_only text a e f (dotted h) = absurd (omega (arith, e, dotted_first text a h))
internal_only text a e f (bracketed h) = absurd (omega (arith, e, bracket_first text a h))
internal_only text a e f (onion h) = absurd (omega (arith, e, onion_first text a h))
internal_only text a e f (i2p h) = absurd (omega (arith, f, i2p_first text a h))
internal_only text a e f (cjdns h) = absurd (omega (arith, e, cjdns_first text a h))
internal_only text a e f (internal h) = h

-- a text that begins with no bracket and no label
pub record NoPrefix (text : List ℕ) : Type 0 where
  pub bracket : (rest : List ℕ) → text ≢ 91 ∷ rest
  pub label : (net : Net) (rest : List ℕ) → HasLabel net → text ≢ label_of net ++ rest

pub dotted_only : (text : List ℕ) (a : Address) → NoPrefix text → IsAddrText text a → IsDottedText text a
dotted_only text a none (dotted h) = h
dotted_only text a none (bracketed h) = absurd (none.bracket _ h.spelled)
dotted_only text a none (onion h) = absurd (none.label Onion _ tt h.spelled)
dotted_only text a none (i2p h) = absurd (none.label I2p _ tt h.spelled)
dotted_only text a none (cjdns h) = absurd (none.label Cjdns _ tt h.spelled)
dotted_only text a none (internal h) = absurd (none.label Internal _ tt h.spelled)

-- a text of four numbers is only that of an IPv4 address
pub dotted_alone : (text : List ℕ) (a b : Address) → IsDottedText text b → IsAddrText text a → IsDottedText text a
dotted_alone text a b four (dotted h) = h
dotted_alone text a b four (bracketed h) = absurd (omega (arith, dotted_first text b four, bracket_first text a h))
dotted_alone text a b four (onion h) = absurd (omega (arith, dotted_first text b four, onion_first text a h))
dotted_alone text a b four (i2p h) = absurd (omega (arith, dotted_first text b four, i2p_first text a h))
dotted_alone text a b four (cjdns h) = absurd (omega (arith, dotted_first text b four, cjdns_first text a h))
dotted_alone text a b four (internal h) = absurd (omega (arith, dotted_first text b four, internal_first text a h))

-- the digits after a label are known from the whole
hex_digits : (net : Net) (text rest : List ℕ) (a : Address) → text ≡ label_of net ++ rest → IsHexText net text a → IsHexOf net rest a
hex_digits net text rest a e h =
    subst (λ t. IsHexOf net t a) (append_cancel_left (label_of net) h.digits rest (sym h.spelled ∙ e)) h.hex

-- no text begins with a label if it begins with none of the four
pub no_label : (text : List ℕ) → ((rest : List ℕ) → text ≢ label_of Onion ++ rest) → ((rest : List ℕ) → text ≢ label_of I2p ++ rest) → ((rest : List ℕ) → text ≢ label_of Cjdns ++ rest) → ((rest : List ℕ) → text ≢ label_of Internal ++ rest)
    → (net : Net) (rest : List ℕ) → HasLabel net → text ≢ label_of net ++ rest
no_label text o i c n Onion rest l = o rest
no_label text o i c n I2p rest l = i rest
no_label text o i c n Cjdns rest l = c rest
no_label text o i c n Internal rest l = n rest
no_label text o i c n Unroutable rest l = absurd l
no_label text o i c n Ipv4 rest l = absurd l
no_label text o i c n Ipv6 rest l = absurd l

-- a label and the digits of an address are its text
pub labelled : (net : Net) (text : List ℕ) (a : Address) → HasLabel net → IsHexText net text a → IsAddrText text a
labelled Onion text a l h = onion h
labelled I2p text a l h = i2p h
labelled Cjdns text a l h = cjdns h
labelled Internal text a l h = internal h
labelled Unroutable text a l h = absurd l
labelled Ipv4 text a l h = absurd l
labelled Ipv6 text a l h = absurd l

-- a text that begins with a label is only that of an address of the label's network
labelled_only : (net : Net) (text rest : List ℕ) (a : Address) → HasLabel net → text ≡ label_of net ++ rest → IsAddrText text a → IsHexText net text a
labelled_only Onion text rest a l e h = onion_only text a (ap (λ t. get_or t 0 0) e) h
labelled_only I2p text rest a l e h = i2p_only text a (ap (λ t. get_or t 0 0) e) (ap (λ t. get_or t 1 0) e) h
labelled_only Cjdns text rest a l e h = cjdns_only text a (ap (λ t. get_or t 0 0) e) h
labelled_only Internal text rest a l e h = internal_only text a (ap (λ t. get_or t 0 0) e) (ap (λ t. get_or t 1 0) e) h
labelled_only Unroutable text rest a l e h = absurd l
labelled_only Ipv4 text rest a l e h = absurd l
labelled_only Ipv6 text rest a l e h = absurd l

pub digits_only : (net : Net) (text rest : List ℕ) (a : Address) → HasLabel net → text ≡ label_of net ++ rest → IsAddrText text a → IsHexOf net rest a
digits_only net text rest a l e h = hex_digits net text rest a e (labelled_only net text rest a l e h)
