-- A text has one form: a suffix, dots and digits, or colons.
use Rattle.std.proofs.Common.{◌≡◌, ℕ, zero, suc, ◌+◌, ◌-◌, ◌/◌, ◌%◌, ◌<◌, ◌≤◌, List, [], ◌∷◌, ◌++◌, length, map, take, get_or, All, decimal, refl, arith, ap, sym, ◌∙◌, subst, inl, inr, append_assoc}
use Rattle.std.specs.Char.{to_ascii_lowercase}
use Rattle.std.specs.List.{join_with_byte}
use Rattle.std.specs.Int.{w32, to_be_bytes}
use Rattle.std.proofs.lemmas.List.{length-append, length-map, get_or-append-add}
use Rattle.std.proofs.lemmas.Bool.Decides.{nat_tests}
use Rattle.std.proofs.lemmas.Str.Ascii.{lowercase_is}
use Rattle.std.proofs.NetLemmas.Alphabet.{IsDigitOrDot, All-ipv4_text}
use Rattle.std.proofs.Math.Seq.{take-append_seam}
use Rattle.net_addr.specs.Address.{Address}
use Rattle.net_addr.specs.OldForm.{address}
use Rattle.net_addr.specs.Text.{IsDottedText, IsIpv4Text, ipv4_text}
use Rattle.net_addr.specs.declared.net.Net.{Net}
use Rattle.net_addr.specs.declared.net.Net.TheVariants.{Unroutable, Ipv4, Ipv6, Onion, I2p, Cjdns, Internal}
use Rattle.std.specs.Net.Text.{dotted_text}
use Rattle.net_addr.proofs.Words.{AllBytes-high_first}
use Rattle.names.specs.Name.{HasLetters, IsLettered, IsSuffix, IsColonText, IsName, suffix_of}
use Rattle.names.specs.Name.IsName.{dotted, colons, lettered}

-- a suffix in lower case
lower_suffix : (net : Net) (end : List ℕ) → IsLettered net → IsSuffix net end → map to_ascii_lowercase end ≡ suffix_of net
lower_suffix Onion end l h = ap (map to_ascii_lowercase) h
lower_suffix I2p end l h = h
lower_suffix Internal end l h = ap (map to_ascii_lowercase) h
lower_suffix Unroutable end l h = absurd l
lower_suffix Ipv4 end l h = absurd l
lower_suffix Ipv6 end l h = absurd l
lower_suffix Cjdns end l h = absurd l

-- the last letter of a suffix
abbrev last_of : Net → ℕ
last_of Onion = 110
last_of I2p = 112
last_of other = 108

abbrev size_of : Net → ℕ
size_of Onion = 6
size_of I2p = 8
size_of other = 9

-- what is known of a suffix: a dot, a letter, and which letter is last
record Known (net : Net) (end : List ℕ) : Type 0 where
  size : length end ≡ size_of net
  dot : to_ascii_lowercase (get_or end 0 0) ≡ 46
  low : 97 ≤ to_ascii_lowercase (get_or end 1 0)
  last : to_ascii_lowercase (get_or end (size_of net - 1) 0) ≡ last_of net

get_or-map_lower : (xs : List ℕ) (i : ℕ) → get_or (map to_ascii_lowercase xs) i 0 ≡ to_ascii_lowercase (get_or xs i 0)
get_or-map_lower [] i = refl
get_or-map_lower (x ∷ xs) zero = refl
get_or-map_lower (x ∷ xs) (suc i) = get_or-map_lower xs i

known_by : (net : Net) (end suffix : List ℕ) → map to_ascii_lowercase end ≡ suffix → length suffix ≡ size_of net → get_or suffix 0 0 ≡ 46 → 97 ≤ get_or suffix 1 0 → get_or suffix (size_of net - 1) 0 ≡ last_of net → Known net end
known_by net end suffix e size dot low last =
    let at : (i : ℕ) → to_ascii_lowercase (get_or end i 0) ≡ get_or suffix i 0 = λ i. sym (get_or-map_lower end i) ∙ ap (λ xs. get_or xs i 0) e in
    record {
      size = sym (length-map end to_ascii_lowercase) ∙ ap length e ∙ size;
      dot = at 0 ∙ dot;
      low = subst (λ c. 97 ≤ c) (sym (at 1)) low;
      last = at (size_of net - 1) ∙ last;
    }

known : (net : Net) (end : List ℕ) → IsLettered net → IsSuffix net end → Known net end
known Onion end l h = known_by Onion end (suffix_of Onion) (lower_suffix Onion end l h) refl refl (omega arith) refl
known I2p end l h = known_by I2p end (suffix_of I2p) (lower_suffix I2p end l h) refl refl (omega arith) refl
known Internal end l h = known_by Internal end (suffix_of Internal) (lower_suffix Internal end l h) refl refl (omega arith) refl
known Unroutable end l h = absurd l
known Ipv4 end l h = absurd l
known Ipv6 end l h = absurd l
known Cjdns end l h = absurd l

-- a byte of the suffix in the text
at_end : (text stem end : List ℕ) (i : ℕ) → text ≡ stem ++ end → get_or text (length stem + i) 0 ≡ get_or end i 0
at_end text stem end i e = ap (λ t. get_or t (length stem + i) 0) e ∙ get_or-append-add stem end i 0

size_some : (net : Net) → (1 < size_of net) × (size_of net - 1 < size_of net)
size_some Unroutable = (omega arith, omega arith)
size_some Ipv4 = (omega arith, omega arith)
size_some Ipv6 = (omega arith, omega arith)
size_some Onion = (omega arith, omega arith)
size_some I2p = (omega arith, omega arith)
size_some Cjdns = (omega arith, omega arith)
size_some Internal = (omega arith, omega arith)

no_letter : (c : ℕ) → IsDigitOrDot c → 97 ≤ to_ascii_lowercase c → ⊥
no_letter c (inl h) low = omega (arith, (lowercase_is c).1)
no_letter c (inr h) low = omega (arith, (lowercase_is c).1)

lower_dot : (c : ℕ) → to_ascii_lowercase c ≡ 46 → c ≡ 46
lower_dot c e = grind (arith, nat_tests)

joined : (a b c d : ℕ) → dotted_text a b c d ≡ ipv4_text (a ∷ b ∷ c ∷ d ∷ [])
joined a b c d = simp append_assoc

-- no dotted text has a suffix
pub dotted_apart : (net : Net) (text stem end : List ℕ) (a : Address) → IsLettered net → text ≡ stem ++ end → IsSuffix net end → IsDottedText text a → ⊥
dotted_apart net text stem end a l e s h =
    let k = known net end l s in
    let n = h.bits in
    let same = h.bits_text.1 ∙ sym (joined (n / 16777216 % 256) (n / 65536 % 256) (n / 256 % 256) (n % 256)) in
    let all : All IsDigitOrDot text = subst (All IsDigitOrDot) (sym same) (All-ipv4_text (to_be_bytes w32 h.bits) (AllBytes-high_first 4 h.bits)) in
    let here = all (length stem + 1) 0 (omega (arith, ap length e, length-append stem end, k.size, size_some net)) in
    no_letter (get_or end 1 0) (subst IsDigitOrDot (at_end text stem end 1 e) here) k.low

-- no text with colons has a suffix
pub colons_apart : (net : Net) (text stem end : List ℕ) (a : Address) → IsLettered net → text ≡ stem ++ end → IsSuffix net end → IsColonText text a → ⊥
colons_apart net text stem end a l e s h =
    let k = known net end l s in
    let here = h.bits_text.no_dots (length stem + 0) 0 (omega (arith, ap length e, length-append stem end, k.size, size_some net)) in
    here (at_end text stem end 0 e ∙ lower_dot (get_or end 0 0) k.dot)

-- no dotted text has colons alone
pub dotted_dots : (text : List ℕ) (a b : Address) → IsDottedText text a → IsColonText text b → ⊥
dotted_dots text a b h k =
    let n = h.bits in
    let first = decimal (n / 16777216 % 256) in
    let rest = join_with_byte 46 (decimal (n / 65536 % 256) ∷ decimal (n / 256 % 256) ∷ decimal (n % 256) ∷ []) in
    let e : text ≡ first ++ 46 ∷ rest = h.bits_text.1 in
    let here = k.bits_text.no_dots (length first + 0) 0 (omega (arith, ap length e, length-append first (46 ∷ rest))) in
    here (at_end text first (46 ∷ rest) 0 e)

one_network : (m n : Net) → IsLettered m → IsLettered n → last_of m ≡ last_of n → m ≡ n
one_network Onion Onion l k e = refl
one_network I2p I2p l k e = refl
one_network Internal Internal l k e = refl
one_network Onion I2p l k e = absurd (omega (arith, e))
one_network Onion Internal l k e = absurd (omega (arith, e))
one_network I2p Onion l k e = absurd (omega (arith, e))
one_network I2p Internal l k e = absurd (omega (arith, e))
one_network Internal Onion l k e = absurd (omega (arith, e))
one_network Internal I2p l k e = absurd (omega (arith, e))
one_network Unroutable n l k e = absurd l
one_network Ipv4 n l k e = absurd l
one_network Ipv6 n l k e = absurd l
one_network Cjdns n l k e = absurd l
one_network Onion Unroutable l k e = absurd k
one_network Onion Ipv4 l k e = absurd k
one_network Onion Ipv6 l k e = absurd k
one_network Onion Cjdns l k e = absurd k
one_network I2p Unroutable l k e = absurd k
one_network I2p Ipv4 l k e = absurd k
one_network I2p Ipv6 l k e = absurd k
one_network I2p Cjdns l k e = absurd k
one_network Internal Unroutable l k e = absurd k
one_network Internal Ipv4 l k e = absurd k
one_network Internal Ipv6 l k e = absurd k
one_network Internal Cjdns l k e = absurd k

-- the last byte of the text tells the network
last_byte : (net : Net) (text stem end : List ℕ) → text ≡ stem ++ end → Known net end → to_ascii_lowercase (get_or text (length text - 1) 0) ≡ last_of net
last_byte net text stem end e k =
    let at : length text - 1 ≡ length stem + (size_of net - 1) = omega (arith, ap length e, length-append stem end, k.size, size_some net) in
    ap (λ i. to_ascii_lowercase (get_or text i 0)) at ∙ ap to_ascii_lowercase (at_end text stem end (size_of net - 1) e) ∙ k.last

-- a text has one suffix
pub one_suffix : (m n : Net) (text s e t f : List ℕ) → IsLettered m → IsLettered n → text ≡ s ++ e → IsSuffix m e → text ≡ t ++ f → IsSuffix n f → (m ≡ n) × (s ≡ t)
one_suffix m n text s e t f l k here se there sf =
    let p = known m e l se in
    let q = known n f k sf in
    let net = one_network m n l k (sym (last_byte m text s e here p) ∙ last_byte n text t f there q) in
    let long : length s ≡ length t = omega (arith, ap length here, ap length there, length-append s e, length-append t f, p.size, q.size, ap size_of net) in
    (net, sym (take-append_seam s e) ∙ (λ i. take (long i) ((sym here ∙ there) i)) ∙ take-append_seam t f)

-- a text that has a suffix is a name only by its letters
pub letters_only : (net : Net) (text stem end : List ℕ) (a : Address) → IsLettered net → text ≡ stem ++ end → IsSuffix net end → IsName text a → HasLetters net (map to_ascii_lowercase stem) a
letters_only net text stem end a l e s (dotted h) = absurd (dotted_apart net text stem end a l e s h)
letters_only net text stem end a l e s (colons h) = absurd (colons_apart net text stem end a l e s h)
letters_only net text stem end a l e s (lettered other k h) =
    let one = one_suffix other net text h.stem h.end stem end k l h.spelled h.suffix e s in
    subst (λ n. HasLetters n (map to_ascii_lowercase stem) a) one.0 (subst (λ t. HasLetters other (map to_ascii_lowercase t) a) one.1 h.stem_letters)

-- a text without a suffix
abbrev pub HasNoSuffix : List ℕ → Type 0
HasNoSuffix text = (net : Net) → (stem : List ℕ) → (end : List ℕ) → IsLettered net → text ≡ stem ++ end → ¬ (IsSuffix net end)

-- a text that is a dotted one is a name only as that
pub dotted_only : (text : List ℕ) (n : ℕ) (a : Address) → HasNoSuffix text → IsIpv4Text text n → IsName text a → IsDottedText text a
dotted_only text n a none here (dotted h) = h
dotted_only text n a none here (colons h) = absurd (dotted_dots text (address Ipv4 (to_be_bytes w32 n)) a (record { bits = n; bits_text = here; address = refl }) h)
dotted_only text n a none here (lettered net l h) = absurd (none net h.stem h.end l h.spelled h.suffix)

-- a text that is no dotted one is a name only by its colons
pub colons_only : (text : List ℕ) (a : Address) → HasNoSuffix text → ((n : ℕ) → ¬ (IsIpv4Text text n)) → IsName text a → IsColonText text a
colons_only text a none other (dotted h) = absurd (other h.bits h.bits_text)
colons_only text a none other (colons h) = h
colons_only text a none other (lettered net l h) = absurd (none net h.stem h.end l h.spelled h.suffix)
