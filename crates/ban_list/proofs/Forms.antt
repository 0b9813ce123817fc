-- The forms of a subnet's text exclude each other.
use Rattle.std.proofs.Common.{◌≡◌, ◌≢◌, ℕ, ◌<◌, ◌≤◌, ◌^◌, Bool, true, false, All, List, [], ◌∷◌, ◌++◌, get_or, codes, decimal, drop, Option, Some, cond, replicate, refl, sym, ap, ◌∙◌, subst, arith, append-nil, inl, inr}
use Rattle.std.specs.Prelude.{unwrap_or}
use Rattle.std.specs.Int.{w32, w128, to_be_bytes, from_be_bytes}
use Rattle.std.specs.Char.{digit_value}
use Rattle.std.specs.Str.Parse.{AllDigits}
use Rattle.std.specs.Net.Grammar.{IsDotted, IsGroupsAfter, IsElided, IsColonHex}
use Rattle.std.proofs.lemmas.Bool.Decides.{nat_tests}
use Rattle.std.proofs.lemmas.Fmt.{decimal_is_IsNumeral, decimal_injective}
use Rattle.std.proofs.lemmas.Str.Parse.{digit_at}
use Rattle.std.proofs.lemmas.List.Elements.{All-nil, All-cons, All-append, All-head, All-tail, All-from_get_or, All-weaker}
use Rattle.net_addr.specs.Address.{Address, IsAddress}
use Rattle.net_addr.specs.OldForm.{address, from_v1}
use Rattle.net_addr.specs.Text.{ipv4_text, ipv6_text, text_by, IsIpv6Text, IsAddrText, IsDottedText, IsBracketText}
use Rattle.net_addr.specs.Text.IsAddrText.{dotted, bracketed, onion, i2p, cjdns, internal}
use Rattle.net_addr.specs.declared.net.Net.{Net}
use Rattle.net_addr.specs.declared.net.Net.TheVariants.{Unroutable, Ipv4, Ipv6, Onion, I2p, Cjdns, Internal}
use Rattle.net_addr.proofs.OneReading.{one_address}
use Rattle.net_addr.proofs.Forms.{bracket_only}
use Rattle.net_addr.proofs.Printed.{printed_address}
use Rattle.net_addr.proofs.Texts.{last_byte, spelled-by_bits, bits_of_bytes}
use Rattle.ban_list.specs.Subnet.{IsProper, IsMasked, IsWhole, clear, width}
use Rattle.ban_list.specs.SubnetText.{IsIpText, IsMaskedFrom, IsMaskedSubnet, IsWholeSubnet, IsSubnetText, ip_by, length_by, subnet_text}
use Rattle.ban_list.specs.SubnetText.IsSubnetText.{ipv4, ipv6, whole}
use Rattle.ban_list.specs.declared.subnet.Subnet.{Subnet}

-- a byte of the text of an IPv4 or IPv6 address: no slash, and nothing after `f`
abbrev pub IsLow : ℕ → Type 0
IsLow c = (c ≤ 102) × (c ≢ 47)

low_digit : (c : ℕ) → digit_value c < 16 → IsLow c
low_digit c h = (grind (arith, nat_tests), λ e. omega (arith, subst (λ x. digit_value x < 16) e h))

low_digits : (ds : List ℕ) → AllDigits 16 ds → All IsLow ds
low_digits [] h = All-nil IsLow
low_digits (d ∷ ds) h = All-cons IsLow d ds (low_digit d h.0) (low_digits ds h.1)

low_decimal : (n : ℕ) → n < 2 ^ 64 → All IsLow (decimal n)
low_decimal n h =
    All-from_get_or IsLow (decimal n) 0 λ i lt.
    let digit = digit_at (decimal n) i (decimal_is_IsNumeral n h).0.1 lt in
    (omega arith, λ e. omega arith)

low_one : (c : ℕ) → IsLow c → All IsLow (c ∷ [])
low_one c h = All-cons IsLow c [] h (All-nil IsLow)

low_dot : All IsLow (codes ".")
low_dot = low_one 46 (omega arith, λ e. omega (arith, e))

low_colon : All IsLow (codes ":")
low_colon = low_one 58 (omega arith, λ e. omega (arith, e))

low_colons : All IsLow (codes "::")
low_colons = All-cons IsLow 58 (codes ":") (omega arith, λ e. omega (arith, e)) low_colon

low_dotted : (text octets : List ℕ) → IsDotted text octets → All IsLow text
low_dotted text octets h =
    let a = low_decimal h.a (omega (arith, h.fit)) in
    let b = low_decimal h.b (omega (arith, h.fit)) in
    let c = low_decimal h.c (omega (arith, h.fit)) in
    let d = low_decimal h.d (omega (arith, h.fit)) in
    let first = All-append IsLow (decimal h.a) (codes ".") a low_dot in
    let second = All-append IsLow _ (codes ".") (All-append IsLow _ (decimal h.b) first b) low_dot in
    let third = All-append IsLow _ (codes ".") (All-append IsLow _ (decimal h.c) second c) low_dot in
    subst (All IsLow) (sym h.spelled) (All-append IsLow _ (decimal h.d) third d)

low_groups : (four : Bool) (lead text segments : List ℕ) → All IsLow lead → IsGroupsAfter four lead text segments → All IsLow text
low_groups four lead text [] l h = subst (All IsLow) (sym h) (All-nil IsLow)
low_groups four lead text (s ∷ segments) l (inl h) =
    let rest = low_groups four (codes ":") h.1 segments low_colon h.4 in
    subst (All IsLow) (sym h.2) (All-append IsLow (lead ++ h.0) h.1 (All-append IsLow lead h.0 l (low_digits h.0 h.3.0.0.1)) rest)
low_groups four lead text (s ∷ segments) l (inr h) =
    subst (All IsLow) (sym h.3) (All-append IsLow lead h.0 l (low_dotted h.0 h.1 h.4))

low_elided : (text segments : List ℕ) → IsElided text segments → All IsLow text
low_elided text segments h =
    let head = low_groups false [] h.head_text h.head (All-nil IsLow) h.head_groups in
    let tail = low_groups true [] h.tail_text h.tail (All-nil IsLow) h.tail_groups in
    subst (All IsLow) (sym h.spelled) (All-append IsLow (h.head_text ++ codes "::") h.tail_text (All-append IsLow h.head_text (codes "::") head low_colons) tail)

pub low_colon_hex : (text segments : List ℕ) → IsColonHex text segments → All IsLow text
low_colon_hex text segments (inl h) = low_groups true [] text segments (All-nil IsLow) h.0
low_colon_hex text segments (inr h) = low_elided text segments h

-- the text between the brackets
pub inner_is : (text : List ℕ) (a : Address) (h : IsBracketText (codes "[" ++ text ++ codes "]") a) → h.inner ≡ text
inner_is text a h = last_byte h.inner text 93 (ap (λ t. drop 1 t) (sym h.spelled))

pub inner_text : (text : List ℕ) (a : Address) (h : IsBracketText (codes "[" ++ text ++ codes "]") a) → IsIpv6Text text h.bits
inner_text text a h = subst (λ t. IsIpv6Text t h.bits) (inner_is text a h) h.bits_text

pub low_ip : (net : Net) (text : List ℕ) (a : Address) → IsIpText net text a → All IsLow text
low_ip Ipv4 text a h = low_dotted text (to_be_bytes w32 h.bits) (spelled-by_bits text h.bits h.bits_text)
low_ip Ipv6 text a h = low_colon_hex text _ (inner_text text a h.0).groups
low_ip Unroutable text a h = absurd h
low_ip Onion text a h = absurd h
low_ip I2p text a h = absurd h
low_ip Cjdns text a h = absurd h
low_ip Internal text a h = absurd h

pub net_of_ip : (net : Net) (text : List ℕ) (a : Address) → IsIpText net text a → a.net ≡ net
net_of_ip Ipv4 text a h = ap (λ x. x.net) h.address
net_of_ip Ipv6 text a h = h.1
net_of_ip Unroutable text a h = absurd h
net_of_ip Onion text a h = absurd h
net_of_ip I2p text a h = absurd h
net_of_ip Cjdns text a h = absurd h
net_of_ip Internal text a h = absurd h

pub masked_of_ip : (net : Net) (text : List ℕ) (a : Address) → IsIpText net text a → IsMasked net
masked_of_ip Ipv4 text a h = tt
masked_of_ip Ipv6 text a h = tt
masked_of_ip Unroutable text a h = absurd h
masked_of_ip Onion text a h = absurd h
masked_of_ip I2p text a h = absurd h
masked_of_ip Cjdns text a h = absurd h
masked_of_ip Internal text a h = absurd h

-- a byte that is there is found
not_without : (s : ℕ) (front back : List ℕ) → All (λ c. c ≢ s) (front ++ s ∷ back) → ⊥
not_without s [] back h = All-head (λ c. c ≢ s) s back h refl
not_without s (x ∷ front) back h = not_without s front back (All-tail (λ c. c ≢ s) x (front ++ s ∷ back) h)

-- an IPv4 text has a dot
has_dot : (bits : ℕ) → All (λ c. c ≢ 46) (ipv4_text (to_be_bytes w32 bits)) → ⊥
has_dot bits none = not_without 46 (decimal (get_or (to_be_bytes w32 bits) 0 0)) _ none

apart : (text : List ℕ) (a b : Address) → IsDottedText text a → IsIpText Ipv6 text b → ⊥
apart text a b h k = has_dot h.bits (subst (All (λ c. c ≢ 46)) h.bits_text.1 (inner_text text b k.0).no_dots)

-- a text without a length is that of at most one address
pub one_ip : (m n : Net) (text : List ℕ) (a b : Address) → IsIpText m text a → IsIpText n text b → a ≡ b
one_ip Ipv4 Ipv4 text a b h k = one_address text a b (dotted h) (dotted k)
one_ip Ipv4 Ipv6 text a b h k = absurd (apart text a b h k)
one_ip Ipv6 Ipv4 text a b h k = absurd (apart text b a k h)
one_ip Ipv6 Ipv6 text a b h k = one_address (codes "[" ++ text ++ codes "]") a b (bracketed h.0) (bracketed k.0)
one_ip Unroutable n text a b h k = absurd h
one_ip Onion n text a b h k = absurd h
one_ip I2p n text a b h k = absurd h
one_ip Cjdns n text a b h k = absurd h
one_ip Internal n text a b h k = absurd h
one_ip Ipv4 Unroutable text a b h k = absurd k
one_ip Ipv4 Onion text a b h k = absurd k
one_ip Ipv4 I2p text a b h k = absurd k
one_ip Ipv4 Cjdns text a b h k = absurd k
one_ip Ipv4 Internal text a b h k = absurd k
one_ip Ipv6 Unroutable text a b h k = absurd k
one_ip Ipv6 Onion text a b h k = absurd k
one_ip Ipv6 I2p text a b h k = absurd k
one_ip Ipv6 Cjdns text a b h k = absurd k
one_ip Ipv6 Internal text a b h k = absurd k

width_small : (net : Net) → width net ≤ 256
width_small Unroutable = omega arith
width_small Ipv4 = omega arith
width_small Ipv6 = omega arith
width_small Onion = omega arith
width_small I2p = omega arith
width_small Cjdns = omega arith
width_small Internal = omega arith

-- a text of an address without a slash after it
pub record IsPlain (net : Net) (text : List ℕ) (s : Subnet) : Type 0 where
  pub addr : Address
  pub ip_text : IsIpText net text addr
  pub length : s.len ≡ width net
  pub masked : IsMaskedFrom addr s.len s

no_slash : (ip : List ℕ) → All IsLow ip → All (λ c. c ≢ 47) ip
no_slash ip h = All-weaker IsLow (λ c. c ≢ 47) (λ c k. k.1) ip h

pub plain : (net : Net) (text : List ℕ) (s : Subnet) → All (λ c. c ≢ 47) text → IsMaskedSubnet net text s → IsPlain net text s
plain net text s none h = elim h.length [
  | inl e ↦ record {
    addr = h.addr;
    ip_text = subst (λ t. IsIpText net t h.addr) (sym (h.spelled ∙ ap (λ t. h.ip ++ t) e.0 ∙ append-nil h.ip)) h.ip_text;
    length = e.1;
    masked = h.masked;
  }
  | inr e ↦ absurd (not_without 47 h.ip (decimal s.len) (subst (All (λ c. c ≢ 47)) (h.spelled ∙ ap (λ t. h.ip ++ t) e.0) none))
]

-- a text of an address, cut at its last slash
pub record IsCut (net : Net) (ip digits : List ℕ) (s : Subnet) : Type 0 where
  pub addr : Address
  pub ip_text : IsIpText net ip addr
  pub digits_text : digits ≡ decimal s.len
  pub length : s.len ≤ width net
  pub masked : IsMaskedFrom addr s.len s

-- the text before the last such byte and the text after it are known from the whole
around_last-unique : (s : ℕ) (a x b y : List ℕ) → a ++ s ∷ b ≡ x ++ s ∷ y → All (λ c. c ≢ s) b → All (λ c. c ≢ s) y → (a ≡ x) × (b ≡ y)
around_last-unique s [] [] b y e h k = (refl, ap (λ xs. drop 1 xs) e)
around_last-unique s [] (c ∷ x) b y e h k = absurd (not_without s x y (subst (All (λ c. c ≢ s)) (ap (λ xs. drop 1 xs) e) h))
around_last-unique s (c ∷ a) [] b y e h k = absurd (not_without s a b (subst (All (λ c. c ≢ s)) (sym (ap (λ xs. drop 1 xs) e)) k))
around_last-unique s (c ∷ a) (d ∷ x) b y e h k =
    let heads : c ≡ d = cc in
    let tails : a ++ s ∷ b ≡ x ++ s ∷ y = ap (λ xs. drop 1 xs) e in
    let rest = around_last-unique s a x b y tails h k in
    (λ i. heads i ∷ rest.0 i, rest.1)

pub cut : (net : Net) (text ip digits : List ℕ) (s : Subnet) → text ≡ ip ++ 47 ∷ digits → All (λ c. c ≢ 47) digits → IsMaskedSubnet net text s → IsCut net ip digits s
cut net text ip digits s e last h = elim h.length [
  | inl k ↦ absurd (not_without 47 ip digits (subst (All (λ c. c ≢ 47)) (sym (h.spelled ∙ ap (λ t. h.ip ++ t) k.0 ∙ append-nil h.ip) ∙ e) (no_slash h.ip (low_ip net h.ip h.addr h.ip_text))))
  | inr k ↦
      let small = width_small net in
      let parts = around_last-unique 47 ip h.ip digits (decimal s.len) (sym e ∙ h.spelled ∙ ap (λ t. h.ip ++ t) k.0) last (no_slash (decimal s.len) (low_decimal s.len (omega (arith, small, k.1)))) in
      record {
        addr = h.addr;
        ip_text = subst (λ t. IsIpText net t h.addr) (sym parts.0) h.ip_text;
        digits_text = parts.1;
        length = k.1;
        masked = h.masked;
      }
]

-- a text of either form is made of low bytes
low_all : (ip : List ℕ) → All IsLow ip → All (λ c. c ≤ 102) ip
low_all ip h = All-weaker IsLow (λ c. c ≤ 102) (λ c k. k.0) ip h

low_masked : (net : Net) (text : List ℕ) (s : Subnet) → IsMaskedSubnet net text s → All (λ c. c ≤ 102) text
low_masked net text s h =
    let ip = low_all h.ip (low_ip net h.ip h.addr h.ip_text) in
    elim h.length [
      | inl e ↦ subst (All (λ c. c ≤ 102)) (sym (h.spelled ∙ ap (λ t. h.ip ++ t) e.0 ∙ append-nil h.ip)) ip
      | inr e ↦
          let small = width_small net in
          let tail = All-cons (λ c. c ≤ 102) 47 (decimal s.len) (omega arith) (low_all (decimal s.len) (low_decimal s.len (omega (arith, small, e.1)))) in
          subst (All (λ c. c ≤ 102)) (sym (h.spelled ∙ ap (λ t. h.ip ++ t) e.0)) (All-append (λ c. c ≤ 102) h.ip (47 ∷ decimal s.len) ip tail)
    ]

third : (a b c : ℕ) (rest text : List ℕ) → text ≡ a ∷ b ∷ c ∷ rest → All (λ c. c ≤ 102) text → (a ≤ 102) × (b ≤ 102) × (c ≤ 102)
third a b c rest text e h =
    let all = subst (All (λ c. c ≤ 102)) e h in
    let more = All-tail (λ c. c ≤ 102) a (b ∷ c ∷ rest) all in
    (All-head (λ c. c ≤ 102) a (b ∷ c ∷ rest) all, All-head (λ c. c ≤ 102) b (c ∷ rest) more, All-head (λ c. c ≤ 102) c rest (All-tail (λ c. c ≤ 102) b (c ∷ rest) more))

cases_whole : (bytes : List ℕ) (m i t : Bool) → IsWhole (cond m (address Ipv4 (drop 12 bytes)) (cond i (address Internal (drop 6 bytes)) (cond t (address Ipv6 (replicate 16 0)) (address Ipv6 bytes)))).net → ⊥
cases_whole bytes true i t w = w
cases_whole bytes false true t w = w
cases_whole bytes false false true w = w
cases_whole bytes false false false w = w

pub bracket_whole : (bytes : List ℕ) → IsWhole (from_v1 bytes).net → ⊥
bracket_whole bytes w = cases_whole bytes _ _ _ w

high_whole : (text : List ℕ) (a : Address) → IsWhole a.net → All (λ c. c ≤ 102) text → IsAddrText text a → ⊥
high_whole text a w l (dotted h) = subst IsWhole (ap (λ x. x.net) h.address) w
high_whole text a w l (onion h) = omega (arith, (third 111 110 105 _ text h.spelled l).0)
high_whole text a w l (i2p h) = omega (arith, (third 105 50 112 _ text h.spelled l).2)
high_whole text a w l (cjdns h) = omega (arith, (third 99 106 100 _ text h.spelled l).1)
high_whole text a w l (internal h) = omega (arith, (third 105 110 116 _ text h.spelled l).2)
high_whole text a w l (bracketed h) = bracket_whole (to_be_bytes w128 h.bits) (subst (λ x. IsWhole x.net) h.address w)

-- a text of an address with lengths is no whole address's
pub masked_not_whole : (net : Net) (text : List ℕ) (s t : Subnet) → IsMaskedSubnet net text s → IsWholeSubnet text t → ⊥
masked_not_whole net text s t h k = high_whole text t.addr k.network (low_masked net text s h) k.addr_text

-- the forms
pub of_form : {P : Type 0} (text : List ℕ) (s : Subnet) → IsSubnetText text s → (IsWholeSubnet text s → P) → ((net : Net) → IsMaskedSubnet net text s → P) → P
of_form text s (whole h) f g = f h
of_form text s (ipv4 h) f g = g Ipv4 h
of_form text s (ipv6 h) f g = g Ipv6 h

pub to_form : (net : Net) (text : List ℕ) (s : Subnet) → IsMasked net → IsMaskedSubnet net text s → IsSubnetText text s
to_form Ipv4 text s m h = ipv4 h
to_form Ipv6 text s m h = ipv6 h
to_form Unroutable text s m h = absurd m
to_form Onion text s m h = absurd m
to_form I2p text s m h = absurd m
to_form Cjdns text s m h = absurd m
to_form Internal text s m h = absurd m

abbrev subnet : Address → ℕ → Subnet
subnet addr len = record { addr = addr; len = len }

pub same_some : {A : Type 0} (x y : A) → Some x ≡ Some y → x ≡ y
same_some {A} x y e = ap (λ (o : Option A). unwrap_or o x) e

pub same_subnet : (a b : Address) (m n : ℕ) → a ≡ b → m ≡ n → subnet a m ≡ subnet b n
same_subnet a b m n e f = λ i. subnet (e i) (f i)

-- the two forms of an address with lengths
pub by_ip : {P : Type 0} (net : Net) (text : List ℕ) (a : Address) → IsIpText net text a → (IsDottedText text a → P) → (IsBracketText (codes "[" ++ text ++ codes "]") a → a.net ≡ Ipv6 → P) → P
by_ip Ipv4 text a h f g = f h
by_ip Ipv6 text a h f g = g h.0 h.1
by_ip Unroutable text a h f g = absurd h
by_ip Onion text a h f g = absurd h
by_ip I2p text a h f g = absurd h
by_ip Cjdns text a h f g = absurd h
by_ip Internal text a h f g = absurd h

-- a cleared address is that of the text
pub masked_is : (a b : Address) (len : ℕ) (s : Subnet) → a ≡ b → len ≡ s.len → IsMaskedFrom b s.len s → IsMaskedFrom a len s
masked_is a b len s e f h = subst (λ n. IsMaskedFrom a n s) (sym f) (subst (λ x. IsMaskedFrom x s.len s) (sym e) h)

one_masked : (a : Address) (m n : ℕ) (s t : Subnet) → IsMaskedFrom a m s → IsMaskedFrom a n t → m ≡ n → s ≡ t
one_masked a m n s t h k e = same_subnet s.addr t.addr s.len t.len (h.addr ∙ ap (λ l. address a.net (clear l a.bytes)) e ∙ sym k.addr) (h.size ∙ e ∙ sym k.size)

-- a text is that of a subnet, as its parts say
pub plain_made : (net : Net) (text : List ℕ) (a : Address) (len : ℕ) (s : Subnet) → IsIpText net text a → len ≡ width net → IsMaskedFrom a len s → IsSubnetText text s
plain_made net text a len s h e m = to_form net text s (masked_of_ip net text a h) (record {
  ip = text;
  tail = [];
  addr = a;
  spelled = sym (append-nil text);
  ip_text = h;
  length = inl (refl, m.size ∙ e);
  masked = subst (λ n. IsMaskedFrom a n s) (sym m.size) m;
})

pub cut_made : (net : Net) (text ip digits : List ℕ) (a : Address) (len : ℕ) (s : Subnet) → text ≡ ip ++ 47 ∷ digits → IsIpText net ip a → digits ≡ decimal len → len ≤ width net → IsMaskedFrom a len s → IsSubnetText text s
cut_made net text ip digits a len s spelled h e le m = to_form net text s (masked_of_ip net ip a h) (record {
  ip = ip;
  tail = 47 ∷ digits;
  addr = a;
  spelled = spelled;
  ip_text = h;
  length = inr (ap (λ ds. 47 ∷ ds) (e ∙ ap decimal (sym m.size)), subst (λ n. n ≤ width net) (sym m.size) le);
  masked = subst (λ n. IsMaskedFrom a n s) (sym m.size) m;
})

one_whole : (text : List ℕ) (s t : Subnet) → IsWholeSubnet text s → IsWholeSubnet text t → s ≡ t
one_whole text s t h k =
    let addr = one_address text s.addr t.addr h.addr_text k.addr_text in
    same_subnet s.addr t.addr s.len t.len addr (h.length ∙ ap (λ (a : Address). width a.net) addr ∙ sym k.length)

one_from : (m n : Net) (ip : List ℕ) (a b : Address) (s t : Subnet) → IsIpText m ip a → IsIpText n ip b → s.len ≡ t.len → IsMaskedFrom a s.len s → IsMaskedFrom b t.len t → s ≡ t
one_from m n ip a b s t h k e x y =
    one_masked a s.len t.len s t x (subst (λ c. IsMaskedFrom c t.len t) (sym (one_ip m n ip a b h k)) y) e

one_of_both : (m n : Net) (text : List ℕ) (s t : Subnet) → IsMaskedSubnet m text s → IsMaskedSubnet n text t → s ≡ t
one_of_both m n text s t h k = elim h.length [
  | inl e ↦
      let same : text ≡ h.ip = h.spelled ∙ ap (λ u. h.ip ++ u) e.0 ∙ append-nil h.ip in
      let p = plain n text t (subst (All (λ c. c ≢ 47)) (sym same) (no_slash h.ip (low_ip m h.ip h.addr h.ip_text))) k in
      let ip = subst (λ u. IsIpText n u p.addr) same p.ip_text in
      let addr = one_ip m n h.ip h.addr p.addr h.ip_text ip in
      let net : m ≡ n = sym (net_of_ip m h.ip h.addr h.ip_text) ∙ ap (λ (a : Address). a.net) addr ∙ net_of_ip n h.ip p.addr ip in
      one_from m n h.ip h.addr p.addr s t h.ip_text ip (e.1 ∙ ap width net ∙ sym p.length) h.masked p.masked
  | inr e ↦
      let small = width_small m in
      let last = no_slash (decimal s.len) (low_decimal s.len (omega (arith, small, e.1))) in
      let p = cut n text h.ip (decimal s.len) t (h.spelled ∙ ap (λ u. h.ip ++ u) e.0) last k in
      let small_too = width_small n in
      let len = decimal_injective s.len t.len (omega (arith, small, e.1)) (omega (arith, small_too, p.length)) p.digits_text in
      one_from m n h.ip h.addr p.addr s t h.ip_text p.ip_text len h.masked p.masked
]

-- a text is that of at most one subnet
pub one_subnet : (text : List ℕ) (s t : Subnet) → IsSubnetText text s → IsSubnetText text t → s ≡ t
one_subnet text s t h k =
    of_form text s h
    (λ w. of_form text t k (one_whole text s t w) (λ net m. absurd (masked_not_whole net text t s m w)))
    (λ net m. of_form text t k (λ w. absurd (masked_not_whole net text s t m w)) (λ other n. one_of_both net other text s t m n))

-- what is printed of an address with lengths, and of a whole one
printed_masked : (net : Net) (bytes : List ℕ) (len : ℕ) → IsProper (subnet (address net bytes) len) → IsAddress (address net bytes) → (ip : List ℕ) → IsIpText net ip (address net bytes) → IsMaskedSubnet net (ip ++ 47 ∷ decimal len) (subnet (address net bytes) len)
printed_masked net bytes len p h ip k = record {
  ip = ip;
  tail = 47 ∷ decimal len;
  addr = address net bytes;
  spelled = refl;
  ip_text = k;
  length = inr (refl, p.len);
  masked = record { size = refl; addr = ap (address net) (sym p.clear); is_address = h };
}

printed_whole : (net : Net) (bytes : List ℕ) (len : ℕ) → IsWhole net → IsProper (subnet (address net bytes) len) → IsAddress (address net bytes) → IsSubnetText (text_by net bytes ++ []) (subnet (address net bytes) len)
printed_whole net bytes len w p h = whole (record {
  addr_text = subst (λ t. IsAddrText t (address net bytes)) (sym (append-nil (text_by net bytes))) (printed_address (address net bytes) h);
  network = w;
  length = p.whole w;
})

printed_ipv4 : (bytes : List ℕ) → IsAddress (address Ipv4 bytes) → IsDottedText (ipv4_text bytes) (address Ipv4 bytes)
printed_ipv4 bytes h =
    let known = bits_of_bytes bytes h.length h.bytes in
    record {
      bits = from_be_bytes w32 bytes;
      bits_text = (known.0, ap ipv4_text (sym known.1));
      address = ap (address Ipv4) (sym known.1);
    }

of_parts : (net : Net) (bytes : List ℕ) (len : ℕ) → IsProper (subnet (address net bytes) len) → IsAddress (address net bytes) → IsSubnetText (ip_by net bytes ++ length_by net len) (subnet (address net bytes) len)
of_parts Unroutable bytes len p h = absurd (h.network refl)
of_parts Ipv4 bytes len p h = ipv4 (printed_masked Ipv4 bytes len p h (ipv4_text bytes) (printed_ipv4 bytes h))
of_parts Ipv6 bytes len p h = ipv6 (printed_masked Ipv6 bytes len p h (ipv6_text bytes) (bracket_only _ (address Ipv6 bytes) refl (printed_address (address Ipv6 bytes) h), refl))
of_parts Onion bytes len p h = printed_whole Onion bytes len tt p h
of_parts I2p bytes len p h = printed_whole I2p bytes len tt p h
of_parts Cjdns bytes len p h = printed_whole Cjdns bytes len tt p h
of_parts Internal bytes len p h = absurd (p.network refl)

-- what is printed of a subnet is its text
pub printed_subnet : (s : Subnet) → IsProper s → IsAddress s.addr → IsSubnetText (subnet_text s) s
printed_subnet s p h = of_parts s.addr.net s.addr.bytes s.len p h
