-- An address is written with its length in one byte.
use Rattle.std.proofs.Common.{◌≡◌, ◌≢◌, ◌∙◌, ℕ, ◌+◌, ◌≤◌, ◌<◌, List, [], ◌∷◌, ◌++◌, length, slice_index, ap, sym, subst, refl, append_assoc, lt-ltb, arith}
use Rattle.std.proofs.lemmas.List.{length-append}
use Rattle.net_addr.specs.Address.{Address, IsAddress, length_of}
use Rattle.net_addr.specs.declared.net.Net.{Net}
use Rattle.net_addr.specs.declared.net.Net.TheVariants.{Unroutable, Ipv4, Ipv6, Onion, I2p, Cjdns, Internal}
use Rattle.wire_num.specs.CompactSize.{compact_size}
use Rattle.addr_codecs.specs.Texts.{address_text, id_of, prefix_of}

few_bytes : (net : Net) → length (prefix_of net) + length_of net ≤ 32
few_bytes Unroutable = omega arith
few_bytes Ipv4 = omega arith
few_bytes Ipv6 = omega arith
few_bytes Onion = omega arith
few_bytes I2p = omega arith
few_bytes Cjdns = omega arith
few_bytes Internal = omega arith

in_one_byte : (n : ℕ) → n < 253 → compact_size n ≡ n ∷ []
unfolding compact_size
in_one_byte n h = rw (lt-ltb n 253 h) refl

-- what is appended one after another: network and length, the prefix, and the bytes
pub three_parts : (a : Address) (before first second third prefix bytes : List ℕ) (id : ℕ) → IsAddress a
    → id ≡ id_of a.net → prefix ≡ prefix_of a.net → bytes ≡ a.bytes
    → first ≡ before ++ id ∷ (length prefix + length bytes) ∷ [] → second ≡ first ++ prefix
    → third ≡ second ++ bytes → third ≡ before ++ address_text a
unfolding address_text
three_parts a before first second third prefix bytes id h id_is prefix_is bytes_is one two three =
    let n = length (prefix_of a.net ++ a.bytes) in
    let both = length-append (prefix_of a.net) a.bytes in
    let small : n < 253 = omega (arith, both, few_bytes a.net, h.length) in
    let long : length prefix + length bytes ≡ n =
    ap (λ p. length p + length bytes) prefix_is ∙ ap (λ b. length (prefix_of a.net) + length b) bytes_is ∙ sym both in
    let head : id ∷ (length prefix + length bytes) ∷ [] ≡ (id_of a.net ∷ []) ++ compact_size n =
    (λ i. id_is i ∷ long i ∷ []) ∙ ap (λ t. id_of a.net ∷ t) (sym (in_one_byte n small)) in
    three ∙ ap (λ t. t ++ bytes) (two ∙ ap (λ t. t ++ prefix) one)
    ∙ (λ i. before ++ head i ++ prefix_is i ++ bytes_is i)
    ∙ append_assoc (before ++ ((id_of a.net ∷ []) ++ compact_size n)) (prefix_of a.net) a.bytes
    ∙ append_assoc before ((id_of a.net ∷ []) ++ compact_size n) (prefix_of a.net ++ a.bytes)
    ∙ ap (λ t. before ++ t) (sym (append_assoc ((id_of a.net ∷ []) ++ compact_size n) (prefix_of a.net) a.bytes))

four_is : (a : Address) → IsAddress a → length a.bytes ≡ 4 → a.net ≡ Ipv4
four_is a h four = by a.net (sym h.length ∙ four) h.network
  where
    by : (net : Net) → length_of net ≡ 4 → net ≢ Unroutable → net ≡ Ipv4
    by Ipv4 e routed = refl
    by Unroutable e routed = absurd (omega (arith, e))
    by Ipv6 e routed = absurd (omega (arith, e))
    by Onion e routed = absurd (omega (arith, e))
    by I2p e routed = absurd (omega (arith, e))
    by Cjdns e routed = absurd (omega (arith, e))
    by Internal e routed = absurd (omega (arith, e))

four_items : (b : List ℕ) → length b ≡ 4
    → slice_index b 0 ∷ slice_index b 1 ∷ slice_index b 2 ∷ slice_index b 3 ∷ [] ≡ b
four_items [] e = absurd (omega (arith, e))
four_items (w ∷ []) e = absurd (omega (arith, e))
four_items (w ∷ x ∷ []) e = absurd (omega (arith, e))
four_items (w ∷ x ∷ y ∷ []) e = absurd (omega (arith, e))
four_items (w ∷ x ∷ y ∷ z ∷ []) e = refl
four_items (w ∷ x ∷ y ∷ z ∷ v ∷ rest) e = absurd (omega (arith, e))

at_ipv4 : (net : Net) (b : List ℕ) → net ≡ Ipv4 → length b ≡ 4
    → 1 ∷ 4 ∷ b ≡ (id_of net ∷ []) ++ compact_size (length (prefix_of net ++ b)) ++ prefix_of net ++ b
unfolding compact_size
at_ipv4 net b is four =
    subst (λ n. 1 ∷ 4 ∷ b ≡ (id_of n ∷ []) ++ compact_size (length (prefix_of n ++ b)) ++ prefix_of n ++ b) (sym is)
    (sym (ap (λ n. (1 ∷ []) ++ compact_size n ++ [] ++ b) four))

-- an address of four bytes is of IPv4
pub of_four : (a : Address) (before after bytes : List ℕ) (id : ℕ) → IsAddress a → bytes ≡ a.bytes
    → length bytes ≡ 4 → id ≡ 1
    → after ≡ before ++ id ∷ 4 ∷ slice_index bytes 0 ∷ slice_index bytes 1 ∷ slice_index bytes 2 ∷ slice_index bytes 3 ∷ []
    → after ≡ before ++ address_text a
unfolding address_text
of_four a before after bytes id h bytes_is four id_is text =
    let own : length a.bytes ≡ 4 = sym (ap length bytes_is) ∙ four in
    text ∙ (λ i. before ++ id_is i ∷ 4 ∷ four_items bytes four i) ∙ ap (λ b. before ++ 1 ∷ 4 ∷ b) bytes_is
    ∙ ap (λ t. before ++ t) (at_ipv4 a.net a.bytes (four_is a h own) own)
