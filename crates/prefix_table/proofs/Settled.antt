-- A line is read as one entry at most.
use Rattle.std.proofs.Common.{◌≡◌, ◌≢◌, ℕ, ◌<◌, ◌^◌, All, List, [], ◌∷◌, ◌++◌, decimal, codes, drop, refl, sym, ap, ◌∙◌, subst, arith, append_assoc}
use Rattle.std.specs.Int.{w128, to_be_bytes}
use Rattle.std.specs.Net.Addr.{ipv4_bits}
use Rattle.std.proofs.lemmas.Fmt.{decimal_injective}
use Rattle.std.proofs.lemmas.Nat.{from_be_bytes-to_be_bytes_4}
use Rattle.std.proofs.lemmas.List.Elements.{All-nil, All-cons, All-append}
use Rattle.net_addr.proofs.Texts.{octets_of_bits, spelled-by_bits, bits-of_spelled, groups_of_bits, ipv6-only}
use Rattle.net_addr.proofs.Words.{from_be_bytes-to_be_bytes_16, AllBytes-high_first, octets-segments}
use Rattle.net_addr.specs.Text.{IsIpv4Text, IsIpv6Text}
use Rattle.prefix_table.specs.Text.{IsRowAddress, IsRowEntry}
use Rattle.prefix_table.specs.Numbered.{IsSettled}
use Rattle.prefix_table.specs.declared.line.RowEntry.{RowEntry}
use Rattle.prefix_table.specs.declared.line.Family.{Family}
use Rattle.prefix_table.specs.declared.line.Family.TheVariants.{Ipv4, Ipv6}
use Rattle.prefix_table.proofs.EntryLaws.{has_dot, decimal-no, parts_at_slash, parts_at_space}

own_bits : (n : ℕ) → n < 2 ^ 32 → n ≡ ipv4_bits (octets_of_bits n)
unfolding ipv4_bits
own_bits n small = sym (from_be_bytes-to_be_bytes_4 n small)

ipv4_one : (text : List ℕ) (a b : ℕ) → IsIpv4Text text a → IsIpv4Text text b → a ≡ b
ipv4_one text a b is it = bits-of_spelled text (octets_of_bits a) a b (spelled-by_bits text a is) (own_bits a is.0) it

ipv6_one : (text : List ℕ) (a b : ℕ) → IsIpv6Text text a → IsIpv6Text text b → a ≡ b
ipv6_one text a b is it =
    let bytes = to_be_bytes w128 a in
    ipv6-only text bytes (groups_of_bits a) a b is.groups (sym (octets-segments bytes refl (AllBytes-high_first 16 a))) (sym (from_be_bytes-to_be_bytes_16 a is.small)) it

-- a text is that of one address at most
address_one : (text : List ℕ) (f g : Family) (a b : ℕ) → IsRowAddress f text a → IsRowAddress g text b → (f ≡ g) × (a ≡ b)
address_one text Ipv4 Ipv4 a b is it = (refl, ipv4_one text a b is it)
address_one text Ipv4 Ipv6 a b is it = absurd (has_dot a (subst (All (λ c. c ≢ 46)) is.1 it.no_dots))
address_one text Ipv6 Ipv4 a b is it = absurd (has_dot b (subst (All (λ c. c ≢ 46)) it.1 is.no_dots))
address_one text Ipv6 Ipv6 a b is it = (refl, ipv6_one text a b is it)

-- a line round its last slash
record Cut (line : List ℕ) (entry : RowEntry) (address numbers : List ℕ) : Type 0 where
  whole : line ≡ address ++ 47 ∷ numbers
  last : All (λ c. c ≢ 47) numbers

abbrev numbers_of : RowEntry → List ℕ
numbers_of entry = decimal entry.len ++ 32 ∷ 65 ∷ 83 ∷ decimal entry.asn

cut_of : (line : List ℕ) (entry : RowEntry) (is : IsRowEntry line entry) → Cut line entry is.address (numbers_of entry)
cut_of line entry is = record {
  whole =
      is.spelled ∙ ap (λ (a : List ℕ). is.address ++ codes "/" ++ is.len ++ codes " AS" ++ a) is.is_asn.1
      ∙ ap (λ (l : List ℕ). is.address ++ codes "/" ++ l ++ codes " AS" ++ decimal entry.asn) is.is_len.1
      ∙ regroup is.address (decimal entry.len) (decimal entry.asn);
  last = All-append (λ c. c ≢ 47) (decimal entry.len) (32 ∷ 65 ∷ 83 ∷ decimal entry.asn) (decimal-no 47 entry.len (omega (arith, is.is_len.0)) (omega arith)) (All-cons (λ c. c ≢ 47) 32 (65 ∷ 83 ∷ decimal entry.asn) (λ e. omega (arith, e)) (All-cons (λ c. c ≢ 47) 65 (83 ∷ decimal entry.asn) (λ e. omega (arith, e)) (All-cons (λ c. c ≢ 47) 83 (decimal entry.asn) (λ e. omega (arith, e)) (decimal-no 47 entry.asn (omega (arith, is.is_asn.0)) (omega arith)))));
}
  where
    regroup : (a l n : List ℕ) → a ++ codes "/" ++ l ++ codes " AS" ++ n ≡ a ++ 47 ∷ (l ++ 32 ∷ 65 ∷ 83 ∷ n)
    regroup a l n = simp append_assoc

abbrev made : Family → ℕ → ℕ → ℕ → RowEntry
made family address len asn = record { family = family; address = address; len = len; asn = asn }

-- a line is read as one entry at most
pub settled : (line : List ℕ) → IsSettled line
settled line = λ x y is it.
    let cut = cut_of line x is in
    let at_slash = parts_at_slash line is.address (numbers_of x) y cut.whole cut.last it in
    let own = address_one is.address x.family y.family x.address y.address is.is_address at_slash.0 in
    let no_space = All-cons (λ c. c ≢ 32) 65 (83 ∷ decimal x.asn) (λ e. omega (arith, e)) (All-cons (λ c. c ≢ 32) 83 (decimal x.asn) (λ e. omega (arith, e)) (decimal-no 32 x.asn (omega (arith, is.is_asn.0)) (omega arith))) in
    let at_space = parts_at_space (numbers_of x) (decimal x.len) (65 ∷ 83 ∷ decimal x.asn) y.len y.asn (omega (arith, it.is_asn.0)) refl no_space at_slash.1 in
    let len = decimal_injective x.len y.len (omega (arith, is.is_len.0)) (omega (arith, it.is_len.0)) at_space.0 in
    let asn = decimal_injective x.asn y.asn (omega (arith, is.is_asn.0)) (omega (arith, it.is_asn.0)) (ap (λ (xs : List ℕ). drop 2 xs) at_space.1) in
    λ i. made (own.0 i) (own.1 i) (len i) (asn i)

-- each line is
pub all_settled : (lines : List (List ℕ)) → All IsSettled lines
all_settled [] = All-nil IsSettled
all_settled (line ∷ lines) = All-cons IsSettled line lines (settled line) (all_settled lines)
