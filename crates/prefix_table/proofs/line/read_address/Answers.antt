use Rattle.std.proofs.Common.{◌≡◌, ℕ, Some, None, Option, All, ◌≢◌, List, subst, ap, ◌∙◌}
use Rattle.std.specs.Prelude.{unwrap_or}
use Rattle.prefix_table.specs.Text.{IsRowAddress}
use Rattle.prefix_table.specs.declared.line.Family.{Family}
use Rattle.prefix_table.specs.declared.line.Family.TheVariants.{Ipv4, Ipv6}
use Rattle.prefix_table.proofs.EntryLaws.{has_dot}
use Rattle.prefix_table.proofs.line.read_address.Goals as goal

abbrev read : Family → ℕ → Option (Family × ℕ)
read family address = Some (family, address)

abbrev none : Option ℕ
none = None

-- an IPv4 text is no other address's
ipv4_is : (text : List ℕ) (known : ℕ) → (IsRowAddress Ipv4 text known) → ((n : ℕ) → IsRowAddress Ipv4 text n → Some known ≡ Some n) → (family : Family) (address : ℕ) → IsRowAddress family text address → read Ipv4 known ≡ read family address
ipv4_is text known found only Ipv4 address is = let e : known ≡ address = ap (λ (o : Option ℕ). unwrap_or o known) (only address is) in ap (λ n. read Ipv4 n) e
ipv4_is text known found only Ipv6 address is = absurd (has_dot known (subst (All (λ c. c ≢ 46)) found.1 is.no_dots))

pub returns-in-Some-clause-only : goal.returns-in-Some-clause-only
returns-in-Some-clause-only c = λ family address is.
    ap (λ n. read Ipv4 n) c.from.ensures ∙ ipv4_is c.args.text.now c.in-Some.address c.in-Some.ensures.found c.in-Some.ensures.only family address is

-- a text that is no IPv4 text
ipv6_none : (text : List ℕ) → ((n : ℕ) → IsRowAddress Ipv4 text n → none ≡ Some n) → ((n : ℕ) → IsRowAddress Ipv6 text n → none ≡ Some n) → (family : Family) (address : ℕ) → IsRowAddress family text address → ⊥
ipv6_none text no_ipv4 no_ipv6 Ipv4 address is = let e = no_ipv4 address is in cc
ipv6_none text no_ipv4 no_ipv6 Ipv6 address is = let e = no_ipv6 address is in cc

ipv6_is : (text : List ℕ) (known : ℕ) → ((n : ℕ) → IsRowAddress Ipv4 text n → none ≡ Some n) → ((n : ℕ) → IsRowAddress Ipv6 text n → Some known ≡ Some n) → (family : Family) (address : ℕ) → IsRowAddress family text address → read Ipv6 known ≡ read family address
ipv6_is text known no_ipv4 only Ipv4 address is = let e = no_ipv4 address is in cc
ipv6_is text known no_ipv4 only Ipv6 address is = let e : known ≡ address = ap (λ (o : Option ℕ). unwrap_or o known) (only address is) in ap (λ n. read Ipv6 n) e

pub returns-in_err-parse_ipv6-clause-only : goal.returns-in_err-parse_ipv6-clause-only
returns-in_err-parse_ipv6-clause-only c = λ family address is.
    absurd (ipv6_none c.args.text.now c.in_default.ensures.only c.in_err-parse_ipv6.ensures.only family address is)

pub returns-clause-only : goal.returns-clause-only
returns-clause-only c = λ family address is.
    ipv6_is c.args.text.now c.in_ok-parse_ipv6.field-0 c.in_default.ensures.only c.in_ok-parse_ipv6.ensures.only family address is
