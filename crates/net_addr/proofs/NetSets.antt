-- Sets of networks and the bits that they are stored in.
use Rattle.std.proofs.Common.{◌≡◌, ℕ, ◌*◌, ◌/◌, ◌%◌, ◌^◌, ◌<◌, Bool, true, false, cond, ◌&&◌, ◌||◌, ◌==◌, nat_lt, List, [], ◌∷◌, filter, bit_and, bit_or, refl, sym, ap, subst, ◌∙◌}
use Rattle.std.specs.Int.{bit_at}
use Rattle.std.specs.List.{list_any}
use Rattle.std.specs.Str.{bytes_eq}
use Rattle.std.proofs.lemmas.Bool.{and_parts}
use Rattle.std.proofs.lemmas.Bool.Decides.{Decides-eqb, Decides-ltb, same_from_decides}
use Rattle.std.proofs.lemmas.Nat.Bits.{shr_and_one}
use Rattle.std.proofs.lemmas.Slice.Eq.{bytes_eq-Decides}
use Rattle.net_addr.specs.Address.{net_number}
use Rattle.net_addr.specs.NetSet.{all, has, has_number, with_net}
use Rattle.net_addr.specs.NetBits.{bits_of, bits_of-nets_of, each_below, nets_of}
use Rattle.net_addr.specs.declared.net.Net.{Net}
use Rattle.net_addr.specs.declared.net.Net.TheVariants.{Unroutable, Ipv4, Ipv6, Onion, I2p, Cjdns, Internal}

and_false : (b : Bool) → (b && false) ≡ false
and_false true = refl
and_false false = refl

absorbed : (any p : Bool) → (p || (any && p)) ≡ p
absorbed any true = refl
absorbed any false = and_false any

list_any-cond : (test : ℕ → Bool) (p : Bool) (x : ℕ) (xs : List ℕ) → list_any test (cond p (x ∷ xs) xs) ≡ ((test x && p) || list_any test xs)
list_any-cond test true x xs = elim (test x) as (λ b. (b || list_any test xs) ≡ ((b && true) || list_any test xs)) [ true ↦ refl | false ↦ refl ]
list_any-cond test false x xs = elim (test x) as (λ b. list_any test xs ≡ ((b && false) || list_any test xs)) [ true ↦ refl | false ↦ refl ]

filter_step : (same any passes here : Bool) → (same ≡ true → here ≡ passes) → ((same && here) || (any && passes)) ≡ ((same || any) && passes)
filter_step true any passes here equal = subst (λ h. (h || (any && passes)) ≡ passes) (sym (equal refl)) (absorbed any passes)
filter_step false any passes here equal = refl

-- a number is in a filtered list if it is in the list and passes
pub has_number-filter : (p : ℕ → Bool) (number : ℕ) (xs : List ℕ) → has_number (filter p xs) number ≡ (has_number xs number && p number)
has_number-filter p number [] = refl
has_number-filter p number (x ∷ xs) =
    list_any-cond (λ n. n == number) (p x) x (filter p xs)
    ∙ ap (λ b. ((x == number) && p x) || b) (has_number-filter p number xs)
    ∙ filter_step (x == number) (has_number xs number) (p number) (p x) (λ same. ap p ((Decides-eqb x number).0 same))

-- each network is one of all
has_number-all : (net : Net) (p : Bool) → (has_number all (net_number net) && p) ≡ p
has_number-all Unroutable p = refl
has_number-all Ipv4 p = refl
has_number-all Ipv6 p = refl
has_number-all Onion p = refl
has_number-all I2p p = refl
has_number-all Cjdns p = refl
has_number-all Internal p = refl

-- a set with one more network has that network, and of the others those that it had
pub has-with : (nets : List ℕ) (net other : Net) → has (with_net nets net) other ≡ (has nets other || net_number other == net_number net)
has-with nets net other =
    let p : ℕ → Bool = λ n. has_number nets n || n == net_number net in
    has_number-filter p (net_number other) all ∙ has_number-all other (p (net_number other))

-- a network is in the set if its bit is set
pub has-nets_of : (bits : ℕ) (net : Net) → (bit_and (bits / 2 ^ net_number net) 1 == 1) ≡ has (nets_of bits) net
has-nets_of bits net =
    ap (λ b. b == 1) (shr_and_one bits (net_number net))
    ∙ sym (has_number-filter (λ n. bit_at bits n == 1) (net_number net) all ∙ has_number-all net (bit_at bits (net_number net) == 1))

abbrev bits_with : ℕ → ℕ → ℕ
bits_with number bits = bit_or bits (1 * 2 ^ number % 256)

abbrev is_with : Net → ℕ → Bool
is_with net bits = bytes_eq (nets_of (bits_with (net_number net) bits)) (with_net (nets_of bits) net) && nat_lt (bits_with (net_number net) bits) 128

each_with : (net : Net) (bits : ℕ) → bits < 128 → is_with net bits ≡ true
each_with Unroutable = each_below (is_with Unroutable) 128 refl
each_with Ipv4 = each_below (is_with Ipv4) 128 refl
each_with Ipv6 = each_below (is_with Ipv6) 128 refl
each_with Onion = each_below (is_with Onion) 128 refl
each_with I2p = each_below (is_with I2p) 128 refl
each_with Cjdns = each_below (is_with Cjdns) 128 refl
each_with Internal = each_below (is_with Internal) 128 refl

-- one more bit is one more network
pub nets_of-with : (bits : ℕ) (net : Net) → bits < 128 → nets_of (bits_with (net_number net) bits) ≡ with_net (nets_of bits) net
nets_of-with bits net below =
    (bytes_eq-Decides (nets_of (bits_with (net_number net) bits)) (with_net (nets_of bits) net)).0
    (and_parts _ _ (each_with net bits below)).0

pub bits_with-below : (bits : ℕ) (net : Net) → bits < 128 → bits_with (net_number net) bits < 128
bits_with-below bits net below = (Decides-ltb (bits_with (net_number net) bits) 128).0 (and_parts _ _ (each_with net bits below)).1

-- two sets are equal if their bits are
pub same_nets : (a b : ℕ) → a < 128 → b < 128 → (a == b) ≡ bytes_eq (nets_of a) (nets_of b)
same_nets a b below_a below_b =
    same_from_decides {P = nets_of a ≡ nets_of b} (a == b) (bytes_eq (nets_of a) (nets_of b))
    (λ h. ap nets_of ((Decides-eqb a b).0 h), λ e. (Decides-eqb a b).1 (sym (bits_of-nets_of a below_a) ∙ ap bits_of e ∙ bits_of-nets_of b below_b))
    (bytes_eq-Decides (nets_of a) (nets_of b))
