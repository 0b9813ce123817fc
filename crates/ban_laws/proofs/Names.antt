-- The name of a subnet parses as the subnet.
use Rattle.std.proofs.Common.{◌≡◌, ℕ, ◌<◌, ◌≤◌, ◌^◌, List, [], ◌∷◌, ◌++◌, All, codes, decimal, length, map, refl, sym, ap, ◌∙◌, subst, arith, append-nil, inl, inr}
use Rattle.std.specs.Char.{to_ascii_lowercase}
use Rattle.std.proofs.lemmas.Fmt.{decimal_is_IsNumeral}
use Rattle.std.proofs.lemmas.List.Elements.{All-from_get_or, All-head, All-tail}
use Rattle.std.proofs.lemmas.Str.Ascii.{lowercase_is}
use Rattle.std.proofs.lemmas.Str.Parse.{digit_at}
use Rattle.net_addr.specs.Address.{Address, IsAddress}
use Rattle.net_addr.specs.OldForm.{address}
use Rattle.net_addr.specs.Text.{ipv4_text, ipv6_text}
use Rattle.net_addr.specs.declared.net.Net.{Net}
use Rattle.net_addr.specs.declared.net.Net.TheVariants.{Unroutable, Ipv4, Ipv6, Onion, I2p, Cjdns, Internal}
use Rattle.names.specs.Name.{HasOwnName, IsLettered, IsName, IsSuffix, name_text}
use Rattle.names.specs.Name.IsName.{dotted, colons, lettered}
use Rattle.names.proofs.Printed.{name_reads}
use Rattle.ban_list.specs.Subnet.{IsProper, IsWhole}
use Rattle.ban_list.specs.SubnetText.{IsNamedSubnet, IsNamedText, subnet_name}
use Rattle.ban_list.specs.declared.subnet.Subnet.{Subnet}
use Rattle.ban_laws.specs.Known.{HasName}
use Rattle.ban_list.proofs.Forms.{IsLow, low_colon_hex, printed_subnet}

-- ---- the last byte of a text

abbrev last : ℕ → List ℕ → ℕ
last d [] = d
last d (x ∷ xs) = last x xs

last_append : (d : ℕ) (xs : List ℕ) (y : ℕ) (ys : List ℕ) → last d (xs ++ y ∷ ys) ≡ last y ys
last_append d [] y ys = refl
last_append d (x ∷ xs) y ys = last_append x xs y ys

last_map : (d : ℕ) (xs : List ℕ) → last (to_ascii_lowercase d) (map to_ascii_lowercase xs) ≡ to_ascii_lowercase (last d xs)
last_map d [] = refl
last_map d (x ∷ xs) = last_map x xs

abbrev IsSmall : ℕ → Type 0
IsSmall c = c ≤ 57

last_small : (d : ℕ) (xs : List ℕ) → d ≤ 57 → All IsSmall xs → last d xs ≤ 57
last_small d [] h k = h
last_small d (x ∷ xs) h k = last_small x xs (All-head IsSmall x xs k) (All-tail IsSmall x xs k)

digits_small : (n : ℕ) → n < 2 ^ 64 → All IsSmall (decimal n)
digits_small n h = All-from_get_or IsSmall (decimal n) 0 λ i lt. let digit = digit_at (decimal n) i (decimal_is_IsNumeral n h).0.1 lt in omega arith

-- a text whose last byte is no letter has no suffix of a name
no_lower : (end : List ℕ) (suffix : List ℕ) (stem : List ℕ) → map to_ascii_lowercase end ≡ suffix → 0 < length suffix → 97 ≤ last 0 suffix → last 0 (stem ++ end) ≤ 57 → ⊥
no_lower [] suffix stem e some low small = omega (arith, ap length e)
no_lower (x ∷ xs) suffix stem e some low small =
    let there = last_append 0 stem x xs in
    let same : to_ascii_lowercase (last x xs) ≡ last 0 suffix = sym (last_map x xs) ∙ ap (last 0) e in
    omega (arith, there, same, (lowercase_is (last x xs)).1)

no_suffix : (net : Net) (stem end : List ℕ) → IsLettered net → IsSuffix net end → last 0 (stem ++ end) ≤ 57 → ⊥
no_suffix Onion stem end l h small = no_lower end (codes ".onion") stem (ap (map to_ascii_lowercase) h) (omega arith) (omega arith) small
no_suffix I2p stem end l h small = no_lower end (codes ".b32.i2p") stem h (omega arith) (omega arith) small
no_suffix Internal stem end l h small = no_lower end (codes ".internal") stem (ap (map to_ascii_lowercase) h) (omega arith) (omega arith) small
no_suffix Unroutable stem end l h small = absurd l
no_suffix Ipv4 stem end l h small = absurd l
no_suffix Ipv6 stem end l h small = absurd l
no_suffix Cjdns stem end l h small = absurd l

middle : (P : ℕ → Type 0) (xs : List ℕ) (y : ℕ) (ys : List ℕ) → All P (xs ++ y ∷ ys) → P y
middle P [] y ys h = All-head P y ys h
middle P (x ∷ xs) y ys h = middle P xs y ys (All-tail P x (xs ++ y ∷ ys) h)

-- a text with a slash and a length is no name of a whole address
module _ (ip : List ℕ) (len : ℕ) (few : len < 2 ^ 64) where
  no_name : (text : List ℕ) (a : Address) → text ≡ ip ++ 47 ∷ decimal len → IsWhole a.net → IsName text a → ⊥
  no_name text a e w (dotted h) = subst (λ (x : Address). IsWhole x.net) h.address w
  no_name text a e w (colons h) = (middle IsLow ip 47 (decimal len) (subst (All IsLow) e (low_colon_hex text _ h.bits_text.groups))).1 refl
  no_name text a e w (lettered net l h) =
      let ends = last_append 0 ip 47 (decimal len) in
      let small = last_small 47 (decimal len) (omega arith) (digits_small len few) in
      no_suffix net h.stem h.end l h.suffix (subst (λ (t : List ℕ). last 0 t ≤ 57) h.spelled (subst (λ (t : List ℕ). last 0 t ≤ 57) (sym e) (omega (arith, ends, small))))

  not_named : (named : Subnet) → IsNamedSubnet (ip ++ 47 ∷ decimal len) named → ⊥
  not_named named h = no_name (ip ++ 47 ∷ decimal len) named.addr refl h.network h.name

-- ---- by the network of the address

abbrev subnet : Net → List ℕ → ℕ → Subnet
subnet net bytes len = record { addr = address net bytes; len = len }

whole_back : (net : Net) (bytes : List ℕ) (len : ℕ) → IsWhole net → IsProper (subnet net bytes len) → IsAddress (address net bytes) → HasOwnName (address net bytes) → IsNamedSubnet (name_text (address net bytes) ++ []) (subnet net bytes len)
whole_back net bytes len w proper own name = record {
  name = subst (λ t. IsName t (address net bytes)) (sym (append-nil (name_text (address net bytes)))) (name_reads (address net bytes) own name);
  own = own;
  network = w;
  length = proper.whole w;
}

by_parts : (net : Net) (bytes : List ℕ) (len : ℕ) → IsProper (subnet net bytes len) → IsAddress (address net bytes) → (IsWhole net → HasOwnName (address net bytes)) → IsNamedText (subnet_name (subnet net bytes len)) (subnet net bytes len)
by_parts Unroutable bytes len p h name = absurd (h.network refl)
by_parts Ipv4 bytes len p h name = let few = p.len in inr (not_named (ipv4_text bytes) len (omega (arith, few)), printed_subnet (subnet Ipv4 bytes len) p h, λ w. w)
by_parts Ipv6 bytes len p h name = let few = p.len in inr (not_named (ipv6_text bytes) len (omega (arith, few)), printed_subnet (subnet Ipv6 bytes len) p h, λ w. w)
by_parts Onion bytes len p h name = inl (whole_back Onion bytes len tt p h (name tt))
by_parts I2p bytes len p h name = inl (whole_back I2p bytes len tt p h (name tt))
by_parts Cjdns bytes len p h name = inl (whole_back Cjdns bytes len tt p h (name tt))
by_parts Internal bytes len p h name = absurd (p.network refl)

pub name_back : (s : Subnet) → IsProper s → HasName s → IsNamedText (subnet_name s) s
name_back s proper name = by_parts s.addr.net s.addr.bytes s.len proper name.address name.own
