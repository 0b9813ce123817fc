-- Texts that are read as an address but are not how it is printed.
use Rattle.std.specs.Prelude.{ℕ, ◌-◌, ◌<◌, List, [], ◌∷◌, ◌++◌, length, replicate, true, codes, refl}
use Rattle.std.specs.Net.Grammar.{IsGroups, IsColonHex}
use Rattle.std.proofs.Common.{arith, rules, inl, inr}
use Rattle.net_addr.specs.OldForm.{address}
use Rattle.net_addr.specs.Text.{IsIpv6Text, IsAddrText}
use Rattle.net_addr.specs.Text.IsAddrText.{bracketed}
use Rattle.net_addr.specs.declared.net.Net.TheVariants.{Ipv4}

-- `::` for all groups but the last ones
after_colons : (text groups : List ℕ) → IsGroups true text groups → length groups < 8 → IsColonHex (codes "::" ++ text) (replicate (8 - length groups) 0 ++ groups)
after_colons text groups spelled room = inr (record {
  head_text = [];
  tail_text = text;
  head = [];
  tail = groups;
  spelled = refl;
  head_groups = refl;
  tail_groups = spelled;
  room = omega (arith, room);
  value = refl;
})

-- `::` for seven groups, and a group with leading zeros
zeros_before_one : IsIpv6Text (codes "::0001") 1
zeros_before_one = record {
  small = omega arith;
  groups = after_colons (codes "0001") (1 ∷ []) (inl (codes "0001", [], refl, omega arith, refl)) (omega arith);
  no_dots = search rules;
}

-- the mapped form of 1.2.3.4, in upper and lower case, is 1.2.3.4
mapped_is_ipv4 : IsAddrText (codes "[::FFff:102:304]") (address Ipv4 (1 ∷ 2 ∷ 3 ∷ 4 ∷ []))
mapped_is_ipv4 = bracketed (record {
  inner = codes "::FFff:102:304";
  bits = 0xffff01020304;
  spelled = refl;
  bits_text = record {
    small = omega arith;
    groups = after_colons (codes "FFff:102:304") (0xffff ∷ 0x102 ∷ 0x304 ∷ [])
        (inl (codes "FFff", codes ":102:304", refl, omega arith, inl (codes "102", codes ":304", refl, omega arith, inl (codes "304", [], refl, omega arith, refl)))) (omega arith);
    no_dots = search rules;
  };
  address = refl;
})
