-- The tests of an address at the ends of each range and next to them, each computed.
use Rattle.std.specs.Prelude.{◌≡◌, ℕ, true, false, not, List, [], ◌∷◌, map, replicate, Option, Some, None, refl}
use Rattle.std.specs.List.{list_all}
use Rattle.std.specs.Net.Addr.{octets_of}
use Rattle.net_addr.specs.Address.{Address}
use Rattle.net_addr.specs.OldForm.{address}
use Rattle.net_addr.specs.Ranges.{in_range, is_valid, is_local, is_routable, linked_ipv4, net_class}
use Rattle.net_addr.specs.declared.net.Net.TheVariants.{Ipv4, Ipv6, Unroutable, Onion, I2p, Cjdns, Internal}

abbrev ipv4 : ℕ → ℕ → ℕ → ℕ → Address
ipv4 a b c d = address Ipv4 (a ∷ b ∷ c ∷ d ∷ [])

-- an IPv6 address by its eight groups
abbrev ipv6 : ℕ → ℕ → ℕ → ℕ → ℕ → ℕ → ℕ → ℕ → Address
ipv6 a b c d e f g h = address Ipv6 (octets_of (a ∷ b ∷ c ∷ d ∷ e ∷ f ∷ g ∷ h ∷ []))

-- the first and the last address of each range that is reserved or this host
abbrev inside : List Address
inside =
    ipv4 10 0 0 0 ∷ ipv4 10 255 255 255 ∷ ipv4 172 16 0 0 ∷ ipv4 172 31 255 255 ∷ ipv4 192 168 0 0 ∷ ipv4 192 168 255 255 ∷
    ipv4 198 18 0 0 ∷ ipv4 198 19 255 255 ∷ ipv4 169 254 0 0 ∷ ipv4 169 254 255 255 ∷ ipv4 100 64 0 0 ∷ ipv4 100 127 255 255 ∷
    ipv4 192 0 2 0 ∷ ipv4 192 0 2 255 ∷ ipv4 198 51 100 0 ∷ ipv4 198 51 100 255 ∷ ipv4 203 0 113 0 ∷ ipv4 203 0 113 255 ∷
    ipv4 127 0 0 0 ∷ ipv4 127 255 255 255 ∷ ipv4 0 0 0 0 ∷ ipv4 0 255 255 255 ∷ []

-- their neighbours
abbrev outside : List Address
outside =
    ipv4 9 255 255 255 ∷ ipv4 11 0 0 0 ∷ ipv4 172 15 255 255 ∷ ipv4 172 32 0 0 ∷ ipv4 192 167 255 255 ∷ ipv4 192 169 0 0 ∷
    ipv4 198 17 255 255 ∷ ipv4 198 20 0 0 ∷ ipv4 169 253 255 255 ∷ ipv4 169 255 0 0 ∷ ipv4 100 63 255 255 ∷ ipv4 100 128 0 0 ∷
    ipv4 192 0 1 255 ∷ ipv4 192 0 3 0 ∷ ipv4 198 51 99 255 ∷ ipv4 198 51 101 0 ∷ ipv4 203 0 112 255 ∷ ipv4 203 0 114 0 ∷
    ipv4 126 255 255 255 ∷ ipv4 128 0 0 0 ∷ ipv4 1 0 0 0 ∷ []

not_routable_inside : list_all (λ a. not (is_routable a)) inside ≡ true
unfolding in_range
not_routable_inside = refl

routable_outside : list_all is_routable outside ≡ true
unfolding in_range
routable_outside = refl

no_address : map is_valid (ipv4 0 0 0 0 ∷ ipv4 255 255 255 255 ∷ ipv4 0 0 0 1 ∷ ipv4 255 255 255 254 ∷ []) ≡ false ∷ false ∷ true ∷ true ∷ []
unfolding in_range
no_address = refl

-- both ends of fe80::/64, fc00::/7, 2001:10::/28 and 2001:20::/28, and ::1
abbrev inside_ipv6 : List Address
inside_ipv6 =
    ipv6 0xfe80 0 0 0 0 0 0 0 ∷ ipv6 0xfe80 0 0 0 0xffff 0xffff 0xffff 0xffff ∷ ipv6 0xfc00 0 0 0 0 0 0 0 ∷ ipv6 0xfdff 0xffff 0xffff 0xffff 0xffff 0xffff 0xffff 0xffff ∷
    ipv6 0x2001 0x10 0 0 0 0 0 0 ∷ ipv6 0x2001 0x1f 0xffff 0xffff 0xffff 0xffff 0xffff 0xffff ∷ ipv6 0x2001 0x20 0 0 0 0 0 0 ∷ ipv6 0x2001 0x20 0 0 0 0 0 0 ∷
    ipv6 0x2001 0x2f 0xffff 0xffff 0xffff 0xffff 0xffff 0xffff ∷ ipv6 0x2001 0x1f 0xffff 0xffff 0xffff 0xffff 0xffff 0xffff ∷ ipv6 0 0 0 0 0 0 0 0x1 ∷ []

-- their neighbours, and those of 2001:db8::/32
abbrev outside_ipv6 : List Address
outside_ipv6 =
    ipv6 0xfe7f 0xffff 0xffff 0xffff 0xffff 0xffff 0xffff 0xffff ∷ ipv6 0xfe80 0 0 0x1 0 0 0 0 ∷ ipv6 0xfbff 0xffff 0xffff 0xffff 0xffff 0xffff 0xffff 0xffff ∷ ipv6 0xfe00 0 0 0 0 0 0 0 ∷
    ipv6 0x2001 0xf 0xffff 0xffff 0xffff 0xffff 0xffff 0xffff ∷ ipv6 0x2001 0x30 0 0 0 0 0 0 ∷ ipv6 0 0 0 0 0 0 0 0x2 ∷ ipv6 0x2001 0xdb7 0xffff 0xffff 0xffff 0xffff 0xffff 0xffff ∷
    ipv6 0x2001 0xdb9 0 0 0 0 0 0 ∷ []

not_routable_inside_ipv6 : list_all (λ a. not (is_routable a)) inside_ipv6 ≡ true
unfolding in_range
not_routable_inside_ipv6 = refl

routable_outside_ipv6 : list_all is_routable outside_ipv6 ≡ true
unfolding in_range
routable_outside_ipv6 = refl

-- :: and both ends of 2001:db8::/32
no_ipv6_address : list_all (λ a. not (is_valid a)) (ipv6 0 0 0 0 0 0 0 0 ∷ ipv6 0x2001 0xdb8 0 0 0 0 0 0 ∷ ipv6 0x2001 0xdb8 0xffff 0xffff 0xffff 0xffff 0xffff 0xffff ∷ []) ≡ true
unfolding in_range
no_ipv6_address = refl

-- this host, and the next address
this_host : map is_local (ipv6 0 0 0 0 0 0 0 1 ∷ ipv6 0 0 0 0 0 0 0 2 ∷ ipv4 127 0 0 1 ∷ ipv4 128 0 0 0 ∷ []) ≡ true ∷ false ∷ true ∷ false ∷ []
unfolding in_range
this_host = refl

-- an address, and the IPv4 address that it carries
abbrev linked_rows : List (Address × Option (List ℕ))
linked_rows =
    -- both ends of NAT64 64:ff9b::/96, an address between them, and their neighbours
    (ipv6 0x64 0xff9a 0xffff 0xffff 0xffff 0xffff 0xffff 0xffff, None) ∷
    (ipv6 0x64 0xff9b 0 0 0 0 0 0, Some (0 ∷ 0 ∷ 0 ∷ 0 ∷ [])) ∷
    (ipv6 0x64 0xff9b 0 0 0 0 0x102 0x304, Some (1 ∷ 2 ∷ 3 ∷ 4 ∷ [])) ∷
    (ipv6 0x64 0xff9b 0 0 0 0 0xffff 0xffff, Some (0xff ∷ 0xff ∷ 0xff ∷ 0xff ∷ [])) ∷
    (ipv6 0x64 0xff9b 0 0 0 0x1 0 0, None) ∷
    -- the same of SIIT ::ffff:0:0:0/96
    (ipv6 0 0 0 0 0xfffe 0xffff 0xffff 0xffff, None) ∷
    (ipv6 0 0 0 0 0xffff 0 0 0, Some (0 ∷ 0 ∷ 0 ∷ 0 ∷ [])) ∷
    (ipv6 0 0 0 0 0xffff 0 0x102 0x304, Some (1 ∷ 2 ∷ 3 ∷ 4 ∷ [])) ∷
    (ipv6 0 0 0 0 0xffff 0 0xffff 0xffff, Some (0xff ∷ 0xff ∷ 0xff ∷ 0xff ∷ [])) ∷
    (ipv6 0 0 0 0 0xffff 0x1 0 0, None) ∷
    -- of 6to4 2002::/16
    (ipv6 0x2001 0xffff 0xffff 0xffff 0xffff 0xffff 0xffff 0xffff, None) ∷
    (ipv6 0x2002 0 0 0 0 0 0 0, Some (0 ∷ 0 ∷ 0 ∷ 0 ∷ [])) ∷
    (ipv6 0x2002 0x102 0x304 0 0 0 0 0, Some (1 ∷ 2 ∷ 3 ∷ 4 ∷ [])) ∷
    (ipv6 0x2002 0xffff 0xffff 0xffff 0xffff 0xffff 0xffff 0xffff, Some (0xff ∷ 0xff ∷ 0xff ∷ 0xff ∷ [])) ∷
    (ipv6 0x2003 0 0 0 0 0 0 0, None) ∷
    -- and of Teredo 2001:0::/32, by the complement
    (ipv6 0x2000 0xffff 0xffff 0xffff 0xffff 0xffff 0xffff 0xffff, None) ∷
    (ipv6 0x2001 0 0 0 0 0 0 0, Some (0xff ∷ 0xff ∷ 0xff ∷ 0xff ∷ [])) ∷
    (ipv6 0x2001 0 0 0 0 0 0x102 0x304, Some (0xfe ∷ 0xfd ∷ 0xfc ∷ 0xfb ∷ [])) ∷
    (ipv6 0x2001 0 0xffff 0xffff 0xffff 0xffff 0xffff 0xffff, Some (0 ∷ 0 ∷ 0 ∷ 0 ∷ [])) ∷
    (ipv6 0x2001 0x1 0 0 0 0 0 0, None) ∷ []

linked : map (λ row. linked_ipv4 row.0) linked_rows ≡ map (λ row. row.1) linked_rows
unfolding in_range
linked = refl

-- a linked IPv4 address can be one that is not routed
linked_though_private : linked_ipv4 (ipv6 0x2002 0x0a00 1 0 0 0 0 0) ≡ Some (10 ∷ 0 ∷ 0 ∷ 1 ∷ [])
unfolding in_range
linked_though_private = refl

-- an address of CJDNS begins with fc
cjdns_without_fc : map net_class (address Cjdns (0xfc ∷ replicate 15 0) ∷ address Cjdns (0xfd ∷ replicate 15 0) ∷ address Cjdns (0xfb ∷ replicate 15 0) ∷ []) ≡ Cjdns ∷ Unroutable ∷ Unroutable ∷ []
unfolding in_range
cjdns_without_fc = refl

classes : map net_class (ipv4 8 8 8 8 ∷ ipv4 10 0 0 1 ∷ ipv6 0x2002 0x0102 0x0304 0 0 0 0 0 ∷ ipv6 0x2001 0x0470 0 0 0 0 0 1 ∷ address Onion (replicate 32 7) ∷ address I2p (replicate 32 7) ∷ address Internal (replicate 10 7) ∷ []) ≡ Ipv4 ∷ Unroutable ∷ Ipv4 ∷ Ipv6 ∷ Onion ∷ I2p ∷ Internal ∷ []
unfolding in_range
classes = refl
