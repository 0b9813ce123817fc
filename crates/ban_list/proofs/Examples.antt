-- Worked examples of subnets, computed by the checker.
use Rattle.std.proofs.Common.{◌≡◌, ℕ, true, false, List, [], ◌∷◌, replicate, refl}
use Rattle.net_addr.specs.OldForm.{address}
use Rattle.net_addr.specs.Ranges.{in_range}
use Rattle.net_addr.specs.declared.net.Net.{Net}
use Rattle.net_addr.specs.declared.net.Net.TheVariants.{Ipv4, Ipv6}
use Rattle.ban_list.specs.Subnet.{clear, covers}
use Rattle.ban_list.specs.declared.subnet.Subnet.{Subnet}

abbrev subnet : Net → List ℕ → ℕ → Subnet
subnet net bytes len = record { addr = address net bytes; len = len }

-- 1.2.3.4/24 is 1.2.3.0/24, 255.255.255.255/13 is 255.248.0.0/13, and nothing is left at length 0
host_bits : clear 24 (1 ∷ 2 ∷ 3 ∷ 4 ∷ []) ≡ 1 ∷ 2 ∷ 3 ∷ 0 ∷ []
unfolding clear
host_bits = refl

part_of_a_byte : clear 13 (255 ∷ 255 ∷ 255 ∷ 255 ∷ []) ≡ 255 ∷ 248 ∷ 0 ∷ 0 ∷ []
unfolding clear
part_of_a_byte = refl

length_zero : clear 0 (1 ∷ 2 ∷ 3 ∷ 4 ∷ []) ≡ 0 ∷ 0 ∷ 0 ∷ 0 ∷ []
unfolding clear
length_zero = refl

length_whole : clear 32 (1 ∷ 2 ∷ 3 ∷ 4 ∷ []) ≡ 1 ∷ 2 ∷ 3 ∷ 4 ∷ []
unfolding clear
length_whole = refl

-- fd6b:88c0:8727::/46 begins with the internal prefix, fd6b:88c0:8727::/48 does not
internal_after_clearing : clear 46 (0xfd ∷ 0x6b ∷ 0x88 ∷ 0xc0 ∷ 0x87 ∷ 0x27 ∷ []) ≡ 0xfd ∷ 0x6b ∷ 0x88 ∷ 0xc0 ∷ 0x87 ∷ 0x24 ∷ []
unfolding clear
internal_after_clearing = refl

not_internal : clear 48 (0xfd ∷ 0x6b ∷ 0x88 ∷ 0xc0 ∷ 0x87 ∷ 0x27 ∷ []) ≡ 0xfd ∷ 0x6b ∷ 0x88 ∷ 0xc0 ∷ 0x87 ∷ 0x27 ∷ []
unfolding clear
not_internal = refl

-- 1.2.3.0/24 covers 1.2.3.99 and not 1.2.4.1, and 0.0.0.0/0 covers no IPv6 address
covers_last_byte : covers (subnet Ipv4 (1 ∷ 2 ∷ 3 ∷ 0 ∷ []) 24) (address Ipv4 (1 ∷ 2 ∷ 3 ∷ 99 ∷ [])) ≡ true
unfolding in_range
covers_last_byte = refl

not_the_next : covers (subnet Ipv4 (1 ∷ 2 ∷ 3 ∷ 0 ∷ []) 24) (address Ipv4 (1 ∷ 2 ∷ 4 ∷ 1 ∷ [])) ≡ false
unfolding in_range
not_the_next = refl

not_another_network : covers (subnet Ipv4 (0 ∷ 0 ∷ 0 ∷ 0 ∷ []) 0) (address Ipv6 (replicate 16 0)) ≡ false
unfolding in_range
not_another_network = refl
