-- Worked examples: messages, and the first fault of others, computed by the check.
use Rattle.std.proofs.Common.{◌≡◌, ◌<◌, ℕ, List, [], ◌∷◌, ◌++◌, replicate, Some, None, Ok, Err, refl, rules}
use Rattle.net_addr.specs.OldForm.{address}
use Rattle.net_addr.specs.declared.net.Net.TheVariants.{Ipv4, Ipv6, Internal}
use Rattle.std.proofs.lemmas.List.Elements.{All-from_recursion}
use Rattle.wire_num.specs.CompactSize.{compact_size}
use Rattle.wire_num.specs.Readings.{all_of, times_at, compact_at}
use Rattle.wire_num.proofs.ReadingLaws.{AreBytes, AreBytes-all, reads_all}
use Rattle.addr_codecs.specs.Layout.{entry, message, addrv2_entry, IsAddrv2Message}
use Rattle.addr_codecs.specs.Texts.{addr_entry_text, message_text}
use Rattle.addr_codecs.specs.Readings.{address_at, length_at}
use Rattle.addr_codecs.specs.Inside.{addr_entry_at, addrv2_entry_at, message_at}
use Rattle.addr_codecs.specs.declared.fault.MsgFault.TheVariants.{Truncated, NonCanonical, TooMany, BadLength, TooLong, Trailing}
use Rattle.addr_codecs.proofs.MessageLaws.{Reads-message, Reads-addrv2_entry}

-- 1700000000
abbrev time : List ℕ
time = 0x00 ∷ 0xf1 ∷ 0x53 ∷ 0x65 ∷ []

-- 8333
abbrev port : List ℕ
port = 0x20 ∷ 0x8d ∷ []

-- four entries: 8.8.8.8 as IPv4, an unknown network, the mapped form of 8.8.8.8 and an internal
-- name as IPv6
abbrev four : List ℕ
four = 4 ∷ (time ++ 1 ∷ 1 ∷ 4 ∷ 8 ∷ 8 ∷ 8 ∷ 8 ∷ port
    ++ time ++ 0xfd ∷ 0x09 ∷ 0x04 ∷ 9 ∷ 2 ∷ 7 ∷ 7 ∷ port
    ++ time ++ 0 ∷ 2 ∷ 16 ∷ 0 ∷ 0 ∷ 0 ∷ 0 ∷ 0 ∷ 0 ∷ 0 ∷ 0 ∷ 0 ∷ 0 ∷ 0xff ∷ 0xff ∷ 8 ∷ 8 ∷ 8 ∷ 8 ∷ port
    ++ time ++ 0 ∷ 2 ∷ 16 ∷ 0xfd ∷ 0x6b ∷ 0x88 ∷ 0xc0 ∷ 0x87 ∷ 0x24 ∷ 1 ∷ 2 ∷ 3 ∷ 4 ∷ 5 ∷ 6 ∷ 7 ∷ 8 ∷ 9 ∷ 10 ∷ 0 ∷ 1 ∷ [])

four_are_read : all_of (message_at addrv2_entry_at) Trailing four
    ≡ Ok (Some (entry 1700000000 1 8333 (address Ipv4 (8 ∷ 8 ∷ 8 ∷ 8 ∷ []))) ∷ None ∷ None
    ∷ Some (entry 1700000000 0 1 (address Internal (1 ∷ 2 ∷ 3 ∷ 4 ∷ 5 ∷ 6 ∷ 7 ∷ 8 ∷ 9 ∷ 10 ∷ []))) ∷ [])
unfolding message_at addrv2_entry_at address_at length_at compact_at times_at
four_are_read = refl

four_bytes : AreBytes four
four_bytes = AreBytes-all four (All-from_recursion (λ b. b < 256) four (search rules))

-- the message is one of these entries, by the definition itself
four_are_a_message : IsAddrv2Message four (Some (entry 1700000000 1 8333 (address Ipv4 (8 ∷ 8 ∷ 8 ∷ 8 ∷ []))) ∷ None ∷ None
    ∷ Some (entry 1700000000 0 1 (address Internal (1 ∷ 2 ∷ 3 ∷ 4 ∷ 5 ∷ 6 ∷ 7 ∷ 8 ∷ 9 ∷ 10 ∷ []))) ∷ [])
four_are_a_message = (reads_all (message addrv2_entry) Trailing (message_at addrv2_entry_at) four (Reads-message addrv2_entry addrv2_entry_at Reads-addrv2_entry) four_bytes).found _ four_are_read

-- ---- `addr`: a Tor v2 address is read as IPv6 all zero

tor_v2 : List ℕ
tor_v2 = 1 ∷ (time ++ 1 ∷ 0 ∷ 0 ∷ 0 ∷ 0 ∷ 0 ∷ 0 ∷ 0 ∷ 0xfd ∷ 0x87 ∷ 0xd8 ∷ 0x7e ∷ 0xeb ∷ 0x43 ∷ 1 ∷ 2 ∷ 3 ∷ 4 ∷ 5 ∷ 6 ∷ 7 ∷ 8 ∷ 9 ∷ 10 ∷ port)

tor_v2_is_zero : all_of (message_at addr_entry_at) Trailing tor_v2 ≡ Ok (Some (entry 1700000000 1 8333 (address Ipv6 (replicate 16 0))) ∷ [])
unfolding message_at addr_entry_at compact_at times_at tor_v2
tor_v2_is_zero = refl

written_as_zero : message_text addr_entry_text (entry 1700000000 1 8333 (address Ipv6 (replicate 16 0)) ∷ []) ≡ 1 ∷ (time ++ 1 ∷ replicate 23 0 ++ port)
unfolding addr_entry_text compact_size
written_as_zero = refl

-- ---- the first fault

no_count : all_of (message_at addr_entry_at) Trailing [] ≡ Err Truncated
unfolding message_at compact_at
no_count = refl

long_count : all_of (message_at addr_entry_at) Trailing (0xfd ∷ 1 ∷ 0 ∷ []) ≡ Err NonCanonical
unfolding message_at compact_at
long_count = refl

count_of_1001 : all_of (message_at addr_entry_at) Trailing (0xfd ∷ 0xe9 ∷ 3 ∷ []) ≡ Err TooMany
unfolding message_at compact_at
count_of_1001 = refl

byte_after_no_entry : all_of (message_at addrv2_entry_at) Trailing (0 ∷ 0 ∷ []) ≡ Err Trailing
unfolding message_at compact_at times_at
byte_after_no_entry = refl

long_services : all_of (message_at addrv2_entry_at) Trailing (1 ∷ (time ++ 0xfd ∷ 1 ∷ 0 ∷ [])) ≡ Err NonCanonical
unfolding message_at addrv2_entry_at compact_at times_at
long_services = refl

-- a length is checked before its bytes
ipv4_of_five_bytes : all_of (message_at addrv2_entry_at) Trailing (1 ∷ (time ++ 1 ∷ 1 ∷ 5 ∷ [])) ≡ Err BadLength
unfolding message_at addrv2_entry_at address_at length_at compact_at times_at
ipv4_of_five_bytes = refl

length_of_513 : all_of (message_at addrv2_entry_at) Trailing (1 ∷ (time ++ 1 ∷ 9 ∷ 0xfd ∷ 1 ∷ 2 ∷ [])) ≡ Err TooLong
unfolding message_at addrv2_entry_at address_at length_at compact_at times_at
length_of_513 = refl

length_of_512_without_bytes : all_of (message_at addrv2_entry_at) Trailing (1 ∷ (time ++ 1 ∷ 9 ∷ 0xfd ∷ 0 ∷ 2 ∷ [])) ≡ Err Truncated
unfolding message_at addrv2_entry_at address_at length_at compact_at times_at
length_of_512_without_bytes = refl
