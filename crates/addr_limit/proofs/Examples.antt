-- Worked examples, computed over the definitions.
use Rattle.std.proofs.Common.{◌≡◌, ℕ, List, [], ◌∷◌, true, false, Some, Ok, codes, refl}
use Rattle.net_addr.specs.Address.{Address}
use Rattle.net_addr.specs.declared.peer.Entry.{Entry}
use Rattle.net_addr.specs.declared.net.Net.TheVariants.{Ipv4}
use Rattle.std.specs.Fmt.{digits}
use Rattle.hex.specs.Hex.{encode_with}
use Rattle.wire_num.specs.CompactSize.{compact_size}
use Rattle.addr_codecs.specs.Texts.{addrv2_entry_text, address_text}
use Rattle.addr_limit.specs.LogState.{LimitState, start}
use Rattle.addr_limit.specs.Steps.{after_event, output}
use Rattle.addr_limit.specs.declared.command.Event.{Event}
use Rattle.addr_limit.specs.declared.command.Event.TheVariants.{Now, Of}
use Rattle.addr_limit.specs.declared.command.LimitCommand.{LimitCommand}
use Rattle.addr_limit.specs.declared.command.LimitCommand.TheVariants.{Open, GetAddr, Message, Stat}

-- the outputs for events; a line that sets the clock has no text here
abbrev outputs : LimitState → List Event → List (List ℕ)
outputs st [] = []
outputs st (e ∷ es) = output st [] e ∷ outputs (after_event st e) es

abbrev us : Address
us = record { net = Ipv4; bytes = 1 ∷ 2 ∷ 3 ∷ 4 ∷ [] }

abbrev entry : Entry
entry = record { time = 1700000000; services = 1; peer = record { addr = record { net = Ipv4; bytes = 8 ∷ 8 ∷ 8 ∷ 8 ∷ [] }; port = 8333 } }

abbrev message : LimitCommand
message = Message (Ok (Some entry ∷ [])) (0 ∷ [])

a_token_is_spent : outputs start (Now 1700000000 ∷ Of 7 (Open us false) ∷ Of 7 message ∷ Of 7 message ∷ Of 7 Stat ∷ [])
    ≡ [] ∷ codes "# open 7" ∷ codes "addrv2 1.2.3.4 0100f1536501010408080808208d 0" ∷ codes "# from 7 none" ∷ codes "# stat 7 processed 1 limited 1 tenths 0" ∷ []
unfolding digits encode_with compact_size addrv2_entry_text address_text
a_token_is_spent = refl

ten_seconds_are_a_token : outputs start (Now 1700000000 ∷ Of 7 (Open us false) ∷ Of 7 message ∷ Now 1700000009 ∷ Of 7 message ∷ Of 7 Stat ∷ Now 1700000010 ∷ Of 7 message ∷ Of 7 Stat ∷ [])
    ≡ [] ∷ codes "# open 7" ∷ codes "addrv2 1.2.3.4 0100f1536501010408080808208d 0" ∷ [] ∷ codes "# from 7 none" ∷ codes "# stat 7 processed 1 limited 1 tenths 9"
    ∷ [] ∷ codes "addrv2 1.2.3.4 0100f1536501010408080808208d 0" ∷ codes "# stat 7 processed 2 limited 1 tenths 0" ∷ []
unfolding digits encode_with compact_size addrv2_entry_text address_text
ten_seconds_are_a_token = refl

unlimited_and_getaddr : outputs start (Of 8 (Open us true) ∷ Of 8 message ∷ Of 8 message ∷ Of 8 message ∷ Of 8 GetAddr ∷ Of 8 GetAddr ∷ Of 8 Stat ∷ Of 9 message ∷ [])
    ≡ codes "# open 8" ∷ codes "addrv2 1.2.3.4 0100f1536501010408080808208d 0" ∷ codes "addrv2 1.2.3.4 0100f1536501010408080808208d 0"
    ∷ codes "addrv2 1.2.3.4 0100f1536501010408080808208d 0" ∷ codes "# getaddr 8" ∷ codes "# getaddr 8 already" ∷ codes "# stat 8 processed 3 limited 0 tenths 10000" ∷ codes "# from 9 unknown" ∷ []
unfolding digits encode_with compact_size addrv2_entry_text address_text
unlimited_and_getaddr = refl
