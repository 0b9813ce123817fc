-- The faults of fields as faults of a file.
use Rattle.std.specs.Prelude.{◌≡◌, ◌≢◌, ℕ, Result, Err}
use Rattle.wire_num.specs.declared.fault.WireFault.{WireFault}
use Rattle.wire_num.specs.declared.fault.WireFault.TheVariants as wire
use Rattle.addr_codecs.specs.declared.address_fault.AddressFault.{AddressFault}
use Rattle.addr_codecs.specs.declared.address_fault.AddressFault.TheVariants as address
use Rattle.anchors.specs.declared.fault.AnchorsFault.{AnchorsFault}
use Rattle.anchors.specs.declared.fault.AnchorsFault.TheVariants.{Truncated, Count, Anchor, Memory}
use Rattle.anchors.specs.declared.fault.AnchorCause.TheVariants as cause

-- a fault of the number of anchors
abbrev pub of_count : WireFault → AnchorsFault
of_count wire.Truncated = Truncated
of_count wire.NonCanonical = Count

-- a fault of a number in the anchor of an index
abbrev pub of_number : ℕ → WireFault → AnchorsFault
of_number i wire.Truncated = Anchor i cause.Truncated
of_number i wire.NonCanonical = Anchor i cause.NonCanonical

-- a fault of the address in the anchor of an index
abbrev pub of_address : ℕ → AddressFault → AnchorsFault
of_address i address.Truncated = Anchor i cause.Truncated
of_address i address.NonCanonical = Anchor i cause.NonCanonical
of_address i address.TooLong = Anchor i cause.TooLong
of_address i address.BadLength = Anchor i cause.BadLength

-- the answer is this one, unless memory ran out
abbrev pub UnlessMemory : {A : Type 0} → Result A AnchorsFault → Result A AnchorsFault → Type 0
UnlessMemory answer this = answer ≢ Err Memory → answer ≡ this
