-- The faults of numbers and bytes as faults of an address and of a message, and what an answer is
-- unless memory ran out.
use Rattle.std.specs.Prelude.{◌≡◌, ◌≢◌, Result, Err}
use Rattle.wire_num.specs.declared.fault.WireFault.{WireFault}
use Rattle.wire_num.specs.declared.fault.WireFault.TheVariants as wire
use Rattle.addr_codecs.specs.declared.address_fault.AddressFault.{AddressFault}
use Rattle.addr_codecs.specs.declared.address_fault.AddressFault.TheVariants as address
use Rattle.addr_codecs.specs.declared.fault.MsgFault.{MsgFault}
use Rattle.addr_codecs.specs.declared.fault.MsgFault.TheVariants.{Truncated, NonCanonical, BadLength, TooLong, Memory}

-- a fault of a field of an address
abbrev pub in_address : WireFault → AddressFault
in_address wire.Truncated = address.Truncated
in_address wire.NonCanonical = address.NonCanonical

-- a fault of a field of a message
abbrev pub of_wire : WireFault → MsgFault
of_wire wire.Truncated = Truncated
of_wire wire.NonCanonical = NonCanonical

-- a fault of an address in a message
abbrev pub of_address : AddressFault → MsgFault
of_address address.Truncated = Truncated
of_address address.NonCanonical = NonCanonical
of_address address.TooLong = TooLong
of_address address.BadLength = BadLength

-- the answer is this one, unless memory ran out
abbrev pub UnlessMemory : {A : Type 0} → Result A MsgFault → Result A MsgFault → Type 0
UnlessMemory answer this = answer ≢ Err Memory → answer ≡ this
