-- The faults of fields as faults of a file.
use Rattle.std.specs.Prelude.{◌≡◌, ◌≢◌, ℕ, Result, Err}
use Rattle.wire_num.specs.declared.fault.WireFault.{WireFault}
use Rattle.wire_num.specs.declared.fault.WireFault.TheVariants as wire
use Rattle.addr_codecs.specs.declared.address_fault.AddressFault.{AddressFault}
use Rattle.addr_codecs.specs.declared.address_fault.AddressFault.TheVariants as address
use Rattle.peers_file.specs.declared.fault.FileFault.{FileFault}
use Rattle.peers_file.specs.declared.fault.FileFault.TheVariants.{Truncated, Record, Memory}
use Rattle.peers_file.specs.declared.fault.RecordCause.TheVariants as cause

-- a fault of a field that has no CompactSize
abbrev pub of_field : WireFault → FileFault
of_field f = Truncated

-- a fault of a CompactSize in the record of an index
abbrev pub of_number : ℕ → WireFault → FileFault
of_number i wire.Truncated = Truncated
of_number i wire.NonCanonical = Record i cause.NonCanonical

-- a fault of an address in the record of an index
abbrev pub of_address : ℕ → AddressFault → FileFault
of_address i address.Truncated = Truncated
of_address i address.NonCanonical = Record i cause.NonCanonical
of_address i address.TooLong = Record i cause.TooLong
of_address i address.BadLength = Record i cause.BadLength

-- the answer is this one, unless memory ran out
abbrev pub UnlessMemory : {A : Type 0} → Result A FileFault → Result A FileFault → Type 0
UnlessMemory answer this = answer ≢ Err Memory → answer ≡ this
