-- What the numbers of faults in the header mean.
use Rattle.std.specs.Prelude.{ℕ}
use Rattle.addr_codecs.specs.declared.fault.MsgFault.{MsgFault}
use Rattle.addr_codecs.specs.declared.fault.MsgFault.TheVariants as msg
use Rattle.c_values.specs.declared.structs.AddrmanFault.{AddrmanFault}

-- a kind of fault, and what the header says of it
abbrev pub fault_at : ℕ → ℕ → AddrmanFault
fault_at kind at = record { kind = kind; at = at }

-- the number of a fault of a message in the header
abbrev pub fault_number : MsgFault → ℕ
fault_number msg.Truncated = 1
fault_number msg.NonCanonical = 2
fault_number msg.TooMany = 3
fault_number msg.BadLength = 4
fault_number msg.TooLong = 5
fault_number msg.Trailing = 6
fault_number msg.Memory = 0
