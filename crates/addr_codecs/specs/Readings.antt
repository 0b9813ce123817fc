-- What reading an address of `addrv2` from the start of the bytes gives.
use Rattle.std.specs.Prelude.{ℕ, List, Option, Result, Ok, Err, nat_le, if◌then◌else◌}
use Rattle.net_addr.specs.Address.{Address}
use Rattle.net_addr.specs.declared.net.Net.{Net}
use Rattle.wire_num.specs.Readings.{◌>>=◌, fault_as, bytes_at, byte_at, compact_at}
use Rattle.addr_codecs.specs.Faults.{in_address}
use Rattle.addr_codecs.specs.Network.{network_of, is_length, address_of}
use Rattle.addr_codecs.specs.declared.address_fault.AddressFault.{AddressFault}
use Rattle.addr_codecs.specs.declared.address_fault.AddressFault.TheVariants.{BadLength, TooLong}

-- Reads the length of an address: at most 512, and exactly that of its network if the network is
-- known (BIP 155).
unfoldable pub length_at : Option Net → List ℕ → Result (ℕ × List ℕ) AddressFault
length_at network bytes = do
  len ← fault_as in_address (compact_at bytes)
  if nat_le len.0 512
      then (if is_length network len.0 then Ok (len.0, len.1) else Err BadLength)
      else Err TooLong

-- Reads an address: the number of its network, its length, and its bytes (BIP 155). The address of
-- an unknown network is passed over.
unfoldable pub address_at : List ℕ → Result (Option Address × List ℕ) AddressFault
address_at bytes = do
  id ← fault_as in_address (byte_at bytes)
  len ← length_at (network_of id.0) id.1
  part ← fault_as in_address (bytes_at len.0 len.1)
  Ok (address_of (network_of id.0) part.0, part.1)
