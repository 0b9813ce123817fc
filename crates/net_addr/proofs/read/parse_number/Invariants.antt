use Rattle.std.proofs.Common.{◌≤◌}
use Rattle.net_addr.proofs.Numbers.{Reads}
use Rattle.net_addr.proofs.read.parse_number.Given as goal

abbrev pub invariant-loop-byte : goal.invariant-loop-byte
invariant-loop-byte l = record { small : l.value ≤ l.max; so_far : Reads l.text l.byte-index l.value }
