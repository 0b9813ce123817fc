use Rattle.std.proofs.Common.{◌*◌, ◌++◌, length, take}
use Rattle.sha2.specs.Hashers.{Holds256}
use Rattle.wire_num.specs.CompactSize.{compact_size}
use Rattle.placing.specs.Places.{bit_bytes}
use Rattle.placing.proofs.sum.hash_of_bits.Given as goal

abbrev pub invariant-loop-i : goal.invariant-loop-i
invariant-loop-i l =
    Holds256 l.hasher (compact_size (8 * length l.bytes) ++ bit_bytes (take l.i l.bytes))
