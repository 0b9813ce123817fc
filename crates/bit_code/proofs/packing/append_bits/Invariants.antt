use Rattle.std.proofs.Common.{◌≡◌, ◌+◌, ◌*◌, ◌++◌, vec_len, vec_capacity}
use Rattle.bit_code.specs.Coder.{file_bits, low_digits}
use Rattle.bit_code.proofs.packing.append_bits.Given as goal

abbrev pub invariant-loop-k : goal.invariant-loop-k
invariant-loop-k l = record {
  bits : file_bits l.bytes.items ≡ file_bits l.initial.bytes.items ++ low_digits (8 * l.k) l.bits;
  len : vec_len l.bytes ≡ vec_len l.initial.bytes + l.k;
  capacity : vec_capacity l.bytes ≡ vec_capacity l.initial.bytes;
}
