use Rattle.std.proofs.Common.{◌≡◌, ◌+◌, ◌<◌, ◌^◌, ◌++◌, take, vec_len, vec_capacity}
use Rattle.bit_code.specs.Coder.{file_bits, low_digits}
use Rattle.bit_code.proofs.packing.append_bytes.Given as goal

abbrev pub invariant-loop-byte : goal.invariant-loop-byte
invariant-loop-byte l = record {
  bits : file_bits l.bytes.items ++ low_digits l.rest_len l.left ≡ file_bits l.initial.bytes.items ++ (low_digits l.rest_len l.rest ++ file_bits (take l.byte-index l.more));
  within : l.left < 2 ^ l.rest_len;
  len : vec_len l.bytes ≡ vec_len l.initial.bytes + l.byte-index;
  capacity : vec_capacity l.bytes ≡ vec_capacity l.initial.bytes;
}
