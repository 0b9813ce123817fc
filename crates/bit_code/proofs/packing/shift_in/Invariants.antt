use Rattle.std.proofs.Common.{◌≡◌, ◌<◌, ◌^◌, ◌++◌, take, drop}
use Rattle.bit_code.specs.Coder.{file_bits, low_digits}
use Rattle.bit_code.proofs.packing.shift_in.Given as goal

abbrev pub invariant-loop-byte : goal.invariant-loop-byte
invariant-loop-byte l = record {
  bits : file_bits (take l.byte-index l.bytes) ++ low_digits l.rest_len l.left ≡ low_digits l.rest_len l.rest ++ file_bits (take l.byte-index l.initial.bytes);
  same : drop l.byte-index l.bytes ≡ drop l.byte-index l.initial.bytes;
  within : l.left < 2 ^ l.rest_len;
}
