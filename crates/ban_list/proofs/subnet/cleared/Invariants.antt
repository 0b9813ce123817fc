use Rattle.std.proofs.Common.{◌≡◌, ◌-◌, ◌*◌, take}
use Rattle.arrayvec.specs.ArrayVec.{array_vec_len}
use Rattle.ban_list.specs.Subnet.{clear}
use Rattle.ban_list.proofs.subnet.cleared.Given as goal

-- so many bytes are cleared
abbrev pub invariant-loop-byte : goal.invariant-loop-byte
invariant-loop-byte l = record {
  so_far : l.masked.items ≡ take l.byte-index (clear l.len l.bytes);
  count : array_vec_len l.masked ≡ l.byte-index;
  left : l.left ≡ l.len - 8 * l.byte-index;
}
