use Rattle.std.proofs.Common.{◌≡◌, ◌+◌, ◌*◌, ◌++◌, length}
use Rattle.arrayvec.specs.ArrayVec.{array_vec_len}
use Rattle.names.specs.Base32.{base32}
use Rattle.names.proofs.base32.encode.Given as goal

abbrev pub invariant-loop-rest : goal.invariant-loop-rest
invariant-loop-rest l =
    (l.text.items ++ base32 l.rest ≡ base32 l.bytes)
    × (5 * array_vec_len l.text + 8 * length l.rest ≡ 8 * length l.bytes)

abbrev pub decreases-loop-rest : goal.decreases-loop-rest
decreases-loop-rest l = length l.rest
