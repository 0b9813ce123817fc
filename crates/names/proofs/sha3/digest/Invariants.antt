use Rattle.std.proofs.Common.{◌≡◌, ◌*◌, length, take}
use Rattle.names.specs.Keccak.{digest}
use Rattle.names.proofs.sha3.digest.Given as goal

abbrev pub invariant-words : goal.invariant-words
invariant-words l = (length l.out ≡ 32) × (take (8 * l.i) l.out ≡ digest l.state l.i)
