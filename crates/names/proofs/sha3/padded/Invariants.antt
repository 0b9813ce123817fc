use Rattle.names.specs.Keccak.{padded_byte}
use Rattle.names.proofs.Filling.{IsFilled}
use Rattle.names.proofs.sha3.padded.Given as goal

abbrev pub invariant-bytes : goal.invariant-bytes
invariant-bytes l = IsFilled (padded_byte l.message) l.block 136 l.i
