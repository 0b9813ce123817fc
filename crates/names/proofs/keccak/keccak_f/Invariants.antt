use Rattle.std.proofs.Common.{◌≡◌}
use Rattle.names.specs.Keccak.{keccak_f}
use Rattle.names.proofs.keccak.keccak_f.Given as goal

abbrev pub invariant-rounds : goal.invariant-rounds
invariant-rounds l = l.state ≡ keccak_f l.a l.index
