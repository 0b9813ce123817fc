use Rattle.names.specs.Keccak.{moved_lane}
use Rattle.names.proofs.Filling.{IsFilled}
use Rattle.names.proofs.keccak.moved.Given as goal

abbrev pub invariant-lanes : goal.invariant-lanes
invariant-lanes l = IsFilled (moved_lane l.a) l.out 25 l.i
