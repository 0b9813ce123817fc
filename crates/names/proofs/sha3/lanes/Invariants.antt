use Rattle.names.specs.Keccak.{block_lane}
use Rattle.names.proofs.Filling.{IsFilled}
use Rattle.names.proofs.sha3.lanes.Given as goal

abbrev pub invariant-lanes : goal.invariant-lanes
invariant-lanes l = IsFilled (block_lane l.block) l.out 25 l.i
