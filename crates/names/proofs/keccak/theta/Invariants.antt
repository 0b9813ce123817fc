use Rattle.names.specs.Keccak.{theta_lane}
use Rattle.names.proofs.Filling.{IsFilled}
use Rattle.names.proofs.keccak.theta.Given as goal

abbrev pub invariant-lanes : goal.invariant-lanes
invariant-lanes l = IsFilled (theta_lane l.a) l.out 25 l.i
