use Rattle.names.specs.Keccak.{chi_lane}
use Rattle.names.proofs.Filling.{IsFilled}
use Rattle.names.proofs.keccak.chi.Given as goal

abbrev pub invariant-lanes : goal.invariant-lanes
invariant-lanes l = IsFilled (chi_lane l.a) l.out 25 l.i
