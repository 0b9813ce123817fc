use Rattle.std.proofs.Common.{subst}
use Rattle.placing.specs.Places.{IsPlaces}
use Rattle.placing.proofs.placer.Placer.key.Goals as goal

pub returns-clause-places : goal.returns-clause-places
returns-clause-places c = subst IsPlaces c.self.view_is c.self.invariant
