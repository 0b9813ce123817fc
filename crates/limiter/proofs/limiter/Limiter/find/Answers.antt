use Rattle.std.proofs.Common.{subst}
use Rattle.limiter.specs.State.{AreRising}
use Rattle.limiter.proofs.Entries.{are_rising}
use Rattle.limiter.proofs.limiter.Limiter.find.Goals as goal

pub returns-clause-rising : goal.returns-clause-rising
returns-clause-rising g c = subst AreRising c.self.view_is (are_rising c.self.inside.conns.entries)
