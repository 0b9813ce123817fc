use Rattle.raw_laws.proofs.Shown.{shown}
use Rattle.raw_laws.proofs.law.raw_is_shown.Goals as goal

pub returns : goal.returns
returns c = shown
