use Rattle.std.proofs.Common.{rules}
use Rattle.addrman_run.specs.Check.{check_text}
use Rattle.addrman_run.proofs.check.line_of.Goals as goal

pub returns : goal.returns
unfolding check_text
returns c = search rules
