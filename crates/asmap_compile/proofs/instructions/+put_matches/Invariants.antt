use Rattle.std.proofs.Common.{◌-◌}
use Rattle.asmap_compile.proofs.instructions.+put_matches.Given as goal

abbrev pub decreases-put_matches : goal.decreases-put_matches
decreases-put_matches l = l.to - l.from
