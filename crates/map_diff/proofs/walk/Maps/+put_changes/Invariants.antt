use Rattle.std.proofs.Common.{◌-◌}
use Rattle.map_diff.proofs.walk.Maps.+put_changes.Given as goal

abbrev pub decreases-put_changes : goal.decreases-put_changes
decreases-put_changes l = 128 - l.at.len
