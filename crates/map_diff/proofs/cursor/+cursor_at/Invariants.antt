use Rattle.std.proofs.Common.{◌-◌, length}
use Rattle.map_diff.proofs.cursor.+cursor_at.Given as goal

abbrev pub decreases-cursor_at : goal.decreases-cursor_at
decreases-cursor_at l = length l.bits.now - l.offset
