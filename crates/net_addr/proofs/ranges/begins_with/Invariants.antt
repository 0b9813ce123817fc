use Rattle.std.proofs.Common.{◌≡◌, ◌==◌, length}
use Rattle.std.specs.List.{starts_with}
use Rattle.net_addr.proofs.ranges.begins_with.Given as goal

-- what is left of the bytes begins with what is left of the others exactly if they do
abbrev pub invariant-loop-right : goal.invariant-loop-right
invariant-loop-right l = starts_with ◌==◌ l.left l.right ≡ starts_with ◌==◌ l.bytes l.others

abbrev pub decreases-loop-right : goal.decreases-loop-right
decreases-loop-right l = length l.right
