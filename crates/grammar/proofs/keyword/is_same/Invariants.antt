use Rattle.std.proofs.Common.{◌≡◌, length}
use Rattle.std.specs.Prelude.{bytes_eq}
use Rattle.grammar.proofs.keyword.is_same.Given as goal

-- what is left of the texts is the same exactly if they are
abbrev pub invariant-loop-left : goal.invariant-loop-left
invariant-loop-left l = bytes_eq l.left l.right ≡ bytes_eq l.one l.other

abbrev pub decreases-loop-left : goal.decreases-loop-left
decreases-loop-left l = length l.left
