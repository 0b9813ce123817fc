use Rattle.std.proofs.Common.{◌≢◌, All, drop}
use Rattle.net_addr.proofs.read.around_last.Given as goal

-- the byte is not in the part that was searched
abbrev pub invariant-loop-i : goal.invariant-loop-i
invariant-loop-i l = All (λ c. c ≢ l.byte) (drop l.i l.text)
