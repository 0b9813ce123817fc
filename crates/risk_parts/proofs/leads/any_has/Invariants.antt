use Rattle.std.proofs.Common.{◌≡◌, false, take}
use Rattle.risk_parts.specs.Sets.{any_by}
use Rattle.risk_parts.proofs.leads.any_has.Given as goal

-- none of the sets so far has it
abbrev pub invariant-loop-set : goal.invariant-loop-set
invariant-loop-set l = any_by (take l.set-index l.sets) l.addr l.number ≡ false
