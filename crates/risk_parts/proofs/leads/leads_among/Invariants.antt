use Rattle.std.proofs.Common.{◌≡◌, take}
use Rattle.risk_parts.specs.Leads.{among}
use Rattle.risk_parts.proofs.leads.leads_among.Given as goal

abbrev pub invariant-loop-lead : goal.invariant-loop-lead
invariant-loop-lead l = l.found.items ≡ among (take l.lead-index l.leads) l.sets
