use Rattle.std.proofs.Common.{◌≡◌, take, sum_by}
use Rattle.risk_parts.specs.Leads.{class_starts}
use Rattle.risk_parts.proofs.leads.starts_for.Given as goal

abbrev pub invariant-loop-lead : goal.invariant-loop-lead
invariant-loop-lead l = l.sum ≡ sum_by (class_starts l.in_new l.chance) (take l.lead-index l.leads)
