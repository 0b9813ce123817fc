use Rattle.std.proofs.Common.{◌≡◌, map, take}
use Rattle.risk_parts.specs.Leads.{lead_of}
use Rattle.table_risk.proofs.leads.leads_of.Given as goal

abbrev pub invariant-loop-rec : goal.invariant-loop-rec
invariant-loop-rec g l = l.leads.items ≡ map (lead_of l.tables l.now) (take l.rec-index l.recs)
