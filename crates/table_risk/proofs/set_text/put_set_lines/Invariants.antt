use Rattle.std.proofs.Common.{◌≡◌, ◌++◌, ℕ, take}
use Rattle.std.specs.List.{flat_map}
use Rattle.risk_parts.specs.Leads.{AreLeads}
use Rattle.table_machine.specs.State.{State}
use Rattle.table_risk.specs.SetTexts.{line_at}
use Rattle.table_risk.proofs.set_text.put_set_lines.Given as goal

-- the lines so far
abbrev pub invariant-loop-set : goal.invariant-loop-set
invariant-loop-set l =
    (st : State) (now : ℕ) → AreLeads st now l.leads l.new l.tried l.wanted
    → l.out.items ≡ l.fn.out.items ++ flat_map (line_at st now) (take l.set-index l.sets)
