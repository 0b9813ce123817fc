use Rattle.opener_lines.proofs.opener_log.OpenerLogLineStepsUnit.carry_out.Given as goal

-- the ledger that no other token is of
abbrev pub ghosts-step : goal.ghosts-step
ghosts-step g a = record { name = a.blank.name; parts = a.blank.parts }
