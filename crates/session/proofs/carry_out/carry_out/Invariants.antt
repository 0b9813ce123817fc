use Rattle.session.proofs.carry_out.carry_out.Given as goal

-- the ledger that no other token is of
abbrev pub ghosts-apply : goal.ghosts-apply
ghosts-apply g a = record { name = a.blank.name; parts = a.blank.parts }
