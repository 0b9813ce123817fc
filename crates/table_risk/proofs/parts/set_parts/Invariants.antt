use Rattle.table_risk.proofs.parts.set_parts.Given as goal

-- the ledger that no other token is of
abbrev pub ghosts-parts_of : goal.ghosts-parts_of
ghosts-parts_of g a = record { name = a.blank.name; parts = a.blank.parts }
