use Rattle.getaddr.proofs.asking.prepare.Given as goal

-- the ledger that no other token is of
abbrev pub ghosts-new_entries : goal.ghosts-new_entries
ghosts-new_entries g a = record { name = a.blank.name; parts = a.blank.parts }
