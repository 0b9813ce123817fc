use Rattle.addrman_run.proofs.opening.open_tables.Given as goal

-- the ledger that no other token is of
abbrev pub ghosts-restore_tables : goal.ghosts-restore_tables
ghosts-restore_tables g a = record { name = a.blank.name; parts = a.blank.parts }
