use Rattle.node_calls.proofs.records.restore.Given as goal

-- the ledger that no other token is of
abbrev pub ghosts-count_restore : goal.ghosts-count_restore
ghosts-count_restore g a = record { name = a.blank.name; parts = a.blank.parts }
