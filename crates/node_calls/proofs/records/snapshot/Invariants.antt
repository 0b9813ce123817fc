use Rattle.node_calls.proofs.records.snapshot.Given as goal

-- the ledger that no other token is of
abbrev pub ghosts-count_snapshot : goal.ghosts-count_snapshot
ghosts-count_snapshot g a = record { name = a.blank.name; parts = a.blank.parts }
