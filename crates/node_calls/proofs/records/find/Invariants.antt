use Rattle.node_calls.proofs.records.find.Given as goal

-- the ledger that no other token is of
abbrev pub ghosts-count_find : goal.ghosts-count_find
ghosts-count_find g a = record { name = a.blank.name; parts = a.blank.parts }
