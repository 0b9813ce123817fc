use Rattle.node_calls.proofs.records.recs.Given as goal

-- the ledger that no other token is of
abbrev pub ghosts-count_recs : goal.ghosts-count_recs
ghosts-count_recs g a = record { name = a.blank.name; parts = a.blank.parts }
