use Rattle.node_calls.proofs.attempts.good.Given as goal

-- the ledger that no other token is of
abbrev pub ghosts-count_good : goal.ghosts-count_good
ghosts-count_good g a = record { name = a.blank.name; parts = a.blank.parts }
