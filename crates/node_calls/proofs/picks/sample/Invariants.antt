use Rattle.node_calls.proofs.picks.sample.Given as goal

-- the ledger that no other token is of
abbrev pub ghosts-count_sample : goal.ghosts-count_sample
ghosts-count_sample g a = record { name = a.blank.name; parts = a.blank.parts }
