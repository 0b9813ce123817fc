use Rattle.node_calls.proofs.picks.resolve.Given as goal

-- the ledger that no other token is of
abbrev pub ghosts-count_resolve : goal.ghosts-count_resolve
ghosts-count_resolve g a = record { name = a.blank.name; parts = a.blank.parts }
