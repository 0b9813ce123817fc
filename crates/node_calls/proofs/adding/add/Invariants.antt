use Rattle.node_calls.proofs.adding.add.Given as goal

-- the ledger that no other token is of
abbrev pub ghosts-count_add : goal.ghosts-count_add
ghosts-count_add g a = record { name = a.blank.name; parts = a.blank.parts }
