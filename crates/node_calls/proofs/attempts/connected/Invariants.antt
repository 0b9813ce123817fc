use Rattle.node_calls.proofs.attempts.connected.Given as goal

-- the ledger that no other token is of
abbrev pub ghosts-count_connected : goal.ghosts-count_connected
ghosts-count_connected g a = record { name = a.blank.name; parts = a.blank.parts }
