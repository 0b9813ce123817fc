use Rattle.node_calls.proofs.attempts.services.Given as goal

-- the ledger that no other token is of
abbrev pub ghosts-count_services : goal.ghosts-count_services
ghosts-count_services g a = record { name = a.blank.name; parts = a.blank.parts }
