use Rattle.node_calls.proofs.adding.take_message.Given as goal

-- the ledger that no other token is of
abbrev pub ghosts-count_take_message : goal.ghosts-count_take_message
ghosts-count_take_message g a = record { name = a.blank.name; parts = a.blank.parts }
