use Rattle.node_calls.proofs.picks.clash_pick.Given as goal

-- the ledger that no other token is of
abbrev pub ghosts-count_clash_pick : goal.ghosts-count_clash_pick
ghosts-count_clash_pick g a = record { name = a.blank.name; parts = a.blank.parts }
