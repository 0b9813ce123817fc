use Rattle.node_calls.proofs.picks.select.Given as goal

-- the ledger that no other token is of
abbrev pub ghosts-count_select : goal.ghosts-count_select
ghosts-count_select g a = record { name = a.blank.name; parts = a.blank.parts }
