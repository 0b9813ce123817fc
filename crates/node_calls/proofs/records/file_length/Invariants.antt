use Rattle.node_calls.proofs.records.file_length.Given as goal

-- the ledger that no other token is of
abbrev pub ghosts-count_file_length : goal.ghosts-count_file_length
ghosts-count_file_length g a = record { name = a.blank.name; parts = a.blank.parts }
