use Rattle.addrman_run.proofs.view_text.write_of_file.Given as goal

-- the ledger that no other token is of
abbrev pub ghosts-text_of : goal.ghosts-text_of
ghosts-text_of g a = record { name = a.blank.name; parts = a.blank.parts }
