use Rattle.session_saves.proofs.saving.save.Given as goal

-- the ledger that no other token is of
abbrev pub ghosts-encode : goal.ghosts-encode
ghosts-encode g a = record { name = a.blank.name; parts = a.blank.parts }
