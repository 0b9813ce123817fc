use Rattle.test_values.proofs.index_calls.answer.Given as goal

-- the ledger that no other token is of
abbrev pub ghosts-answer_counted : goal.ghosts-answer_counted
ghosts-answer_counted a = record { name = a.blank.name; parts = a.blank.parts }
