use Rattle.addrman_run.proofs.tables_json.write_opened.Given as goal

abbrev pub ghosts-slots_text : goal.ghosts-slots_text
ghosts-slots_text g a = record { name = a.blank.name; parts = a.blank.parts }
