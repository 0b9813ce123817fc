use Rattle.table_risk.proofs.rows.rows_in.Goals as goal

pub row_in-requires-clause-new : goal.row_in-requires-clause-new
row_in-requires-clause-new g c = c.requires.new c.in-Some.group.now.items

pub row_in-requires-clause-tried : goal.row_in-requires-clause-tried
row_in-requires-clause-tried g c = c.requires.tried c.in-Some.group.now.items
