use Rattle.table_risk.proofs.ten.shares_of.Goals as goal

pub both_shares-requires-clause-new : goal.both_shares-requires-clause-new
both_shares-requires-clause-new g c = c.requires.new c.in-Some.group.now.items

pub both_shares-requires-clause-tried : goal.both_shares-requires-clause-tried
both_shares-requires-clause-tried g c = c.requires.tried c.in-Some.group.now.items
