use Rattle.std.proofs.Common.{sym}
use Rattle.table_groups.proofs.Values.{found, missing}
use Rattle.table_groups.proofs.tally.value_of.Goals as goal

pub returns-in-Some : goal.returns-in-Some
returns-in-Some g c = found c.args.tally.now.entries c.args.group.now c.args.none c.in-Some.value.now (sym c.in-Some.ensures.value)

pub returns-in-None : goal.returns-in-None
returns-in-None g c = missing c.args.tally.now.entries c.args.group.now c.args.none (sym c.in-None.ensures.value)
