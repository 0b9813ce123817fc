use Rattle.std.proofs.Common.{ap, ◌∙◌}
use Rattle.table_groups.specs.Tally.{by_bytes}
use Rattle.table_groups.proofs.Values.{insert-bytes}
use Rattle.table_groups.proofs.tally.put_value.Goals as goal

pub returns : goal.returns
returns g c = ap by_bytes c.in_ok-insert.ensures.entries ∙ insert-bytes c.args.tally.now.entries c.args.group c.args.value
