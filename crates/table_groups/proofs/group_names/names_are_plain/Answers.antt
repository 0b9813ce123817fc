use Rattle.table_groups.proofs.PlainNames.{name-plain}
use Rattle.table_groups.proofs.group_names.names_are_plain.Goals as goal

pub returns : goal.returns
returns c places a is = name-plain places a is
