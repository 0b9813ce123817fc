use Rattle.ban_laws.proofs.Names.{name_back}
use Rattle.ban_laws.proofs.law.names_are_read_back.Goals as goal

pub returns : goal.returns
returns c s proper name = name_back s proper name
