use Rattle.ban_laws.proofs.Lists.{reads_back}
use Rattle.ban_laws.proofs.law.lists_are_read_back.Goals as goal

pub returns : goal.returns
returns c old bans text are times names file = reads_back old bans text are times names file
