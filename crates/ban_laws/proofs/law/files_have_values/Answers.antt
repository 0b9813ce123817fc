use Rattle.ban_laws.proofs.Values.{has_value}
use Rattle.ban_laws.proofs.law.files_have_values.Goals as goal

pub returns : goal.returns
returns c old bans text times file = has_value old bans text times file
