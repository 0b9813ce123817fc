use Rattle.raw_laws.proofs.Texts.{read_back}
use Rattle.raw_laws.proofs.law.raw_is_read_back.Goals as goal

pub returns : goal.returns
returns c = read_back
