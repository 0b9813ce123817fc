use Rattle.names.proofs.Readings.{one_text}
use Rattle.names.proofs.law.texts_have_one_meaning.Goals as goal

pub returns : goal.returns
returns c = λ text a b h k. one_text text a b h k
