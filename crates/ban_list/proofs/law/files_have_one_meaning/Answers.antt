use Rattle.ban_list.proofs.MeaningLaws.{one_meaning}
use Rattle.ban_list.proofs.law.files_have_one_meaning.Goals as goal

pub returns : goal.returns
returns c = one_meaning
