use Rattle.table_laws.proofs.Prefixes.{prefix_decides}
use Rattle.table_laws.proofs.words.first_words_decide.Goals as goal

pub returns : goal.returns
returns c = prefix_decides
