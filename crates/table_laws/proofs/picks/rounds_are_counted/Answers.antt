use Rattle.table_laws.proofs.Rounds.{count-gap}
use Rattle.table_laws.proofs.picks.rounds_are_counted.Goals as goal

pub returns : goal.returns
returns c = λ at wanted picked n slot below wants picks only. count-gap at wanted picked slot wants picks only n below
