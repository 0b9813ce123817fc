use Rattle.table_laws.proofs.Residues.{each_residue, pick_same, round_same}
use Rattle.table_laws.proofs.words.residues_decide.Goals as goal

pub returns-clause-round : goal.returns-clause-round
returns-clause-round c = round_same

pub returns-clause-pick : goal.returns-clause-pick
returns-clause-pick c = pick_same

pub returns-clause-even : goal.returns-clause-even
returns-clause-even c = each_residue
