use Rattle.risk_laws.proofs.ListsOf.{all_lists_are, by_both, by_few, by_more}
use Rattle.risk_laws.proofs.laws.lists_are_counted.Goals as goal

pub returns-clause-few : goal.returns-clause-few
returns-clause-few c = by_few

pub returns-clause-more : goal.returns-clause-more
returns-clause-more c = by_more

pub returns-clause-either : goal.returns-clause-either
returns-clause-either c = by_both

pub returns-clause-all : goal.returns-clause-all
returns-clause-all c = all_lists_are
