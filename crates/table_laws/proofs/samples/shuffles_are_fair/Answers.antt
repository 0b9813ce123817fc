use Rattle.table_laws.proofs.Exchanges.{by_words, each_arrangement, no_two}
use Rattle.table_laws.proofs.samples.shuffles_are_fair.Goals as goal

pub returns-clause-words : goal.returns-clause-words
returns-clause-words c = by_words

pub returns-clause-some : goal.returns-clause-some
returns-clause-some c = each_arrangement

pub returns-clause-one : goal.returns-clause-one
returns-clause-one c = no_two
