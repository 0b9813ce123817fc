use Rattle.std.proofs.Common.{refl}
use Rattle.table_laws.proofs.SearchOf.{all_more, one_more}
use Rattle.table_laws.proofs.searches.searches_are_counted.Goals as goal

pub returns-clause-none : goal.returns-clause-none
returns-clause-none c = λ st in_new nets now factor peer. refl

pub returns-clause-more : goal.returns-clause-more
returns-clause-more c = λ st in_new nets now factor n r sound has. one_more st sound in_new nets now r has factor n

pub returns-clause-all : goal.returns-clause-all
returns-clause-all c = all_more
