use Rattle.table_laws.proofs.SearchesOf.{by_bound, one_more_of, part_of}
use Rattle.table_laws.proofs.searches.searches_share_alike.Goals as goal

pub returns-clause-some : goal.returns-clause-some
returns-clause-some c = λ st in_new nets now factor n test sound. one_more_of st sound in_new nets now test factor n

pub returns-clause-part : goal.returns-clause-part
returns-clause-part c = λ st in_new nets now part whole n factor theirs all sound low each. part_of st sound in_new nets now part whole theirs all n factor low each

pub returns-clause-bound : goal.returns-clause-bound
returns-clause-bound c = λ st in_new nets now most n theirs sound few. by_bound st sound in_new nets now most theirs few n
