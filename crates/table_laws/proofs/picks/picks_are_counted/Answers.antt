use Rattle.table_laws.proofs.Picked.{new_words, tried_words}
use Rattle.table_laws.proofs.SomeOf.{some_words}
use Rattle.table_laws.proofs.picks.picks_are_counted.Goals as goal

pub returns-clause-new : goal.returns-clause-new
returns-clause-new c = λ st nets now factor r sound has wanted. new_words st sound nets now factor r has wanted

pub returns-clause-tried : goal.returns-clause-tried
returns-clause-tried c = λ st nets now factor r sound has wanted tried. tried_words st sound nets now factor r has wanted tried

pub returns-clause-some : goal.returns-clause-some
returns-clause-some c = λ st in_new nets now factor test sound. some_words st sound now factor test in_new nets
