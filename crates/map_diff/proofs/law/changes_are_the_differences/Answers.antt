use Rattle.map_diff.specs.Diff.{map_of}
use Rattle.map_diff.proofs.DiffLaws.{changes_exact}
use Rattle.map_diff.proofs.Constant.{changes_are}
use Rattle.map_diff.proofs.Fewest.{fewest}
use Rattle.map_diff.proofs.law.changes_are_the_differences.Goals as goal

pub returns-clause-exact : goal.returns-clause-exact
returns-clause-exact c = λ old new bits long. changes_exact 128 (map_of old) (map_of new) bits long

pub returns-clause-constant : goal.returns-clause-constant
returns-clause-constant c = λ old new. changes_are 128 (map_of old) (map_of new)

pub returns-clause-fewest : goal.returns-clause-fewest
returns-clause-fewest c = λ old new others are. fewest 128 (map_of old) (map_of new) others are
