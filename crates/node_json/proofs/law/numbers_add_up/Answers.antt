use Rattle.node_json.proofs.Sums.{numbers_add_up}
use Rattle.node_json.proofs.law.numbers_add_up.Goals as goal

pub returns : goal.returns
returns c = λ numbers. numbers_add_up numbers
