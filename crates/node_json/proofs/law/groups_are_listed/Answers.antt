use Rattle.node_json.proofs.Firsts.{lists-groups}
use Rattle.node_json.proofs.law.groups_are_listed.Goals as goal

pub returns : goal.returns
returns c = λ view. lists-groups view
