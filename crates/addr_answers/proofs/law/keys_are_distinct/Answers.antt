use Rattle.addr_answers.proofs.Keys.{distinct}
use Rattle.addr_answers.proofs.law.keys_are_distinct.Goals as goal

pub returns : goal.returns
returns c = distinct
