use Rattle.addr_answers.proofs.Told.{few}
use Rattle.addr_answers.proofs.answers.Answers.told.Goals as goal

pub returns-in-Some-clause-few : goal.returns-in-Some-clause-few
returns-in-Some-clause-few c = few c.args.key c.args.now c.args.self.now c.in-Some.entries.now c.in-Some.ensures.sound c.in-Some.ensures.found
