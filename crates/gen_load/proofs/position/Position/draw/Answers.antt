use Rattle.std.proofs.Common.{◌%◌, ap}
use Rattle.gen_load.specs.Log.{draw, past}
use Rattle.gen_load.proofs.position.Position.draw.Goals as goal

pub returns-clause-value : goal.returns-clause-value
unfolding draw
returns-clause-value c = ap (λ p. p.0 % c.args.limit) c.next_word.ensures

pub returns-clause-past : goal.returns-clause-past
unfolding past
returns-clause-past c = λ i. record { generator = (c.next_word.ensures i).1; time = c.args.self.now.time }
