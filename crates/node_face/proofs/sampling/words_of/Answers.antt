use Rattle.std.proofs.Common.{rules, ◌≡◌, ◌-◌, zero, ◌∙◌}
use Rattle.node_face.proofs.Words.{words_all}
use Rattle.node_face.proofs.sampling.words_of.Goals as goal

-- no words are left to draw
pub returns-clause-words : goal.returns-clause-words
returns-clause-words g c =
    let none : c.args.count - c.loop.counter ≡ zero = search rules in
    words_all c.loop.words.items (c.args.count - c.loop.counter) (g.R.Rng.stream c.loop.rng) none ∙ c.loop.invariant.1
