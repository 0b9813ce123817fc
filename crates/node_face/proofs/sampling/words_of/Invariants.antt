use Rattle.std.proofs.Common.{◌≡◌, ◌-◌, ◌++◌, length}
use Rattle.node_face.specs.Sampling.{next_words}
use Rattle.node_face.proofs.sampling.words_of.Given as goal

-- a word for each turn, and those that are left follow from the generator
abbrev pub invariant-loop : goal.invariant-loop
invariant-loop g l = (length l.words.items ≡ l.counter)
    × (l.words.items ++ next_words (l.fn.count - l.counter) (g.R.Rng.stream l.rng)
    ≡ next_words l.fn.count (g.R.Rng.stream l.fn.rng))
