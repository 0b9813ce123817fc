-- Definitions for private contracts.
use Rattle.std.specs.Prelude.{ℕ, List}
use Rattle.random_words.specs.Seeded.{outputs}
use Rattle.random_words.specs.declared.draws.Left.{Left}
use Rattle.random_words.specs.declared.draws.Left.TheVariants.{Slice, Generator}

-- the words of a slice, or those that a generator gives next
abbrev pub words_left : Left → List ℕ
words_left (Slice words) = words.now
words_left (Generator generator count) = outputs generator count
