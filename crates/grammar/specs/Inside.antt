-- Definitions for private contracts.
use Rattle.std.specs.Prelude.{ℕ, ◌+◌, ◌≤◌, List, length, Option, Some, None, ⊤}
use Rattle.std.specs.Borrow.{Bor}
use Rattle.random_words.specs.Seeded.{seeded_words}
use Rattle.grammar.specs.declared.random.TheConstants.{MAX_SEEDED}
use Rattle.grammar.specs.declared.word_source.Given.{Given}
use Rattle.grammar.specs.declared.word_source.Given.TheVariants.{Listed, Seeded}

-- how many bytes there are from a separator on
abbrev pub length_after : Option (Bor (List ℕ)) → ℕ
length_after None = 0
length_after (Some rest) = length rest.now + 1

-- the words that a line gives
abbrev pub words_given : Given → List ℕ
words_given (Listed words) = words
words_given (Seeded seed count) = seeded_words seed count

-- a seed is to give at most `MAX_SEEDED` words
abbrev pub IsWithin : Given → Type 0
IsWithin (Listed words) = ⊤
IsWithin (Seeded seed count) = count ≤ MAX_SEEDED
