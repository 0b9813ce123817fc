use Rattle.std.proofs.Common.{◌≡◌, ◌+◌, ◌++◌, length, vec_len}
use Rattle.random_words.specs.Seeded.{seeded_words}
use Rattle.grammar.proofs.random.seeded_words.Given as goal

-- the words so far and those that are left are all of them
abbrev pub invariant-loop-word : goal.invariant-loop-word
invariant-loop-word l = record {
  all : l.words.items ++ l.word-iterator ≡ seeded_words l.seed l.count;
  counted : vec_len l.words + length l.word-iterator ≡ l.count;
}
