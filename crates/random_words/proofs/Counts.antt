-- A seed gives as many words as are wanted.
use Rattle.std.proofs.Common.{◌≡◌, ℕ, zero, suc, List, length, refl, ap}
use Rattle.rand_xoshiro.specs.Xoshiro256.{plus_plus, of_seed}
use Rattle.rand_xoshiro.specs.SplitMix64.{splitmix_seed}
use Rattle.random_words.specs.Seeded.{outputs, seeded_words}

outputs_count : (state : List ℕ) (count : ℕ) → length (outputs state count) ≡ count
outputs_count state zero = refl
outputs_count state (suc n) = ap suc (outputs_count (plus_plus state).1 n)

pub seeded_count : (seed count : ℕ) → length (seeded_words seed count) ≡ count
unfolding seeded_words
seeded_count seed count = outputs_count (of_seed (splitmix_seed 32 seed)) count
