-- Random words by a seed.
use Rattle.std.specs.Prelude.{ℕ, zero, suc, List, [], ◌∷◌}
use Rattle.rand_xoshiro.specs.Xoshiro256.{plus_plus, of_seed}
use Rattle.rand_xoshiro.specs.SplitMix64.{splitmix_seed}

-- the next outputs of xoshiro256++ from a state
abbrev pub outputs : List ℕ → ℕ → List ℕ
outputs state zero = []
outputs state (suc n) = (plus_plus state).0 ∷ outputs (plus_plus state).1 n

-- the first outputs of the generator that a seed gives (`Xoshiro256PlusPlus::seed_from_u64` of
-- Rust's rand_xoshiro)
unfoldable pub seeded_words : ℕ → ℕ → List ℕ
seeded_words seed count = outputs (of_seed (splitmix_seed 32 seed)) count
