-- What a hasher with keys begins with.
use Rattle.std.specs.Prelude.{ℕ, List}
use Rattle.core.specs.Hash.{u64}
use Rattle.core.specs.Hash.DefaultHasher.{initial, write}
use Rattle.core.specs.List.{fold, flat_map}
use Rattle.core.specs.declared.hash.sip.DefaultHasher.{DefaultHasher}

-- SipHash-1-3 with both keys 0, after it was given these keys in their order
abbrev pub seeded : List ℕ → DefaultHasher
seeded keys = fold write initial (flat_map u64 keys)
