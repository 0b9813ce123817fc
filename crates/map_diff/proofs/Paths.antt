-- The prefixes with one bit more.
use Rattle.std.proofs.Common.{◌+◌, ◌-◌, ◌^◌, ◌<◌, Bool, true, List, [], ◌∷◌, ◌++◌, length, subst, arith}
use Rattle.asmap_back.specs.Back.{first_at}
use Rattle.asmap_back.proofs.PathRows.{below_top}
use Rattle.asmap_back.proofs.Steps.{longer, first_one}

-- the first address with a one-bit more has 128 bits
pub one_room : (p : List Bool) → length p < 128 → first_at p + 2 ^ (127 - length p) < 2 ^ 128
one_room p low = subst (λ n. n < 2 ^ 128) (first_one p low) (below_top (p ++ true ∷ []) (omega (arith, longer p true)))
