-- What only private contracts cite: the least sums of some numbers, and one factor of the product.
use Rattle.std.specs.Prelude.{ℕ, zero, suc, ◌+◌, ◌-◌, ◌*◌, min, List, get_or, map}
use Rattle.std.specs.List.{range_with_len}
use Rattle.peer_open.specs.declared.opener.TheConstants.{MAX_OUTBOUND}
use Rattle.risk_sum.specs.Kinds.{rounded_up}
use Rattle.risk_tries.specs.TenBound.{least_sum}

-- the least sums of none of the numbers, of one of them, and so on; `none` if there are fewer
abbrev pub least_sums : ℕ → List ℕ → List ℕ
least_sums none shares =
    map (λ count. least_sum none count shares) (range_with_len 0 MAX_OUTBOUND)

-- with one number more, the least sum of so many, from those without it
abbrev pub with_share : ℕ → List ℕ → ℕ → ℕ
with_share share least zero = 0
with_share share least (suc count) =
    min (share + get_or least count 0) (get_or least (suc count) 0)

-- Of `left` lists, how many open one connection more to these groups, at most. The peers that are
-- open have groups of so many picks, at least.
abbrev pub after_one : ℕ → ℕ → ℕ → ℕ → ℕ
after_one total whole left opened =
    rounded_up (left * (total - opened)) (whole - opened)
