-- What one slot more reaches.
use Rattle.std.proofs.Common.{◌≡◌, ℕ, suc, ◌+◌, ◌-◌, ◌*◌, ◌/◌, refl, ap, arith}
use Rattle.picture_text.specs.Spread.{reached}

pub reached_none : (buckets : ℕ) → reached buckets 0 ≡ 0
unfolding reached
reached_none buckets = refl

pub reached_more : (buckets slots : ℕ) → reached buckets (slots + 1) ≡ reached buckets slots + (65536 * buckets - reached buckets slots) / buckets
unfolding reached
reached_more buckets slots =
    let next : slots + 1 ≡ suc slots = omega arith in
    ap (reached buckets) next
