-- Which groups reach more buckets of the new table than an honest one of their size would.
use Rattle.std.specs.Prelude.{ℕ, zero, suc, ◌+◌, ◌-◌, ◌*◌, ◌/◌, nat_lt, Bool, false, List, count_by, drop}
use Rattle.picture_text.specs.declared.by.By.{By}
use Rattle.picture_text.specs.declared.by.By.TheVariants.{Network, Source, Group, Age}
use Rattle.table_groups.specs.declared.sources.Source.{Source as OneSource}

-- How many of some buckets are reached by slots of which each is in any of the buckets alike: the
-- mean, in parts of which 65,536 are a bucket, rounded down slot by slot. A slot more reaches a
-- bucket more as often as it is in one that none before is in.
unfoldable pub reached : ℕ → ℕ → ℕ
reached buckets zero = 0
reached buckets (suc slots) =
    reached buckets slots + (65536 * buckets - reached buckets slots) / buckets

-- More buckets than that, by more than the square root of all of them. This is over three standard
-- deviations, whatever the number of slots: of n buckets, these are at most 0.32 times the root.
abbrev pub reaches_beyond : ℕ → ℕ → ℕ → ℕ → Bool
reaches_beyond buckets root slots own =
    nat_lt (reached buckets slots + 65536 * root) (65536 * own)

-- An honest source has peers of all groups, which its own group puts into 64 buckets. The peers of
-- a group have sources of all groups, which put them into all 1024.
abbrev pub is_spread : By → OneSource → Bool
is_spread Source s = reaches_beyond 64 8 s.new s.buckets
is_spread Group s = reaches_beyond 1024 32 s.new s.buckets
is_spread Network s = false
is_spread Age s = false

-- The groups that are not listed: all after the first six.
abbrev pub unlisted_in : List OneSource → List OneSource
unlisted_in sources = drop 6 sources

-- The number of groups that are not listed and spread.
unfoldable pub spread_of : By → List OneSource → ℕ
spread_of by sources = count_by (is_spread by) (unlisted_in sources)
