-- The mark of a slot: which colour its dot has. A free slot has 0.
use Rattle.std.specs.Prelude.{ℕ, ◌+◌, ◌*◌, ◌==◌, Bool, List, [], ◌∷◌, bytes_eq, count_by, drop, take, if◌then◌else◌}
use Rattle.std.specs.List.{list_any, range_with_len}
use Rattle.slot_grid.specs.declared.sizes.TheConstants.{NEW_BUCKETS, SLOTS}
use Rattle.table_groups.specs.declared.sources.Source.{Source}

-- the position of a group in the list, counted on from n, and 7 if it is not there
abbrev pub group_mark : ℕ → List ℕ → List Source → ℕ
group_mark n g [] = 7
group_mark n g (s ∷ sources) =
    if bytes_eq s.group.items g then n else group_mark (n + 1) g sources

-- how many slots have the mark
abbrev pub dots_of : List ℕ → ℕ → ℕ
dots_of marks mark = count_by (λ m. m == mark) marks

-- the marks of the slots of a bucket of the new table, which come first
abbrev pub in_bucket : List ℕ → ℕ → List ℕ
in_bucket marks bucket = take SLOTS (drop (SLOTS * bucket) marks)

-- Some slot has this mark.
abbrev pub has_mark : List ℕ → ℕ → Bool
has_mark marks mark = list_any (λ m. m == mark) marks

-- how many buckets of the new table have a slot with the mark
unfoldable pub buckets_of : List ℕ → ℕ → ℕ
buckets_of marks mark =
    count_by (λ bucket. has_mark (in_bucket marks bucket) mark) (range_with_len 0 NEW_BUCKETS)
