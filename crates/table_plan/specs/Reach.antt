-- The buckets of a source's group that are kept.
use Rattle.std.specs.Prelude.{◌≡◌, ℕ, ◌<◌, List, None, Some, slice_index_or}
use Rattle.placing.specs.Places.{Places, source_bucket}
use Rattle.placing.specs.declared.placer.TheConstants.{SOURCE_BUCKETS}
use Rattle.table_plan.specs.declared.reach.Reach.{Reach}
use Rattle.slot_grid.specs.declared.sizes.TheConstants.{NEW_BUCKETS}

-- Each bucket that is kept is one of the new table, and that of its choice in the group's 64. A
-- bucket is kept for one group at a time.
pub record IsKept (places : Places) (group : List ℕ) (choice bucket : ℕ) : Type 0 where
  pub value : bucket ≡ source_bucket places group choice
  pub below : bucket < NEW_BUCKETS

-- All buckets of a group that are kept are its own.
abbrev pub IsReach : Places → Reach → Type 0
IsReach places r =
    (choice bucket : ℕ) → choice < SOURCE_BUCKETS →
    slice_index_or r.buckets choice None ≡ Some bucket
    → IsKept places r.group.items choice bucket
