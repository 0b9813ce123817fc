-- The mark of each slot: which of the listed groups the source in its record is in.
use Rattle.std.specs.Prelude.{ℕ, List, ◌++◌, map, Bool, true, false, Option, Some, None}
use Rattle.std.specs.List.{flat_map, range_with_len}
use Rattle.peer_rec.specs.declared.rec.Rec.{Rec}
use Rattle.picture_text.specs.Marks.{group_mark}
use Rattle.placing.specs.Places.{Places, group}
use Rattle.slot_grid.specs.declared.sizes.TheConstants.{SLOTS}
use Rattle.table_groups.specs.declared.sources.Source.{Source}
use Rattle.table_machine.specs.Picks.{bucket_count}
use Rattle.table_groups.specs.View.{View, occupant_at}

-- 0 for no record, 1 to 6 for one whose source is in a listed group, and 7 for any other one
abbrev pub rec_mark : Places → List Source → Option Rec → ℕ
rec_mark places listed None = 0
rec_mark places listed (Some r) = group_mark 1 (group places r.source) listed

-- of the slots of a bucket
abbrev pub bucket_marks : View → List Source → Bool → ℕ → List ℕ
bucket_marks view listed in_new bucket =
    map (λ slot. rec_mark view.places listed (occupant_at view in_new bucket slot))
    (range_with_len 0 SLOTS)

-- of the slots of a table, by rising bucket
unfoldable pub table_marks : View → List Source → Bool → List ℕ
table_marks view listed in_new =
    flat_map (bucket_marks view listed in_new) (range_with_len 0 (bucket_count in_new))

-- of all slots
unfoldable pub marks_by : View → List Source → List ℕ
marks_by view listed = table_marks view listed true ++ table_marks view listed false
