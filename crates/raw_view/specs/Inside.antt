-- Words of private contracts.
use Rattle.std.specs.Prelude.{◌≡◌, ◌*◌, ◌<◌, ◌≤◌, List, [], ◌∷◌, Bool, true, false, length, ⊤}
use Rattle.peer_rec.specs.Rec.{is_tried}
use Rattle.peer_rec.specs.declared.rec.Rec.{Rec}
use Rattle.peer_rec.specs.declared.snapshot.TheConstants.{MAX_NEW, MAX_TRIED}
use Rattle.raw_read.specs.Rows.{buckets_of, slot_number}
use Rattle.raw_read.specs.declared.raw.Raw.{Raw}
use Rattle.raw_read.specs.declared.raw.RawRow.{RawRow}
use Rattle.raw_read.specs.declared.raw.RawTable.{RawTable}
use Rattle.raw_read.specs.declared.raw.RawTable.TheVariants.{New, Tried}
use Rattle.raw_view.specs.Listed.{RawTables}
use Rattle.slot_grid.specs.declared.sizes.TheConstants.{SLOTS}

-- the slots of the rows are some of the table
abbrev pub AreIn : RawTable → List RawRow → Type 0
AreIn table [] = ⊤
AreIn table (row ∷ rows) =
    (slot_number row.bucket row.position < buckets_of table * SLOTS) × AreIn table rows

-- the rows of both tables are in its slots, and no more than these
pub record AreRowsIn (raw : Raw) : Type 0 where
  pub new : AreIn New raw.new
  pub few_new : length raw.new ≤ MAX_NEW
  pub tried : AreIn Tried raw.tried
  pub few_tried : length raw.tried ≤ MAX_TRIED

-- all records are of the tried table, or none
abbrev pub AllAre : Bool → List Rec → Type 0
AllAre tried [] = ⊤
AllAre tried (r ∷ recs) = (is_tried r ≡ tried) × AllAre tried recs

-- the records are in their tables, and no more than there are slots
pub record AreTables (tables : RawTables) : Type 0 where
  pub few_new : length tables.new_recs ≤ MAX_NEW
  pub few_tried : length tables.tried_recs ≤ MAX_TRIED
  pub are_new : AllAre false tables.new_recs
  pub are_tried : AllAre true tables.tried_recs
