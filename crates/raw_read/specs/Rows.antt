-- The members of a table, a slot and its record each.
use Rattle.std.specs.Prelude.{◌≡◌, ℕ, ◌+◌, ◌*◌, ◌<◌, ◌≤◌, List, [], ◌∷◌, ◌++◌, length, codes, decimal}
use Rattle.json.specs.Json.{Json, Members, no_members, member}
use Rattle.slot_grid.specs.declared.sizes.TheConstants.{NEW_BUCKETS, TRIED_BUCKETS, SLOTS}
use Rattle.raw_read.specs.Fields.{IsRec, Lacks}
use Rattle.raw_read.specs.declared.raw.RawFault.{RawFault}
use Rattle.raw_read.specs.declared.raw.RawFault.TheVariants.{Slot, Row}
use Rattle.raw_read.specs.declared.raw.RawRow.{RawRow}
use Rattle.raw_read.specs.declared.raw.RawTable.{RawTable}
use Rattle.raw_read.specs.declared.raw.RawTable.TheVariants.{New, Tried}

-- a name and a value
abbrev pub Member : Type 0
Member = List ℕ × Json

-- The members of an object as a list.
abbrev pub list_of : Members → List Member
list_of no_members = []
list_of (member name j ms) = (name, j) ∷ list_of ms

-- The number of buckets of a table.
abbrev pub buckets_of : RawTable → ℕ
buckets_of New = NEW_BUCKETS
buckets_of Tried = TRIED_BUCKETS

-- the name of a slot of the table
pub record IsSlot (table : RawTable) (name : List ℕ) (bucket position : ℕ) : Type 0 where
  pub named : name ≡ decimal bucket ++ codes "/" ++ decimal position
  pub bucket_below : bucket < buckets_of table
  pub position_below : position < SLOTS

-- slots are numbered by bucket, and then by position
abbrev pub slot_number : ℕ → ℕ → ℕ
slot_number bucket position = bucket * SLOTS + position

-- a slot of the table, and what its value says of the record in it
pub record IsRow (table : RawTable) (m : Member) (row : RawRow) : Type 0 where
  pub slot : IsSlot table m.0 row.bucket row.position
  pub rec : IsRec m.1 row.rec

-- the rows of the members: the first slot has the number `from` or a greater one, and each other
-- slot comes after the one before it
unfoldable pub AreRows : RawTable → ℕ → List Member → List RawRow → Type 0
AreRows table from [] rows = rows ≡ []
AreRows table from (m ∷ ms) [] = ⊥
AreRows table from (m ∷ ms) (row ∷ rows) =
    IsRow table m row × (from ≤ slot_number row.bucket row.position)
    × AreRows table (slot_number row.bucket row.position + 1) ms rows

-- the number after the last of these slots, or `from` if there is none
unfoldable pub next_slot : ℕ → List RawRow → ℕ
next_slot from [] = from
next_slot from (row ∷ rows) = next_slot (slot_number row.bucket row.position + 1) rows

-- the fault of a member, by the table, the number of the first slot that it may have and how many
-- members are before it
abbrev pub HasRowFault : RawTable → ℕ → ℕ → Member → RawFault → Type 0
HasRowFault table from count m (Slot at index) =
    (at ≡ table) × (index ≡ count)
    × ((bucket position : ℕ) → IsSlot table m.0 bucket position
    → slot_number bucket position < from)
HasRowFault table from count m (Row at bucket position field) =
    (at ≡ table) × IsSlot table m.0 bucket position
    × (from ≤ slot_number bucket position) × Lacks m.1 field
HasRowFault table from count m other = ⊥

-- the fault of a table: that of the first member that has one
pub record HasTableFault (table : RawTable) (ms : List Member) (fault : RawFault) : Type 0 where
  pub earlier : List Member
  pub bad : Member
  pub later : List Member
  pub cut : ms ≡ earlier ++ bad ∷ later
  pub rows : List RawRow
  pub read : AreRows table 0 earlier rows
  pub cause : HasRowFault table (next_slot 0 rows) (length rows) bad fault
