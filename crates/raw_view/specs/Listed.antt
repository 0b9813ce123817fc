-- The tables of a listing, as it says them: no key is needed, and nothing is placed anew. A peer of
-- the new table is one record, that of its first row, whatever later rows say of it. One that is in
-- both tables, since it moved while they were read, is two. What a listing does not say is 0.
use Rattle.std.specs.Prelude.{◌==◌, ℕ, ◌*◌, List, [], ◌∷◌, ◌++◌, map, fold, replicate, get_or, slice_set, Option, Some, None, if◌then◌else◌}
use Rattle.std.specs.List.{list_any}
use Rattle.net_addr.specs.Same.{same_peer}
use Rattle.net_addr.specs.declared.peer.Peer.{Peer}
use Rattle.peer_rec.specs.declared.place.Place.{Place}
use Rattle.peer_rec.specs.declared.place.Place.TheVariants as place
use Rattle.peer_rec.specs.declared.rec.Rec.{Rec}
use Rattle.placing.specs.Places.{Places}
use Rattle.raw_read.specs.Rows.{buckets_of, slot_number}
use Rattle.raw_read.specs.declared.raw.Raw.{Raw}
use Rattle.raw_read.specs.declared.raw.RawRow.{RawRow}
use Rattle.raw_read.specs.declared.raw.RawTable.{RawTable}
use Rattle.raw_read.specs.declared.raw.RawTable.TheVariants.{New, Tried}
use Rattle.slot_grid.specs.declared.sizes.TheConstants.{SLOTS}
use Rattle.table_groups.specs.View.{View}

-- where a row's record is
abbrev pub place_of : RawTable → RawRow → Place
place_of New row = place.New (row.bucket ∷ [])
place_of Tried row = place.Tried

-- the record of a row; what a listing does not say is 0
abbrev pub rec_of : RawTable → RawRow → Rec
rec_of table row = record {
  number = 0;
  peer = row.rec.peer;
  source = row.rec.source;
  time = row.rec.time;
  services = row.rec.services;
  last_success = 0;
  last_try = 0;
  last_count = 0;
  attempts = 0;
  place = place_of table row;
}

-- THE RECORDS

-- The peers of some records.
abbrev pub peers_of : List Rec → List Peer
peers_of recs = map (λ r. r.peer) recs

-- the records with that of a row last, unless they have one of its peer
abbrev pub with_row : List Rec → RawRow → List Rec
with_row recs row =
    if list_any (same_peer row.rec.peer) (peers_of recs) then recs
    else recs ++ rec_of New row ∷ []

-- The records of the new table: the first of each peer.
abbrev pub new_recs : List RawRow → List Rec
new_recs rows = fold with_row [] rows

-- The records of the tried table, one for each row.
abbrev pub tried_recs : List RawRow → List Rec
tried_recs rows = map (rec_of Tried) rows

-- THE SLOTS

-- the slots with the record of a row in its own
abbrev pub with_slot : RawTable → List (Option Rec) → RawRow → List (Option Rec)
with_slot table slots row =
    slice_set slots (slot_number row.bucket row.position) (Some (rec_of table row))

-- The slots of a table, by bucket and then by position.
abbrev pub slots_of : RawTable → List RawRow → List (Option Rec)
slots_of table rows = fold (with_slot table) (replicate (buckets_of table * SLOTS) None) rows

-- The record in a slot; none if it is free.
abbrev pub slot_in : List (Option Rec) → ℕ → ℕ → Option Rec
slot_in slots bucket position = get_or slots (slot_number bucket position) None

-- the row that names the slot of a number, if one does
abbrev pub row_in : List RawRow → ℕ → Option RawRow
row_in [] n = None
row_in (row ∷ rows) n =
    if slot_number row.bucket row.position == n then Some row else row_in rows n

-- THE VIEW

-- the records and the slots of both tables
pub record RawTables : Type 0 where
  pub new_recs : List Rec
  pub tried_recs : List Rec
  pub new_slots : List (Option Rec)
  pub tried_slots : List (Option Rec)

-- The tables that a listing says.
abbrev pub tables_of : Raw → RawTables
tables_of raw = record {
  new_recs = new_recs raw.new;
  tried_recs = tried_recs raw.tried;
  new_slots = slots_of New raw.new;
  tried_slots = slots_of Tried raw.tried;
}

-- their view, in which groups are those of an asmap
abbrev pub view_by : Places → RawTables → View
view_by places tables = record {
  places = places;
  records = tables.new_recs ++ tables.tried_recs;
  new = slot_in tables.new_slots;
  tried = slot_in tables.tried_slots;
}

-- the view of a listing
abbrev pub view_of : Places → Raw → View
view_of places raw = view_by places (tables_of raw)
