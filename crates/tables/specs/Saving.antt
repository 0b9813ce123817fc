-- What a save gathers of the records, which no public clause cites.
use Rattle.std.specs.Prelude.{◌≡◌, ℕ, List, [], ◌∷◌, map, Some, false, if◌then◌else◌, Contains, slice_get}
use Rattle.peer_rec.specs.Rec.{is_tried}
use Rattle.peer_rec.specs.declared.file_rec.FileRec.{FileRec}
use Rattle.peer_rec.specs.declared.rec.Rec.{Rec}
use Rattle.peer_index.specs.Order.{Item, Order, rec_of}
use Rattle.table_machine.specs.State.{State}
use Rattle.table_machine.specs.Snapshot.{file_rec, index_in, new_records}

-- the number of a record, with the record's id
abbrev pub number_id : Item → ℕ × ℕ
number_id l = (l.rec.number, l.id)

-- the ids lead to the records, one after another
abbrev pub LeadTo : Order → List Rec → List ℕ → Type 0
LeadTo order recs ids = map (rec_of order) ids ≡ map Some recs

-- What a file has of a record among those of the new table.
abbrev pub new_part : Rec → List FileRec
new_part r = if is_tried r then [] else file_rec r ∷ []

-- What a file has of a record among those of the tried table.
abbrev pub tried_part : Rec → List FileRec
tried_part r = if is_tried r then file_rec r ∷ [] else []

-- by id, the index of each record of the new table among these
abbrev pub AreIndexes : Order → State → List ℕ → Type 0
AreIndexes order st indexes =
    (id : ℕ) (r : Rec) → rec_of order id ≡ Some r → Contains st.records r → is_tried r ≡ false
    → slice_get indexes id ≡ Some (index_in (new_records st) r)
