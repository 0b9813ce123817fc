-- What pictures and counts are made from: the records of both tables, and the slots that they are
-- in. It may be the state of a node's tables, or what a text says of their slots. The slots are
-- functions, so that nothing is copied and the view of a state computes. Groups depend on its asmap
-- only, and not on a key.
use Rattle.std.specs.Prelude.{ℕ, ◌&&◌, not, List, Bool, true, false, Option, count_by}
use Rattle.peer_rec.specs.Rec.{is_tried}
use Rattle.peer_rec.specs.declared.rec.Rec.{Rec}
use Rattle.placing.specs.Places.{Places}
use Rattle.table_machine.specs.Picks.{is_wanted}
use Rattle.table_machine.specs.State.{State, new_rec_at, tried_rec_at}

-- What groups are computed by (`places`: they depend on its asmap, and not on its key), the
-- records, and the record in a slot of a bucket of either table.
pub record View : Type 0 where
  pub places : Places
  pub records : List Rec
  pub new : ℕ → ℕ → Option Rec
  pub tried : ℕ → ℕ → Option Rec

-- the view of a state
abbrev pub view_of : State → View
view_of st = record {
  places = st.places;
  records = st.records;
  new = new_rec_at st;
  tried = tried_rec_at st;
}

-- the record at a slot of a bucket, of the new table or of the tried table
abbrev pub occupant_at : View → Bool → ℕ → ℕ → Option Rec
occupant_at view true bucket slot = view.new bucket slot
occupant_at view false bucket slot = view.tried bucket slot

-- The number of records of the new table that are of networks of a set.
abbrev pub wanted_new : View → List ℕ → ℕ
wanted_new view nets = count_by (λ r. not (is_tried r) && is_wanted nets r) view.records

-- The number of records of the tried table that are of networks of a set.
abbrev pub wanted_tried : View → List ℕ → ℕ
wanted_tried view nets = count_by (λ r. is_tried r && is_wanted nets r) view.records
