-- The slots of a record, and from how many starts a round comes to them.
use Rattle.std.specs.Prelude.{ℕ, List, Bool, true, false, sum_by, if◌then◌else◌}
use Rattle.placing.specs.Places.{new_slot, tried_bucket, tried_slot}
use Rattle.peer_rec.specs.Rec.{buckets_of, is_tried}
use Rattle.peer_rec.specs.declared.rec.Rec.{Rec}
use Rattle.table_machine.specs.State.{State}
use Rattle.table_laws.specs.Chances.{leading_slots}

-- From how many starts a round comes to the record's slots: in the new table the sum over its
-- buckets. It is none in the other table than the record's.
abbrev pub leading_starts : State → Bool → List ℕ → Rec → ℕ
leading_starts st true nets r =
    sum_by (λ b. leading_slots st true nets b (new_slot st.places r.peer b)) (buckets_of r)
leading_starts st false nets r =
    let bucket = tried_bucket st.places r.peer in
    if is_tried r then leading_slots st false nets bucket (tried_slot st.places r.peer bucket)
    else 0

-- how many slots of one table a record may have at most
abbrev pub most_slots : Bool → ℕ
most_slots true = 8
most_slots false = 1
