-- Tables that are being restored, of which no record is deleted yet.
use Rattle.std.specs.Prelude.{◌≡◌, ℕ, ◌<◌, ◌≤◌, ◌==◌, ◌&&◌, Bool, if◌then◌else◌, false, not, nat_lt, List, [], length, map, filter, find, Contains}
use Rattle.std.specs.List.{range_with_len}
use Rattle.std.specs.Option.{option_map}
use Rattle.placing.specs.Places.{Places}
use Rattle.peer_rec.specs.Rec.{buckets_of, is_tried}
use Rattle.peer_rec.specs.Snapshot.{Snapshot}
use Rattle.peer_rec.specs.declared.rec.Rec.{Rec}
use Rattle.peer_rec.specs.declared.buckets.TheConstants.{MAX_LISTS}
use Rattle.slot_grid.specs.Slots.{Slots, new_id, tried_id}
use Rattle.table_machine.specs.State.{State, is_new_at, is_tried_at}
use Rattle.table_machine.specs.Restoring.{with_records, drop_all, give_if_empty, place_all, uses_buckets}
use Rattle.table_plan.specs.declared.plan.Plan.{Plan}
use Rattle.slot_grid.specs.declared.sizes.TheConstants.{NEW_BUCKETS, TRIED_BUCKETS, SLOTS}

-- the state of some records in the order of their numbers
abbrev pub state_of : Places → List Rec → State
state_of places recs = record {
  places = places;
  records = recs;
  order = range_with_len 0 (length recs);
  collisions = [];
  last_good = 1;
  next_number = length recs;
}

-- A record's number is its position, each slot has the number of the record in it, and the records
-- whose number is below `news` are not in the tried table.
pub record IsPlan (places : Places) (recs : List Rec) (news : ℕ) (slots : Slots) : Type 0 where
  pub numbers : map (λ r. r.number) recs ≡ range_with_len 0 (length recs)
  pub new : (bucket slot : ℕ) → bucket < NEW_BUCKETS → slot < SLOTS
      → new_id slots bucket slot
      ≡ option_map (λ r. r.number) (find (is_new_at places bucket slot) recs)
  pub tried : (bucket slot : ℕ) → bucket < TRIED_BUCKETS → slot < SLOTS
      → tried_id slots bucket slot
      ≡ option_map (λ r. r.number) (find (is_tried_at places bucket slot) recs)
  pub most : news ≤ length recs
  pub untried : (r : Rec) → Contains recs r → r.number < news → is_tried r ≡ false

-- a record of the new table that another bucket may list
pub record HasSpace (r : Rec) : Type 0 where
  pub untried : is_tried r ≡ false
  pub room : length (buckets_of r) < MAX_LISTS

-- the record gets the bucket that lists it, if the file's buckets are used and the slot is empty
abbrev pub give_listed : Bool → State → Rec → ℕ → State → State
give_listed are_used st r bucket other = if are_used then give_if_empty st r bucket other else other

-- a record stays until its turn to be deleted, and after it if a bucket lists it
abbrev pub stays : ℕ → Rec → Bool
stays turn r = not (nat_lt r.number turn && length (buckets_of r) == 0)

-- the state when the turn of a number comes, with the order as it is then
abbrev pub dropping : Places → List Rec → ℕ → List ℕ → State
dropping places recs turn order =
    record (state_of places recs) { records = filter (stays turn) recs; order = order }

-- the records of a file, after those that its buckets list are placed
abbrev pub placed : Snapshot → Places → State
placed snap places = place_all (uses_buckets snap places) (with_records snap places) snap.listed

-- what holds of a plan
abbrev pub IsPlanned : Plan → Type 0
IsPlanned p = IsPlan p.placer p.recs.items p.news p.grid

-- the state of a plan
abbrev pub state_by : Plan → State
state_by p = state_of p.placer p.recs.items

-- a plan's state when the turn of a number to be deleted comes
abbrev pub dropping_by : Plan → ℕ → List ℕ → State
dropping_by p turn order = dropping p.placer p.recs.items turn order

-- a plan's state when all turns are over
abbrev pub settled : Plan → State
settled p = drop_all (state_by p) (range_with_len 0 p.news)
