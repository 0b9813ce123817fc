-- Words that only private contracts cite.
use Rattle.std.specs.Prelude.{ℕ, Bool, List, find, filter_map, Option}
use Rattle.std.specs.List.{range_with_len}
use Rattle.peer_rec.specs.declared.rec.Rec.{Rec}
use Rattle.table_machine.specs.State.{State}
use Rattle.table_machine.specs.Picks.{is_wanted, occupant_at}
use Rattle.slot_grid.specs.Masks as masks

-- the first wanted record of a bucket at some slots, from one on
abbrev pub candidate_in : State → Bool → List ℕ → ℕ → ℕ → ℕ → Option Rec
candidate_in st in_new nets bucket from count =
    find (is_wanted nets) (filter_map (occupant_at st in_new bucket) (range_with_len from count))

-- bit s of the mask is set exactly when slot s is occupied
abbrev pub IsMask : (ℕ → Option Rec) → ℕ → Type 0
IsMask occupant mask = masks.IsMask occupant mask
