-- What two views say of the slots of the tables, as far as a text of `raw` has it.
use Rattle.std.specs.Prelude.{◌≡◌, ℕ, ◌<◌, Bool, Option, option_map}
use Rattle.peer_rec.specs.declared.file_rec.FileRec.{FileRec}
use Rattle.slot_grid.specs.declared.sizes.TheConstants.{SLOTS}
use Rattle.table_groups.specs.View.{View, occupant_at}
use Rattle.table_machine.specs.Picks.{bucket_count}
use Rattle.raw_laws.specs.Printed.{printed_rec}

-- what is printed of the record in a slot
abbrev pub printed_at : View → Bool → ℕ → ℕ → Option FileRec
printed_at view in_new bucket slot = option_map printed_rec (occupant_at view in_new bucket slot)

-- in both views each slot of both tables has a record of which the same is printed, or none
abbrev pub HaveSameSlots : View → View → Type 0
HaveSameSlots a b =
    (in_new : Bool) (bucket slot : ℕ) → bucket < bucket_count in_new → slot < SLOTS →
    printed_at a in_new bucket slot ≡ printed_at b in_new bucket slot
