-- Which slots of a bucket are occupied, one bit a slot.
use Rattle.std.specs.Prelude.{◌≡◌, ℕ, ◌+◌, ◌*◌, ◌<◌, List, length, Bool, true, false, Option, None, is_some, get_or, slice_index_or}
use Rattle.std.specs.Int.{bit_at}
use Rattle.slot_grid.specs.Slots.{Slots}
use Rattle.slot_grid.specs.declared.sizes.TheConstants.{BUCKETS, SLOTS, ALL_SLOTS}

-- The bit of a slot: 1 if it is occupied.
abbrev pub bit_of : Bool → ℕ
bit_of true = 1
bit_of false = 0

-- bit s of the mask is 1 exactly if slot s is occupied
abbrev pub IsMask : {T : Type 0} → (ℕ → Option T) → ℕ → Type 0
IsMask occupant mask =
    (slot : ℕ) → slot < SLOTS → bit_at mask slot ≡ bit_of (is_some (occupant slot))

-- each bucket of both tables has its mask
pub record AreMasks (ids : Slots) (masks : List ℕ) : Type 0 where
  pub slots : length ids ≡ ALL_SLOTS
  pub buckets : length masks ≡ BUCKETS
  pub each : (bucket : ℕ) → bucket < BUCKETS
      → IsMask (λ slot. slice_index_or ids (SLOTS * bucket + slot) None) (get_or masks bucket 0)
