-- What a grid keeps: the ids of the buckets that had a record so far, in blocks of 64; the block of
-- each bucket; and the masks. Only private contracts cite it.
use Rattle.std.specs.Prelude.{◌≡◌, ◌≢◌, ℕ, ◌+◌, ◌/◌, ◌%◌, ◌<◌, ◌==◌, List, [], ◌∷◌, length, map, Option, None, Some, is_some, get_or, cond}
use Rattle.std.specs.Int.{bit_at}
use Rattle.std.specs.List.{range_with_len}
use Rattle.slot_grid.specs.Masks.{AreMasks, bit_of}
use Rattle.slot_grid.specs.Slots.{Slots}
use Rattle.slot_grid.specs.declared.sizes.TheConstants.{BUCKETS, SLOTS, ALL_SLOTS}

-- what a slot of a bucket has, by the bucket's block and mask
unfoldable pub in_block : List (List ℕ) → Option ℕ → ℕ → ℕ → Option ℕ
in_block ids None mask slot = None
in_block ids (Some block) mask slot =
    cond (bit_at mask slot == 1) (Some (get_or (get_or ids block []) slot 0)) None

-- what a slot has, by its index among the slots of both tables
unfoldable pub occupant : List (List ℕ) → List (Option ℕ) → List ℕ → ℕ → Option ℕ
occupant ids blocks masks index =
    in_block ids (get_or blocks (index / SLOTS) None) (get_or masks (index / SLOTS) 0)
    (index % SLOTS)

-- the slots of both tables
unfoldable pub slots_of : List (List ℕ) → List (Option ℕ) → List ℕ → Slots
slots_of ids blocks masks = map (occupant ids blocks masks) (range_with_len 0 ALL_SLOTS)

-- how many buckets have no block
abbrev pub missing : List (Option ℕ) → ℕ
missing [] = 0
missing (None ∷ blocks) = 1 + missing blocks
missing (Some _ ∷ blocks) = missing blocks

-- each block is that of one bucket, and the buckets that have none are as many as the blocks that
-- are missing
pub record AreBlocks (ids : List (List ℕ)) (blocks : List (Option ℕ)) : Type 0 where
  pub buckets : length blocks ≡ BUCKETS
  pub sizes : (block : ℕ) → block < length ids → length (get_or ids block []) ≡ SLOTS
  pub below : (bucket block : ℕ) → get_or blocks bucket None ≡ Some block → block < length ids
  pub apart : (one other block : ℕ) → get_or blocks one None ≡ Some block
      → get_or blocks other None ≡ Some block → one ≡ other
  pub left : length ids + missing blocks ≡ BUCKETS

-- blocks, and masks that say which slots are occupied
pub record AreStored (ids : List (List ℕ)) (blocks : List (Option ℕ)) (masks : List ℕ) : Type 0 where
  pub parts : AreBlocks ids blocks
  pub bits : AreMasks (slots_of ids blocks masks) masks

-- each other bucket has its block, this one too if it had one, and each block has its ids
pub record IsGrown (bucket : ℕ) (ids : List (List ℕ)) (blocks : List (Option ℕ))
    (new_ids : List (List ℕ)) (new_blocks : List (Option ℕ)) : Type 0 where
  pub others : (other : ℕ) → other ≢ bucket
      → get_or new_blocks other None ≡ get_or blocks other None
  pub same : (block : ℕ) → get_or blocks bucket None ≡ Some block
      → get_or new_blocks bucket None ≡ Some block
  pub kept : (block : ℕ) → block < length ids → get_or new_ids block [] ≡ get_or ids block []

-- one slot of a bucket has another id, once the mask says so
pub record IsKept (bucket slot : ℕ) (id : Option ℕ) (ids : List (List ℕ)) (blocks : List (Option ℕ))
    (new_ids : List (List ℕ)) (new_blocks : List (Option ℕ)) : Type 0 where
  pub others : (other at mask : ℕ) → other ≢ bucket
      → in_block new_ids (get_or new_blocks other None) mask at
      ≡ in_block ids (get_or blocks other None) mask at
  pub same : (at mask new_mask : ℕ) → at ≢ slot → bit_at new_mask at ≡ bit_at mask at
      → bit_at mask at ≡ bit_of (is_some (in_block ids (get_or blocks bucket None) mask at))
      → in_block new_ids (get_or new_blocks bucket None) new_mask at
      ≡ in_block ids (get_or blocks bucket None) mask at
  pub here : (mask : ℕ) → bit_at mask slot ≡ bit_of (is_some id)
      → in_block new_ids (get_or new_blocks bucket None) mask slot ≡ id
