-- The mask of a bucket of ids is that of the records of the bucket.
use Rattle.std.proofs.Common.{◌≡◌, ℕ, ◌<◌, List, Option, Some, None, is_some, refl, sym, ap, ◌∙◌}
use Rattle.placing.specs.Places.{Places}
use Rattle.slot_grid.specs.Masks.{IsMask, bit_of}
use Rattle.slot_grid.specs.Slots.{Slots, new_id, tried_id}
use Rattle.peer_index.specs.Order.{Order}
use Rattle.table_machine.specs.State.{new_rec_at, tried_rec_at}
use Rattle.table_plan.specs.declared.waiter.Waiter.{Waiter}
use Rattle.tables.specs.Inside.{AreStored, state_with}
use Rattle.tables.proofs.Changes.{occupant-none, occupant-some, tried-none, tried-some}

module _ {ws : List Waiter} (places : Places) (order : Order) (slots : Slots) (next : ℕ) (clashes : List ℕ) (good : ℕ) (stored : AreStored places order slots next ws) (bucket mask : ℕ) where
  pub mask-new : bucket < 1024 → IsMask (new_id slots bucket) mask → IsMask (new_rec_at (state_with places order clashes good next) bucket) mask
  mask-new low is slot small = is slot small ∙ ap bit_of (by (new_id slots bucket slot) refl)
    where
      by : (o : Option ℕ) → new_id slots bucket slot ≡ o → is_some o ≡ is_some (new_rec_at (state_with places order clashes good next) bucket slot)
      by None empty = sym (ap is_some (occupant-none places order slots next clashes good stored bucket slot low small empty))
      by (Some id) at =
          let there = stored.grid.new_from bucket slot id low small at in
          sym (ap is_some (occupant-some places order slots next clashes good stored bucket slot id there.0 low small at there.1))

  pub mask-tried : bucket < 256 → IsMask (tried_id slots bucket) mask → IsMask (tried_rec_at (state_with places order clashes good next) bucket) mask
  mask-tried low is slot small = is slot small ∙ ap bit_of (by (tried_id slots bucket slot) refl)
    where
      by : (o : Option ℕ) → tried_id slots bucket slot ≡ o → is_some o ≡ is_some (tried_rec_at (state_with places order clashes good next) bucket slot)
      by None empty = sym (ap is_some (tried-none places order slots next clashes good stored bucket slot low small empty))
      by (Some id) at =
          let there = stored.grid.tried_from bucket slot id low small at in
          sym (ap is_some (tried-some places order slots next clashes good stored bucket slot id there.0 low small at there.1))
