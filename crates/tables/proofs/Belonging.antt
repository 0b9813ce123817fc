-- The slots and the index, as they are lent, belong to the state.
use Rattle.std.proofs.Common.{ℕ, refl}
use Rattle.std.specs.Prelude.{List}
use Rattle.placing.specs.Places.{Places}
use Rattle.slot_grid.specs.Slots.{Slots, new_id, tried_id}
use Rattle.peer_index.specs.Order.{Order}
use Rattle.table_machine.specs.Sound.{IsSound}
use Rattle.table_plan.specs.declared.waiter.Waiter.{Waiter}
use Rattle.tables.specs.Inside.{AreStored, state_with}
use Rattle.tables.specs.Restored.{AreOf}
use Rattle.tables.proofs.Listing.{same_records}
use Rattle.tables.proofs.Places.{new-right, tried-right, there-by, there-empty}

pub parts : {ws : List Waiter} (places : Places) (order : Order) (slots : Slots) (next : ℕ) (clashes : List ℕ) (good : ℕ) → AreStored places order slots next ws
    → IsSound (state_with places order clashes good next) → AreOf (state_with places order clashes good next) slots order
parts places order slots next clashes good stored sound = record {
  index = stored.index;
  recs = same_records order next stored.index stored.numbers sound.order;
  numbers = refl;
  new = λ b s low small. there-by order next stored.index stored.numbers _ _ (new-right places order slots stored.grid b s low small) (new_id slots b s) refl;
  new_none = λ b s low small none. there-empty order next stored.index stored.numbers _ _ (new-right places order slots stored.grid b s low small) none (new_id slots b s) refl;
  tried = λ b s low small. there-by order next stored.index stored.numbers _ _ (tried-right places order slots stored.grid b s low small) (tried_id slots b s) refl;
  tried_none = λ b s low small none. there-empty order next stored.index stored.numbers _ _ (tried-right places order slots stored.grid b s low small) none (tried_id slots b s) refl;
}
