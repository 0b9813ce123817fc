-- The states after an exchange in the order and after a collision is dropped are sound.
use Rattle.std.proofs.Common.{ℕ, ◌<◌, length, refl, swap}
use Rattle.std.proofs.lemmas.List.Sorted.{IsPermutation-swap, IsPermutation-trans}
use Rattle.table_machine.specs.State.{State}
use Rattle.table_machine.specs.Clashes.{erase_clash}
use Rattle.table_machine.specs.Picks.{order_swap}
use Rattle.table_machine.specs.Sound.{IsSound}
use Rattle.table_machine.proofs.Records.{numbers}
use Rattle.table_machine.proofs.Waiting.{erase-sound}

-- two positions of the order are exchanged
pub order_swap-sound : (st : State) (i j : ℕ) → IsSound st → i < length st.order → j < length st.order → IsSound (order_swap st i j)
order_swap-sound st i j sound first second = record {
  listed = record {
    order = IsPermutation-trans (numbers st.records) st.order (swap st.order i j) sound.order (IsPermutation-swap st.order (swap st.order i j) i j first second refl);
    peers = sound.peers;
    valid = sound.valid;
    rising = sound.rising;
    below_next = sound.below_next;
  };
  waiting = sound.waiting;
  ranges = sound.ranges;
  new_slots = sound.new_slots;
  tried_slots = sound.tried_slots;
  occupants = sound.occupants;
  records = sound.records;
}

-- a collision is dropped
pub erase_clash-sound : (st : State) (n : ℕ) → IsSound st → IsSound (erase_clash st n)
erase_clash-sound = erase-sound
