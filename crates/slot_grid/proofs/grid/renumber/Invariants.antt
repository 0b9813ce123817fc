use Rattle.std.proofs.Common.{◌≡◌, ◌+◌, ◌++◌, take, drop, vec_capacity}
use Rattle.std.specs.Prelude.{map}
use Rattle.slot_grid.specs.Slots.{renumbered}
use Rattle.slot_grid.specs.Inside.{slots_of, AreStored}
use Rattle.slot_grid.proofs.grid.renumber.Given as goal

abbrev pub invariant-loop-index : goal.invariant-loop-index
invariant-loop-index g l = record {
  slots : slots_of l.ids.items l.blocks.items l.masks.items
      ≡ map (renumbered l.new_ids) (take l.index (slots_of l.initial.ids.items l.initial.blocks.items l.initial.masks.items))
      ++ drop l.index (slots_of l.initial.ids.items l.initial.blocks.items l.initial.masks.items);
  stored : AreStored l.ids.items l.blocks.items l.masks.items;
  room : vec_capacity l.ids ≡ vec_capacity l.initial.ids;
  steps : l.steps ≡ l.fn.steps + l.index;
}
