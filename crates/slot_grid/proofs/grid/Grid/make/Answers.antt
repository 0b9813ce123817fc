use Rattle.std.proofs.Common.{rules, ◌≡◌, length, sym, subst}
use Rattle.slot_grid.specs.Slots.{AreEmpty}
use Rattle.slot_grid.specs.Inside.{slots_of, AreStored}
use Rattle.slot_grid.specs.declared.sizes.TheConstants.{BUCKETS}
use Rattle.slot_grid.proofs.Stored.{stored-empty, empty-slots}
use Rattle.slot_grid.proofs.grid.Grid.make.Goals as goal

pub invariant_of-result : goal.invariant_of-result
invariant_of-result c =
    let blocks = c.in_ok-blocks.blocks.items in
    let masks = c.in_ok-masks.masks.items in
    let long : length blocks ≡ BUCKETS = search rules in
    let wide : length masks ≡ BUCKETS = search rules in
    (subst (λ ids. AreStored ids blocks masks) (sym c.in_ok-ids.ensures.items) (stored-empty blocks masks long wide c.in_ok-blocks.ensures.empty c.in_ok-masks.ensures.empty), c.in_ok-ids.ensures.capacity)

pub returns : goal.returns
returns c =
    let blocks = c.in_ok-blocks.blocks.items in
    let masks = c.in_ok-masks.masks.items in
    subst (λ ids. AreEmpty (slots_of ids blocks masks)) (sym c.in_ok-ids.ensures.items) (empty-slots blocks masks c.in_ok-blocks.ensures.empty)
