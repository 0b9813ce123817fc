use Rattle.std.proofs.Common.{rules, ◌≡◌, ◌+◌, ◌*◌, ◌/◌, ◌%◌, None, get_or, arith}
use Rattle.slot_grid.specs.Inside.{slots_of}
use Rattle.slot_grid.specs.declared.sizes.TheConstants.{SLOTS}
use Rattle.slot_grid.proofs.Stored.{length-slots, renumber-more, renumber-all}
use Rattle.slot_grid.proofs.grid.renumber.Goals as goal

pub loop-index-preserved : goal.loop-index-preserved
loop-index-preserved g c =
    let old = slots_of c.args.ids.now.items c.args.blocks.now.items c.args.masks.now.items in
    let now = slots_of c.loop-index.ids.items c.loop-index.blocks.items c.loop-index.masks.items in
    let new = slots_of c.put.new.ids.items c.put.new.blocks.items c.put.new.masks.items in
    let place = SLOTS * (c.loop-index.index / 64) + c.loop-index.index % 64 in
    let read : c.at.result ≡ get_or now place None = search (rules, c.at.ensures) in
    record {
      slots =
          renumber-more c.args.new_ids.now old now new c.loop-index.index place c.at.result c.renumbered-id.result
          (length-slots c.args.ids.now.items c.args.blocks.now.items c.args.masks.now.items) c.loop-index.invariant.slots
          read c.renumbered-id.ensures c.put.ensures.slots
          (length-slots c.loop-index.ids.items c.loop-index.blocks.items c.loop-index.masks.items) (search rules) (omega arith);
      stored = c.put.ensures.stored;
      room = omega (arith, c.put.ensures.room, c.loop-index.invariant.room);
      steps = omega (arith, c.loop-index.invariant.steps, c.tick.ensures);
    }

pub returns-clause-renumbered : goal.returns-clause-renumbered
returns-clause-renumbered g c =
    let old = slots_of c.args.ids.now.items c.args.blocks.now.items c.args.masks.now.items in
    let now = slots_of c.loop-index.ids.items c.loop-index.blocks.items c.loop-index.masks.items in
    renumber-all c.args.new_ids.now old now c.loop-index.index c.loop-index.invariant.slots
    (omega (arith, length-slots c.args.ids.now.items c.args.blocks.now.items c.args.masks.now.items))
