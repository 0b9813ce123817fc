use Rattle.std.proofs.Common.{◌≡◌, ◌*◌, length, fold}
use Rattle.raw_read.specs.Rows.{buckets_of}
use Rattle.raw_view.specs.Inside.{AreIn}
use Rattle.raw_view.specs.Listed.{slots_of, with_slot}
use Rattle.slot_grid.specs.declared.sizes.TheConstants.{SLOTS}
use Rattle.raw_view.proofs.slots.slots_of.Given as goal

abbrev pub invariant-loop-rest : goal.invariant-loop-rest
invariant-loop-rest l =
    AreIn l.table l.rest × (length l.slots.items ≡ buckets_of l.table * SLOTS)
    × (fold (with_slot l.table) l.slots.items l.rest ≡ slots_of l.table l.initial.rows)

abbrev pub decreases-loop-rest : goal.decreases-loop-rest
decreases-loop-rest l = length l.rest
