use Rattle.std.proofs.Common.{true, ap, ◌∙◌}
use Rattle.net_addr.specs.NetSet.{all}
use Rattle.placing.specs.Places.{new_slot}
use Rattle.table_laws.specs.Chances.{leading_slots}
use Rattle.table_risk.proofs.MaskGaps.{mask_gap}
use Rattle.table_risk.proofs.starts.new_gap.Goals as goal

pub returns-clause-is : goal.returns-clause-is
returns-clause-is g c =
    c.gap.ensures.is ∙ mask_gap c.args.tables.now true c.args.bucket c.new_mask.result c.new_slot-slot.result c.new_mask.ensures.mask c.new_slot-slot.ensures.below
    ∙ ap (leading_slots c.args.tables.now true all c.args.bucket) (c.new_slot-slot.ensures.value ∙ (λ i. new_slot (c.placer.ensures i) c.args.peer.now c.args.bucket))
