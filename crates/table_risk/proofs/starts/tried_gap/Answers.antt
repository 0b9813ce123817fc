use Rattle.std.proofs.Common.{false, ap, ◌∙◌}
use Rattle.net_addr.specs.NetSet.{all}
use Rattle.placing.specs.Places.{tried_bucket, tried_slot}
use Rattle.table_laws.specs.Chances.{leading_slots}
use Rattle.table_risk.proofs.MaskGaps.{mask_gap}
use Rattle.table_risk.proofs.starts.tried_gap.Goals as goal

pub returns : goal.returns
returns g c =
    let bucket = c.tried_bucket-bucket.ensures.value ∙ (λ i. tried_bucket (c.placer.ensures i) c.args.peer.now) in
    c.gap.ensures.is ∙ mask_gap c.args.tables.now false c.tried_bucket-bucket.result c.tried_mask.result c.tried_slot-slot.result c.tried_mask.ensures.mask c.tried_slot-slot.ensures.below
    ∙ ap (leading_slots c.args.tables.now false all c.tried_bucket-bucket.result) (c.tried_slot-slot.ensures.value ∙ (λ i. tried_slot (c.placer-2.ensures i) c.args.peer.now c.tried_bucket-bucket.result))
    ∙ (λ i. leading_slots c.args.tables.now false all (bucket i) (tried_slot c.args.tables.now.places c.args.peer.now (bucket i)))
