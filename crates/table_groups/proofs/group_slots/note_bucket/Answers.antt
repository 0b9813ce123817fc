use Rattle.std.proofs.Common.{◌≡◌, ◌+◌, ◌∙◌, arith, fold, map}
use Rattle.table_groups.proofs.Buckets.{after-bucket, few-more, fewer, slot-more, slots-all}
use Rattle.table_groups.specs.Sources.{source_groups}
use Rattle.table_groups.specs.Tally.{by_bytes, noted}
use Rattle.table_groups.specs.Visits.{no_slots, slots_before, with_slot}
use Rattle.table_groups.proofs.group_slots.note_bucket.Goals as goal
use Rattle.table_groups.specs.View.{occupant_at}

pub loop-slot-preserved : goal.loop-slot-preserved
loop-slot-preserved g c =
    let view = (g.T.TableView.view c.args.tables.now) in
    let in_new = c.args.in_new in
    let bucket = c.args.bucket in
    let slot = c.loop-slot.slot in
    let now = by_bytes c.loop-slot.tally.entries in
    let next = by_bytes c.note_slot.new.tally.entries in
    let more : next ≡ fold (noted no_slots (with_slot in_new)) now (map (λ h. (h, bucket)) (source_groups view.places (occupant_at view in_new bucket slot))) =
    c.in_ok-note_slot.ensures ∙ (λ i. fold (noted no_slots (with_slot in_new)) now (map (λ h. (h, bucket)) (source_groups (c.places.ensures i) (c.occupant-rec.ensures i)))) in
    record {
      counted = slot-more in_new (λ s. source_groups view.places (occupant_at view in_new bucket s)) bucket slot (by_bytes c.args.tally.now.entries) now next c.loop-slot.invariant.counted more;
      few = fewer (slots_before in_new bucket + slot + 1) (slots_before in_new bucket + (slot + 1)) next (omega arith)
          (few-more in_new view.places bucket (slots_before in_new bucket + slot) (occupant_at view in_new bucket slot) now next c.loop-slot.invariant.few more);
    }

pub returns-clause-visits : goal.returns-clause-visits
returns-clause-visits g c =
    slots-all c.args.in_new (λ s. source_groups (g.T.TableView.view c.args.tables.now).places (occupant_at (g.T.TableView.view c.args.tables.now) c.args.in_new c.args.bucket s)) c.args.bucket c.loop-slot.slot 64 (by_bytes c.args.tally.now.entries)
    (by_bytes c.loop-slot.tally.entries) (omega arith) c.loop-slot.invariant.counted

pub returns-clause-few : goal.returns-clause-few
returns-clause-few g c = after-bucket c.args.in_new c.args.bucket c.loop-slot.slot (by_bytes c.loop-slot.tally.entries) (omega arith) c.loop-slot.invariant.few
