use Rattle.std.proofs.Common.{◌≡◌, Some, arith}
use Rattle.raw_read.proofs.FieldLaws.{same_some}
use Rattle.raw_read.proofs.SlotNames.{slot_parts}
use Rattle.raw_read.proofs.rows.slot_of.Goals as goal

pub returns-in_err-bucket-2-clause-only : goal.returns-in_err-bucket-2-clause-only
returns-in_err-bucket-2-clause-only c = λ b p h.
    let parts = slot_parts c.args.table c.args.name.now _ _ b p c.in_ok-bucket.ensures.cut c.in_ok-bucket.ensures.last h in
    let none = c.in_err-bucket-2.ensures.only b (omega (arith, h.bucket_below, c.buckets.ensures.is, c.from.ensures)) parts.0 in
    cc

pub returns-in_err-position-clause-only : goal.returns-in_err-position-clause-only
returns-in_err-position-clause-only c = λ b p h.
    let parts = slot_parts c.args.table c.args.name.now _ _ b p c.in_ok-bucket.ensures.cut c.in_ok-bucket.ensures.last h in
    let none = c.in_err-position.ensures.only p (omega (arith, h.position_below)) parts.1 in
    cc

pub returns-clause-only : goal.returns-clause-only
returns-clause-only c = λ b p h.
    let parts = slot_parts c.args.table c.args.name.now _ _ b p c.in_ok-bucket.ensures.cut c.in_ok-bucket.ensures.last h in
    let bucket : c.in_ok-bucket-2.bucket ≡ b = same_some _ _ (c.in_ok-bucket-2.ensures.only b (omega (arith, h.bucket_below, c.buckets.ensures.is, c.from.ensures)) parts.0) in
    let position : c.in_ok-position.position ≡ p = same_some _ _ (c.in_ok-position.ensures.only p (omega (arith, h.position_below)) parts.1) in
    λ i. Some (bucket i, position i)
