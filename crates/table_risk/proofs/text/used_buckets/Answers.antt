use Rattle.std.proofs.Common.{Bool, ℕ, true, false, is_some, sym, ◌∙◌, arith}
use Rattle.table_groups.specs.Slots.{some_in}
use Rattle.table_groups.specs.View.{occupant_at}
use Rattle.table_risk.proofs.MaskGaps.{count_more, plus_zero}
use Rattle.table_risk.proofs.text.used_buckets.Goals as goal
use Rattle.table_risk.proofs.text.used_buckets.Goals.{then-is_used, else-is_used}

pub loop-bucket-preserved : goal.loop-bucket-preserved
loop-bucket-preserved g c =
    let used : ℕ → Bool = λ bucket. some_in is_some (occupant_at (g.T.TableView.view c.args.tables.now) c.args.in_new bucket) in
    elim c.if-is_used.branch [
      | then-is_used w ↦ record {
        value = count_more used c.loop-bucket.bucket c.loop-bucket.count c.if-is_used.count true c.loop-bucket.invariant.value
            (sym c.is_used.ensures ∙ w.if-is_used.true) w.count-is;
        few = omega (arith, w.count-is, c.loop-bucket.invariant.few);
      }
      | else-is_used w ↦ record {
        value = count_more used c.loop-bucket.bucket c.loop-bucket.count c.if-is_used.count false c.loop-bucket.invariant.value
            (sym c.is_used.ensures ∙ w.if-is_used.false) (w.count-is ∙ plus_zero c.loop-bucket.count);
        few = omega (arith, w.count-is, c.loop-bucket.invariant.few);
      }
    ]
