use Rattle.std.proofs.Common.{rules, ◌≡◌, ◌∙◌, ◌==◌, ◌+◌, ap, sym, true, false, length, slice_get, Some}
use Rattle.peer_rec.specs.Rec.{buckets_of}
use Rattle.table_plan.specs.Planned.{dropping}
use Rattle.table_plan.proofs.Dropping.{drop-bare, drop-listed}
use Rattle.table_plan.proofs.Plans.{at-get}
use Rattle.table_plan.proofs.plan.Plan.drop_if_unlisted.Goals as goal

pub returns-then-bucket_count-eq0-clause-state : goal.returns-then-bucket_count-eq0-clause-state
returns-then-bucket_count-eq0-clause-state c =
    let s = c.args.self.now in
    let r = c.index.result.now in
    let at : slice_get s.recs.items c.args.number ≡ Some r = at-get s.recs.items c.args.number r c.requires.number c.index.ensures in
    let bare : (length (buckets_of r) == 0) ≡ true = search rules in
    ap (dropping s.placer s.recs.items (c.args.number + 1)) c.delete.ensures.deleted
    ∙ sym (drop-bare s.placer s.recs.items s.news s.grid c.requires.plan c.args.number r at c.args.order.now bare)

pub returns-else-bucket_count-eq0-clause-state : goal.returns-else-bucket_count-eq0-clause-state
returns-else-bucket_count-eq0-clause-state c =
    let s = c.args.self.now in
    let r = c.index.result.now in
    let at : slice_get s.recs.items c.args.number ≡ Some r = at-get s.recs.items c.args.number r c.requires.number c.index.ensures in
    let some : (length (buckets_of r) == 0) ≡ false = search rules in
    sym (drop-listed s.placer s.recs.items s.news s.grid c.requires.plan c.args.number r at c.args.order.now some)
