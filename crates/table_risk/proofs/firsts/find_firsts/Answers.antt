use Rattle.std.proofs.Common.{List, ℕ, length, ap, ◌∙◌}
use Rattle.table_groups.specs.Tally.{by_bytes, noted}
use Rattle.table_risk.specs.Inside.{lower}
use Rattle.table_risk.proofs.RowsOf.{index_more}
use Rattle.table_risk.proofs.firsts.find_firsts.Goals as goal

pub loop-index-preserved : goal.loop-index-preserved
loop-index-preserved g c =
    let now = by_bytes c.loop-index.firsts.entries in
    index_more c.args.placer.now c.args.by c.args.recs.now c.loop-index.index (length c.args.recs.now) c.index-recs-index.result now (by_bytes c.note_index.new.firsts.entries) c.loop-index-test.true
    c.index-recs-index.is c.loop-index.invariant
    (c.in_ok-note_index.ensures ∙ ap (λ (h : List ℕ). noted (length c.args.recs.now) lower now (h, c.loop-index.index)) c.group-group.ensures)
