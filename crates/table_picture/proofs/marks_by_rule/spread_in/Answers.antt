use Rattle.table_groups.specs.Tally.{by_bytes}
use Rattle.table_picture.proofs.Spreads.{spread-more}
use Rattle.table_picture.proofs.marks_by_rule.spread_in.Goals as goal

pub loop-source-preserved : goal.loop-source-preserved
loop-source-preserved g c =
    spread-more c.args.by c.unlisted_in-unlisted.result.now c.loop-source.source-index c.source-item.result (by_bytes c.loop-source.spread.entries) (by_bytes c.note_spread.new.marks.entries) c.loop-source-test.true
    c.source-item.is c.loop-source.invariant c.in_ok-note_spread.ensures
