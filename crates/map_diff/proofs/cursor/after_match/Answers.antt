use Rattle.std.proofs.Common.{◌-◌}
use Rattle.map_diff.proofs.Cursors.{after_last, after_first}
use Rattle.map_diff.proofs.cursor.after_match.Goals as goal

pub returns-then-size-eq1 : goal.returns-then-size-eq1
returns-then-size-eq1 c = λ n f h.
    c.cursor_at.ensures (n - 1) _ (after_last c.args.bits.now n c.args.number c.args.size c.args.offset c.args.default f c.if-size-eq1.true h)

pub returns : goal.returns
returns c = λ n f h. after_first c.args.bits.now n c.args.number c.args.size c.args.offset c.args.default f c.if-size-eq1.false h
