use Rattle.std.proofs.Common.{add-one}
use Rattle.host_io.proofs.LineLaws.{lines-cut}
use Rattle.host_io.proofs.lines.split_line.Goals as goal

pub returns-clause-first : goal.returns-clause-first
returns-clause-first c =
    let end = c.line_end.ensures in
    rw (c.cut_at.ensures.before, c.cut_at.ensures.after, add-one) (lines-cut c.args.text.now c.line_end.result c.requires end.within end.no_feed end.feed)
