use Rattle.std.proofs.Common.{◌++◌, ap, ◌∙◌}
use Rattle.std.specs.Prelude.{codes}
use Rattle.picture_text.proofs.Texts.{two_parts}
use Rattle.table_picture.specs.Date.{date_of, date_text}
use Rattle.table_picture.specs.Facts.{newest_day}
use Rattle.table_picture.proofs.facts.put_newest_date.Goals as goal

pub returns : goal.returns
returns c =
    two_parts c.args.out.now.items (codes ", newest time ") (date_text (date_of (newest_day c.args.recs.now))) c.put_text.new.out.items c.put_date.new.out.items
    c.in_ok-put_text.ensures.ok
    (c.in_ok-put_date.ensures ∙ ap (λ date. c.put_text.new.out.items ++ date_text date) (c.date_of-date.ensures ∙ ap date_of c.newest_day.ensures))
