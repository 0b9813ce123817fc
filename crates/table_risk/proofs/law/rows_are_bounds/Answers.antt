use Rattle.table_risk.proofs.BoundsOf.{by_new, by_picks, by_tried}
use Rattle.table_risk.proofs.Lasting.{same_text}
use Rattle.table_risk.proofs.law.rows_are_bounds.Goals as goal

pub returns-clause-picks : goal.returns-clause-picks
returns-clause-picks c = λ st by g now first n theirs sound are. by_picks st by now g theirs sound are n

pub returns-clause-new : goal.returns-clause-new
returns-clause-new c = λ st by g now first n theirs sound are. by_new st by now g theirs sound are n

pub returns-clause-tried : goal.returns-clause-tried
returns-clause-tried c = λ st by g now first n theirs sound are. by_tried st by now g theirs sound are n

pub returns-clause-later : goal.returns-clause-later
returns-clause-later c = λ st by now later text none one two is. same_text st none now later one two by text is
