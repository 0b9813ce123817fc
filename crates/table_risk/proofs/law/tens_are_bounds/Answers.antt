use Rattle.std.proofs.Common.{◌^◌}
use Rattle.risk_parts.specs.Sets.{is_among}
use Rattle.table_risk.specs.Tens.{groups_among}
use Rattle.table_risk.proofs.TensOf.{are_groups, in_millionths, same_part}
use Rattle.table_risk.proofs.law.tens_are_bounds.Goals as goal

pub returns-clause-all : goal.returns-clause-all
returns-clause-all c = λ st sets now n m sound.
    in_millionths _ (((2 ^ 64) ^ n) ^ m) _ (c.tries_are_bounded.ensures.whole st now n m (is_among st.places sets))
    (c.tries_are_bounded.ensures.part st now n m (2 ^ 62) (is_among st.places sets) (groups_among st sets) sound (are_groups st sets))

pub returns-clause-later : goal.returns-clause-later
returns-clause-later c = λ st sets now later none one two. same_part st none now later one two sets
