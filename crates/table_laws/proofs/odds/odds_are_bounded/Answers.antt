use Rattle.table_laws.proofs.OddsOf.{at_least_new, at_least_tried, by_gaps, by_peers, by_slots}
use Rattle.table_laws.proofs.odds.odds_are_bounded.Goals as goal

pub returns-clause-gaps : goal.returns-clause-gaps
returns-clause-gaps c = λ st in_new nets now factor test sound. by_gaps st sound nets now factor in_new test

pub returns-clause-peers : goal.returns-clause-peers
returns-clause-peers c = λ st in_new nets now factor test sound. by_peers st sound nets now factor in_new test

pub returns-clause-slots : goal.returns-clause-slots
returns-clause-slots c = by_slots

pub returns-clause-least_new : goal.returns-clause-least_new
returns-clause-least_new c = λ st nets now factor r sound has wanted. at_least_new st sound nets now factor r has wanted

pub returns-clause-least_tried : goal.returns-clause-least_tried
returns-clause-least_tried c = λ st nets now factor r sound has wanted tried. at_least_tried st sound nets now factor r has wanted tried
