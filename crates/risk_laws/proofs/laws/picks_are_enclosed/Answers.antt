use Rattle.risk_laws.proofs.ListsOf.{by_either, by_new, by_search, by_tried}
use Rattle.risk_laws.proofs.laws.picks_are_enclosed.Goals as goal

pub returns-clause-search : goal.returns-clause-search
returns-clause-search c = by_search

pub returns-clause-either : goal.returns-clause-either
returns-clause-either c = by_either

pub returns-clause-new : goal.returns-clause-new
returns-clause-new c = by_new

pub returns-clause-tried : goal.returns-clause-tried
returns-clause-tried c = by_tried
