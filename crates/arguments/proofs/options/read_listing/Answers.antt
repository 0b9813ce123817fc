use Rattle.arguments.proofs.Choosing.{only_with, only_without}
use Rattle.arguments.proofs.options.read_listing.Goals as goal

pub returns-in-Some-clause-only : goal.returns-in-Some-clause-only
returns-in-Some-clause-only c = only_without _ _ _ c.in-Some.ensures.found c.listing_of.ensures.only

pub returns-in-None-clause-only : goal.returns-in-None-clause-only
returns-in-None-clause-only c = only_with _ _ c.in-None.ensures.none c.listing_of-in-None.ensures.only
