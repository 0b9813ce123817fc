use Rattle.risk_parts.proofs.Sums.{fits_new, fits_tried, told}
use Rattle.risk_parts.proofs.parts.parts_among.Goals as goal

pub parts_in-requires-clause-new : goal.parts_in-requires-clause-new
parts_in-requires-clause-new c = fits_new c.requires.0 c.requires.1 _ _ _ _ c.requires.2 c.args.sets.now

pub parts_in-requires-clause-tried : goal.parts_in-requires-clause-tried
parts_in-requires-clause-tried c = fits_tried c.requires.0 c.requires.1 _ _ _ _ c.requires.2 c.args.sets.now

pub returns : goal.returns
returns c = told c.parts_in.result c.args.leads.now c.args.new.now c.args.tried.now c.args.wanted c.args.sets.now c.parts_in.ensures
