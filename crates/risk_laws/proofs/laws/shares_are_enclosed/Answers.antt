use Rattle.risk_laws.proofs.EnclosuresOf.{at_least, at_most}
use Rattle.risk_laws.proofs.laws.shares_are_enclosed.Goals as goal

pub returns-clause-most : goal.returns-clause-most
returns-clause-most c = λ st in_new nets now unit busy ahead n factor test sound some whole. at_most st sound in_new nets now busy some whole test ahead n unit factor

pub returns-clause-least : goal.returns-clause-least
returns-clause-least c = λ st in_new nets now unit busy ahead n factor test sound some whole. at_least st sound in_new nets now busy some whole test ahead n unit factor
