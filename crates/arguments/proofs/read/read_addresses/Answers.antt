use Rattle.std.proofs.Common.{refl, rules}
use Rattle.arguments.proofs.Asking.{found_addresses, no_addresses}
use Rattle.arguments.proofs.read.read_addresses.Goals as goal

pub returns-in-Some-clause-found : goal.returns-in-Some-clause-found
returns-in-Some-clause-found c = (refl, found_addresses _ _ _ c.is_dash.ensures c.if-is_dash.false c.in-Some.ensures.found)

pub returns-in-None-clause-none : goal.returns-in-None-clause-none
returns-in-None-clause-none c = no_addresses _ _ c.read_address.result c.is_dash.ensures c.if-is_dash.false c.read_address.ensures.only (search rules)
