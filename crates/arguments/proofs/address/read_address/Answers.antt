use Rattle.arguments.proofs.Asking.{found_address, only_address}
use Rattle.arguments.proofs.address.read_address.Goals as goal

pub returns-in_default-clause-only : goal.returns-in_default-clause-only
returns-in_default-clause-only c = λ addr is. absurd (c.in_default.ensures.none is.0 is.1)

pub returns-clause-found : goal.returns-clause-found
returns-clause-found c = found_address _ _ _ c.in-Some.ensures.some c.parse_text.ensures.found

pub returns-clause-only : goal.returns-clause-only
returns-clause-only c = only_address _ _ _ c.in-Some.ensures.some c.parse_text.ensures.only
