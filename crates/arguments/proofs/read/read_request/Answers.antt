use Rattle.arguments.proofs.Asking.{proper_asked}
use Rattle.arguments.proofs.read.read_request.Goals as goal

pub returns-clause-proper : goal.returns-clause-proper
returns-clause-proper c = proper_asked c.texts_have_one_meaning.ensures.proper _ _ c.request_of.ensures.found
