use Rattle.arguments.proofs.Asking.{found_asks, only_asked}
use Rattle.arguments.proofs.Names.{word_found}
use Rattle.arguments.proofs.read.request_of.Goals as goal

pub returns-clause-found : goal.returns-clause-found
returns-clause-found c =
    found_asks _ _ _ _ _ _ c.in_ok-word.ensures.some c.plain_word-plain.ensures (word_found _ _ _ c.find_keyword.ensures c.in_ok-name.was) c.read_after.ensures.found

pub returns-clause-only : goal.returns-clause-only
returns-clause-only c =
    only_asked _ _ _ _ _ _ _ c.in_ok-word.ensures.some c.plain_word-plain.ensures c.find_keyword.ensures c.in_ok-name.was c.read_after.ensures.found c.read_after.ensures.none
