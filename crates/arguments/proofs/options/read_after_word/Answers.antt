use Rattle.arguments.proofs.Choosing.{only_after_word}
use Rattle.arguments.proofs.options.read_after_word.Goals as goal

pub returns-then-eq-clause-only : goal.returns-then-eq-clause-only
returns-then-eq-clause-only c = only_after_word _ _ _ _ _ c.in_ok-first.ensures.some c.read_net.ensures.only
