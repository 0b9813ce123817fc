use Rattle.std.proofs.Common.{refl}
use Rattle.opener_lines.specs.Laws.{letters}
use Rattle.opener_lines.proofs.read.read_request.Goals as goal

pub read_line-requires : goal.read_line-requires
read_line-requires c = λ k. ((refl, tt), letters)

pub returns-clause-only_fault : goal.returns-clause-only_fault
returns-clause-only_fault c = λ f h. c.read_line.ensures.only_fault f h.0 h.1
