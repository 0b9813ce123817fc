use Rattle.asmap_compile.proofs.BetweenLaws.{between_value}
use Rattle.asmap_compile.proofs.CodeLaws.{match_code}
use Rattle.asmap_compile.specs.Inside.{bits_between}
use Rattle.asmap_compile.proofs.instructions.put_match.Goals as goal

pub put_instruction-requires-clause-number : goal.put_instruction-requires-clause-number
put_instruction-requires-clause-number c = rw c.match_number.ensures (between_value c.args.bits c.args.from c.args.to c.requires.some c.requires.few)

pub returns : goal.returns
returns c = λ t rest e. rw (match_code (bits_between c.args.bits c.args.from c.args.to) t rest, ← e, ← c.match_number.ensures) c.put_instruction.ensures
