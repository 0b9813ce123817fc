use Rattle.asmap_compile.proofs.CodeLaws.{jump_code}
use Rattle.asmap_compile.proofs.instructions.put_jump.Goals as goal

pub returns : goal.returns
returns c = λ l r rest over e. rw (jump_code l r rest, ← over, ← e) c.put_instruction.ensures
