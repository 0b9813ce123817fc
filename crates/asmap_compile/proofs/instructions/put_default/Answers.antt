use Rattle.asmap_compile.proofs.CodeLaws.{default_code}
use Rattle.asmap_compile.proofs.instructions.put_default.Goals as goal

pub returns : goal.returns
returns c = λ t rest e. rw (default_code c.args.asn t rest, ← e) c.put_instruction.ensures
