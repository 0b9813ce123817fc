use Rattle.asmap_compile.proofs.CodeLaws.{return_code}
use Rattle.asmap_compile.proofs.instructions.put_return.Goals as goal

pub returns : goal.returns
returns c = rw (return_code c.args.asn c.args.out.now) c.put_instruction.ensures
