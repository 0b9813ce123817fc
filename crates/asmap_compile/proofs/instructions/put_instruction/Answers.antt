use Rattle.asmap_compile.proofs.CodeLaws.{kind_value}
use Rattle.asmap_compile.proofs.instructions.put_instruction.Goals as goal

pub put_number_front-requires-2 : goal.put_number_front-requires-2
put_number_front-requires-2 c = kind_value c.args.kind c.requires.kind
