use Rattle.asmap_compile.proofs.BetweenLaws.{match_number_is}
use Rattle.asmap_compile.proofs.instructions.match_number.Goals as goal

pub returns : goal.returns
returns c = match_number_is c.args.bits c.args.from c.args.to c.requires.some c.requires.few
