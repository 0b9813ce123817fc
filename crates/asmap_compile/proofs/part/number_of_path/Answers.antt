use Rattle.asmap_compile.proofs.PartLaws.{number_first, number_above}
use Rattle.asmap_compile.proofs.part.number_of_path.Goals as goal

pub returns-then-part-depth : goal.returns-then-part-depth
returns-then-part-depth c = λ table p left default is. number_first table p left c.args.part.now c.args.depth c.args.above default is (record { bits = 0; len = 0; asn = 0 }) c.if-part-depth.true

pub returns-else-part-depth : goal.returns-else-part-depth
returns-else-part-depth c = λ table p left default is. number_above table p left c.args.part.now c.args.depth c.args.above default is (record { bits = 0; len = 0; asn = 0 }) c.if-part-depth.false
