use Rattle.asmap_compile.proofs.PartLaws.{longer_rest, longer_all}
use Rattle.asmap_compile.proofs.part.longer_rows.Goals as goal

pub returns-then-part-depth : goal.returns-then-part-depth
returns-then-part-depth c = λ table p left above default is. longer_rest table p left c.args.part.now c.args.depth above default is (record { bits = 0; len = 0; asn = 0 }) c.if-part-depth.true

pub returns-else-part-depth : goal.returns-else-part-depth
returns-else-part-depth c = λ table p left above default is. longer_all table p left c.args.part.now c.args.depth above default is (record { bits = 0; len = 0; asn = 0 }) c.if-part-depth.false
