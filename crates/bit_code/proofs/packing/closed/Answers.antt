use Rattle.std.proofs.Common.{arith}
use Rattle.bit_code.proofs.FileEnds.{closed_file, whole_file}
use Rattle.bit_code.proofs.packing.closed.Goals as goal

pub returns-then-rest_len-gt0 : goal.returns-then-rest_len-gt0
returns-then-rest_len-gt0 c = λ bits e.
    rw c.push_reserved.ensures.items (closed_file bits c.args.bytes.items c.args.rest_len c.args.rest (omega arith) c.requires.few c.requires.rest e)

pub returns-else-rest_len-gt0 : goal.returns-else-rest_len-gt0
returns-else-rest_len-gt0 c = λ bits e.
    whole_file bits c.args.bytes.items c.args.rest_len c.args.rest (omega arith) e
