use Rattle.std.proofs.Common.{subst}
use Rattle.json.specs.Value.{value_view}
use Rattle.raw_read.specs.Rows.{HasRowFault}
use Rattle.raw_read.proofs.rows.read_row.Goals as goal

pub returns-in-Err-clause-cause : goal.returns-in-Err-clause-cause
returns-in-Err-clause-cause c =
    let j = value_view c.args.value.now in
    subst (λ name. HasRowFault c.args.table c.args.from c.args.index (name, j) c.in-Err.fault) c.as_bytes.ensures.value (c.in-Err.ensures.cause j)
