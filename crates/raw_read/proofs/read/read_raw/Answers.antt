use Rattle.raw_read.proofs.OneFault.{exact_one}
use Rattle.raw_read.proofs.RawLaws.{only_one}
use Rattle.raw_read.proofs.read.read_raw.Goals as goal

pub returns-clause-only : goal.returns-clause-only
returns-clause-only c = only_one c.args.bytes.now c.read_tables.result c.read_tables.ensures.found c.read_tables.ensures.cause

pub returns-clause-exact : goal.returns-clause-exact
returns-clause-exact c = exact_one c.args.bytes.now c.read_tables.result c.read_tables.ensures.found c.read_tables.ensures.cause
