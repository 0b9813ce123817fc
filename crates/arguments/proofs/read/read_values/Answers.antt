use Rattle.std.proofs.Common.{rules}
use Rattle.arguments.proofs.Asking.{no_fields}
use Rattle.arguments.proofs.read.read_values.Goals as goal

pub returns-in-Err-clause-none : goal.returns-in-Err-clause-none
returns-in-Err-clause-none g c =
    no_fields g.R.Fields.kinds _ c.in-Err.field-0 (λ memory. c.requires (c.read_fields.ensures.memory (search (rules, memory))))
    (λ other. c.read_fields.ensures.fault c.in-Err.field-0 (search rules) other)
