use Rattle.bit_code.proofs.FrontNumbers.{kind_ahead}
use Rattle.bit_code.proofs.ahead.kind_ahead.Goals as goal

pub returns-clause-value : goal.returns-clause-value
returns-clause-value c = λ more.
    rw c.head_len.ensures.len (kind_ahead c.args.window _ more c.class_ahead-kind.ensures.class)
