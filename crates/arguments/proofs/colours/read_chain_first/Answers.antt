use Rattle.arguments.proofs.colours.read_chain_first.Goals as goal

pub returns-in_default-clause-none : goal.returns-in_default-clause-none
returns-in_default-clause-none c = λ chain rest has. c.in_default.ensures.none has.0 has.1 rest has.3
