use Rattle.arguments.proofs.opener_options.cut_exempt.Goals as goal

pub returns-in_default-clause-rest : goal.returns-in_default-clause-rest
returns-in_default-clause-rest c = λ text rest begins. absurd (c.in_default.ensures.none text rest begins)
