use Rattle.std.proofs.Common.{◌<◌, arith}
use Rattle.std.proofs.lemmas.List.Elements.{All-from_get_or}
use Rattle.placing.proofs.placer.copied.Goals as goal

pub returns-clause-all : goal.returns-clause-all
returns-clause-all c = All-from_get_or (λ b. b < 256) c.args.key.now 0 (λ i _. omega (arith, c.type_inv.key i))
