use Rattle.std.proofs.Common.{arith}
use Rattle.std.proofs.lemmas.Grind.{common_steps}
use Rattle.host_io.proofs.source.SureSourceSource.TheImpl.Goals as goal

pub read-tells : goal.read-tells
read-tells g c = grind (arith, common_steps)
