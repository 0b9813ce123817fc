use Rattle.std.proofs.Common.{refl}
use Rattle.addrman_run.proofs.address_lines.AddressLinesLineStepsUnit.TheImpl.Goals as goal

pub keeps_world-tells : goal.keeps_world-tells
keeps_world-tells g c = λ is old new before after line text one. refl
