use Rattle.names.proofs.Checksums.{one_checksum}
use Rattle.names.proofs.law.checksums_are_determined.Goals as goal

pub returns : goal.returns
returns c = λ letters other a b h k e. one_checksum letters other a b h k e
