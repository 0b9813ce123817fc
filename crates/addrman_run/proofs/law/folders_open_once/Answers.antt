use Rattle.std.proofs.Common.{refl}
use Rattle.addrman_run.proofs.OpeningLaws.{file_of, opens_once}
use Rattle.addrman_run.proofs.law.folders_open_once.Goals as goal

pub returns : goal.returns
returns c = λ key kind past map fits. opens_once key kind past map (file_of past) refl fits (c.files_have_one_meaning.ensures kind.chain)
