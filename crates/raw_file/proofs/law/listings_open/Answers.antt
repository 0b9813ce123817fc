use Rattle.raw_file.proofs.Filled.{opens_all}
use Rattle.raw_file.proofs.law.listings_open.Goals as goal

pub returns : goal.returns
returns c = λ bytes raw places is none. opens_all bytes raw places is none c.openings_lose_with_causes.ensures.file
