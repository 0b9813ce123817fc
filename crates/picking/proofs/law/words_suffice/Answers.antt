use Rattle.picking.proofs.SampleLaws.{suffices}
use Rattle.picking.proofs.law.words_suffice.Goals as goal

pub returns : goal.returns
returns c = suffices
