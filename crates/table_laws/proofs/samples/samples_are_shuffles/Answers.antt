use Rattle.table_laws.proofs.SamplesOf.{sample-is}
use Rattle.table_laws.proofs.samples.samples_are_shuffles.Goals as goal

pub returns : goal.returns
returns c = λ st most percent classes words now enough. sample-is classes now st most percent words enough
