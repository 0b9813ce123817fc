use Rattle.raw_view.proofs.Named.{named}
use Rattle.raw_view.proofs.view.slots_are_named.Goals as goal

pub returns : goal.returns
returns c = λ table ms rows bucket position are. named table ms rows bucket position are
