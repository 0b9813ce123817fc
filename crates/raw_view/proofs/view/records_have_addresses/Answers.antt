use Rattle.raw_view.proofs.Addresses.{listed-peers}
use Rattle.raw_view.proofs.view.records_have_addresses.Goals as goal

pub returns : goal.returns
returns c = λ places bytes raw is in_new bucket slot. listed-peers places bytes raw is in_new bucket slot
