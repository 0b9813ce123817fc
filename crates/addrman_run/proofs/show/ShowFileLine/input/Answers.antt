use Rattle.addrman_run.proofs.Showing.{too_large}
use Rattle.addrman_run.proofs.show.ShowFileLine.input.Goals as goal

pub returns-clause-large : goal.returns-clause-large
returns-clause-large c = λ past size large. too_large c.args.self.now.chain past size large
