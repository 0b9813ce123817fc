use Rattle.addrman_run.proofs.Anchoring.{large_anchors}
use Rattle.addrman_run.proofs.list_anchors.ListAnchorsFileLine.input.Goals as goal

pub returns-clause-large : goal.returns-clause-large
returns-clause-large c = λ past size large. large_anchors c.args.self.now.chain past size large
