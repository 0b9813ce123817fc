use Rattle.std.proofs.Common.{rules}
use Rattle.addrman_run.proofs.list_anchors.ListAnchorsFileLine.line_of.Goals as goal

pub returns-in-Err-clause-anchors : goal.returns-in-Err-clause-anchors
returns-in-Err-clause-anchors c = λ fault is past loaded. (
  λ memory. search (rules, is, memory),
  (c.args.bytes.now, loaded.1, search (rules, is)),
)
