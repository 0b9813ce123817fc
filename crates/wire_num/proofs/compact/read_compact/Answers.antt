use Rattle.std.proofs.Common.{arith}
use Rattle.wire_num.proofs.CompactLaws.{answer_found, answer_only, answer_cause}
use Rattle.wire_num.proofs.compact.read_compact.Goals as goal

pub returns-clause-found : goal.returns-clause-found
returns-clause-found c = answer_found c.args.bytes.now c.compact_of.result (λ i. omega (arith, c.type_inv.bytes i)) c.compact_of.ensures

pub returns-clause-only : goal.returns-clause-only
returns-clause-only c = answer_only c.args.bytes.now c.compact_of.result c.compact_of.ensures

pub returns-clause-cause : goal.returns-clause-cause
returns-clause-cause c = answer_cause c.args.bytes.now c.compact_of.result (λ i. omega (arith, c.type_inv.bytes i)) c.compact_of.ensures
