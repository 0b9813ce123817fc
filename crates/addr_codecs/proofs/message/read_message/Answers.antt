use Rattle.std.proofs.Common.{arith}
use Rattle.addr_codecs.proofs.MessageLaws.{answers_in}
use Rattle.addr_codecs.proofs.message.read_message.Goals as goal

pub returns-clause-found : goal.returns-clause-found
returns-clause-found c = (answers_in c.args.form c.args.bytes.now c.read_whole.result (λ i. omega (arith, c.type_inv.bytes i)) c.read_whole.ensures.found).found

pub returns-clause-only : goal.returns-clause-only
returns-clause-only c = (answers_in c.args.form c.args.bytes.now c.read_whole.result (λ i. omega (arith, c.type_inv.bytes i)) c.read_whole.ensures.found).only

pub returns-clause-cause : goal.returns-clause-cause
returns-clause-cause c = (answers_in c.args.form c.args.bytes.now c.read_whole.result (λ i. omega (arith, c.type_inv.bytes i)) c.read_whole.ensures.found).cause

pub returns-clause-first : goal.returns-clause-first
returns-clause-first c = (answers_in c.args.form c.args.bytes.now c.read_whole.result (λ i. omega (arith, c.type_inv.bytes i)) c.read_whole.ensures.found).first
