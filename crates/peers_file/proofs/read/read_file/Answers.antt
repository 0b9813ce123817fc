use Rattle.std.proofs.Common.{arith, subst}
use Rattle.wire_num.specs.Readings.{all_of}
use Rattle.peers_file.specs.Readings.{GivesUnlessMemory, body_at}
use Rattle.peers_file.specs.declared.fault.FileFault.TheVariants.{Trailing}
use Rattle.peers_file.proofs.FileLaws.{answers}
use Rattle.peers_file.proofs.read.read_file.Goals as goal

pub returns-in-Ok-clause-found : goal.returns-in-Ok-clause-found
returns-in-Ok-clause-found c =
    (answers c.args.chain c.args.bytes.now (λ i. omega (arith, c.type_inv.bytes i)) c.in-Ok.ensures.0 c.read_body.result
    (subst (λ t. GivesUnlessMemory (λ snap. snap) c.read_body.result (all_of body_at Trailing t)) c.in-Ok.ensures.1 c.read_body.ensures)).found

pub returns-in-Ok-clause-only : goal.returns-in-Ok-clause-only
returns-in-Ok-clause-only c =
    (answers c.args.chain c.args.bytes.now (λ i. omega (arith, c.type_inv.bytes i)) c.in-Ok.ensures.0 c.read_body.result
    (subst (λ t. GivesUnlessMemory (λ snap. snap) c.read_body.result (all_of body_at Trailing t)) c.in-Ok.ensures.1 c.read_body.ensures)).only

pub returns-in-Ok-clause-cause : goal.returns-in-Ok-clause-cause
returns-in-Ok-clause-cause c =
    (answers c.args.chain c.args.bytes.now (λ i. omega (arith, c.type_inv.bytes i)) c.in-Ok.ensures.0 c.read_body.result
    (subst (λ t. GivesUnlessMemory (λ snap. snap) c.read_body.result (all_of body_at Trailing t)) c.in-Ok.ensures.1 c.read_body.ensures)).cause

pub returns-in-Ok-clause-first : goal.returns-in-Ok-clause-first
returns-in-Ok-clause-first c =
    (answers c.args.chain c.args.bytes.now (λ i. omega (arith, c.type_inv.bytes i)) c.in-Ok.ensures.0 c.read_body.result
    (subst (λ t. GivesUnlessMemory (λ snap. snap) c.read_body.result (all_of body_at Trailing t)) c.in-Ok.ensures.1 c.read_body.ensures)).first
