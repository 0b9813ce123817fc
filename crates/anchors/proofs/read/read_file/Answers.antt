use Rattle.std.proofs.Common.{arith, subst}
use Rattle.wire_num.specs.Readings.{all_of}
use Rattle.anchors.specs.Readings.{GivesUnlessMemory, body_at}
use Rattle.anchors.specs.declared.fault.AnchorsFault.TheVariants.{Trailing}
use Rattle.anchors.proofs.FileLaws.{answers}
use Rattle.anchors.proofs.read.read_file.Goals as goal

pub returns-in-Ok-clause-found : goal.returns-in-Ok-clause-found
returns-in-Ok-clause-found c =
    (answers c.args.magic c.args.bytes.now (λ i. omega (arith, c.type_inv.bytes i)) c.in-Ok.ensures.0 c.read_body.result
    (subst (λ t. GivesUnlessMemory (λ anchors. anchors) c.read_body.result (all_of body_at Trailing t)) c.in-Ok.ensures.1 c.read_body.ensures.found)).found

pub returns-in-Ok-clause-only : goal.returns-in-Ok-clause-only
returns-in-Ok-clause-only c =
    (answers c.args.magic c.args.bytes.now (λ i. omega (arith, c.type_inv.bytes i)) c.in-Ok.ensures.0 c.read_body.result
    (subst (λ t. GivesUnlessMemory (λ anchors. anchors) c.read_body.result (all_of body_at Trailing t)) c.in-Ok.ensures.1 c.read_body.ensures.found)).only

pub returns-in-Ok-clause-cause : goal.returns-in-Ok-clause-cause
returns-in-Ok-clause-cause c =
    (answers c.args.magic c.args.bytes.now (λ i. omega (arith, c.type_inv.bytes i)) c.in-Ok.ensures.0 c.read_body.result
    (subst (λ t. GivesUnlessMemory (λ anchors. anchors) c.read_body.result (all_of body_at Trailing t)) c.in-Ok.ensures.1 c.read_body.ensures.found)).cause

pub returns-in-Ok-clause-first : goal.returns-in-Ok-clause-first
returns-in-Ok-clause-first c =
    (answers c.args.magic c.args.bytes.now (λ i. omega (arith, c.type_inv.bytes i)) c.in-Ok.ensures.0 c.read_body.result
    (subst (λ t. GivesUnlessMemory (λ anchors. anchors) c.read_body.result (all_of body_at Trailing t)) c.in-Ok.ensures.1 c.read_body.ensures.found)).first
