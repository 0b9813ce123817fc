use Rattle.std.proofs.Common.{arith}
use Rattle.asmap_vm.specs.declared.instruction.Instruction.TheVariants as instructions
use Rattle.asmap_vm.proofs.MatchLaws.{match_range}
use Rattle.asmap_vm.proofs.StepLaws.{Reads, reads_as, more_true, insane_false, fails, no_default, default_advances, no_match, match_advances, no_jump, jump_advances, no_return, return_ends, return_stuck, return_advances, no_instruction}
use Rattle.asmap_vm.proofs.scan.Scan.step.Goals.{In-Return, In-Jump, In-Match, In-Default}
use Rattle.asmap_vm.proofs.scan.Scan.step.Goals as goal

pub returns-in_default-clause-insane : goal.returns-in_default-clause-insane
returns-in_default-clause-insane c = λ _. no_instruction c.args.bits.now c.args.self.now (c.in_default.ensures.only)

read_return : (c : In-Return) → Reads c.args.bits.now c.args.self.now.offset (instructions.Return c.in-Return.field-0) c.in-Some.next
read_return c = reads_as _ _ _ _ _ c.in-Return.is c.in-Some.ensures.offset c.in-Some.ensures.found c.in-Some.ensures.only

read_jump : (c : In-Jump) → Reads c.args.bits.now c.args.self.now.offset (instructions.Jump c.in-Jump.over) c.in-Some.next
read_jump c = reads_as _ _ _ _ _ c.in-Jump.is c.in-Some.ensures.offset c.in-Some.ensures.found c.in-Some.ensures.only

read_match : (c : In-Match) → Reads c.args.bits.now c.args.self.now.offset (instructions.Match c.in-Match.number) c.in-Some.next
read_match c = reads_as _ _ _ _ _ c.in-Match.is c.in-Some.ensures.offset c.in-Some.ensures.found c.in-Some.ensures.only

read_default : (c : In-Default) → Reads c.args.bits.now c.args.self.now.offset (instructions.Default c.in-Default.field-0) c.in-Some.next
read_default c = reads_as _ _ _ _ _ c.in-Default.is c.in-Some.ensures.offset c.in-Some.ensures.found c.in-Some.ensures.only

pub match_bits-requires-clause-low : goal.match_bits-requires-clause-low
match_bits-requires-clause-low c =
    (match_range c.in-Match.number (read_match (goal.at.match_bits-requires-clause-low c).In-Match).is_next.value).0

pub match_bits-requires-clause-high : goal.match_bits-requires-clause-high
match_bits-requires-clause-high c =
    (match_range c.in-Match.number (read_match (goal.at.match_bits-requires-clause-high c).In-Match).is_next.value).1

pub returns-in-Jump-clause-more : goal.returns-in-Jump-clause-more
returns-in-Jump-clause-more c = λ h.
    let went = more_true c.jump.result c.more_if.result c.more_if.ensures h in
    rw (c.jump.ensures.left_part went)
    (jump_advances c.args.bits.now c.args.self.now c.in-Some.next c.in-Jump.over (read_jump (goal.at.returns-in-Jump-clause-more c).In-Jump) (c.jump.ensures.answer.0 went) c.requires.under_way)

pub returns-in-Jump-clause-insane : goal.returns-in-Jump-clause-insane
returns-in-Jump-clause-insane c = λ h.
    let refused = fails c.jump.result (insane_false c.jump.result c.more_if.result c.more_if.ensures h) c.jump.ensures.answer in
    no_jump c.args.bits.now c.args.self.now c.in-Some.next c.in-Jump.over (read_jump (goal.at.returns-in-Jump-clause-insane c).In-Jump) (omega arith)

pub returns-in-Match-clause-more : goal.returns-in-Match-clause-more
returns-in-Match-clause-more c = λ h.
    let went = more_true c.match_bits.result c.more_if-in-Match.result c.more_if-in-Match.ensures h in
    let answer = c.match_bits.ensures.answer.0 went in
    rw (c.match_bits.ensures.part went)
    (match_advances c.args.bits.now c.args.self.now c.in-Some.next c.in-Match.number (read_match (goal.at.returns-in-Match-clause-more c).In-Match) answer.0 answer.1 c.requires.under_way)

pub returns-in-Match-clause-insane : goal.returns-in-Match-clause-insane
returns-in-Match-clause-insane c = λ h.
    no_match c.args.bits.now c.args.self.now c.in-Some.next c.in-Match.number (read_match (goal.at.returns-in-Match-clause-insane c).In-Match)
    (fails c.match_bits.result (insane_false c.match_bits.result c.more_if-in-Match.result c.more_if-in-Match.ensures h) c.match_bits.ensures.answer)

pub returns-in-Default-clause-more : goal.returns-in-Default-clause-more
returns-in-Default-clause-more c = λ h.
    let went = more_true c.set_default.result c.more_if-in-Default.result c.more_if-in-Default.ensures h in
    rw (c.set_default.ensures.part went)
    (default_advances c.args.bits.now c.args.self.now c.in-Some.next c.in-Default.field-0 (read_default (goal.at.returns-in-Default-clause-more c).In-Default) (c.set_default.ensures.answer.0 went) c.requires.under_way)

pub returns-in-Default-clause-insane : goal.returns-in-Default-clause-insane
returns-in-Default-clause-insane c = λ h.
    no_default c.args.bits.now c.args.self.now c.in-Some.next c.in-Default.field-0 (read_default (goal.at.returns-in-Default-clause-insane c).In-Default)
    (fails c.set_default.result (insane_false c.set_default.result c.more_if-in-Default.result c.more_if-in-Default.ensures h) c.set_default.ensures.answer)

pub returns-then-is_default-clause-insane : goal.returns-then-is_default-clause-insane
returns-then-is_default-clause-insane c = λ _.
    no_return c.args.bits.now c.args.self.now c.in-Some.next c.in-Return.field-0 (read_return (goal.at.returns-then-is_default-clause-insane c).In-Return) (c.is_default.ensures.0 c.if-is_default.true)

pub returns-else-is_default-clause-more : goal.returns-else-is_default-clause-more
returns-else-is_default-clause-more c = λ h.
    let first = fails c.is_default.result c.if-is_default.false c.is_default.ensures in
    let m = c.end_part.ensures.more h in
    rw m.3
    (return_advances c.args.bits.now c.args.self.now c.in-Some.next c.in-Return.field-0 (read_return (goal.at.returns-else-is_default-clause-more c).In-Return) m.0 c.end_part.new.self.pending m.1 m.2 first c.requires.under_way)

pub returns-else-is_default-clause-sane : goal.returns-else-is_default-clause-sane
returns-else-is_default-clause-sane c = λ h.
    let first = fails c.is_default.result c.if-is_default.false c.is_default.ensures in
    let m = c.end_part.ensures.sane h in
    return_ends c.args.bits.now c.args.self.now c.in-Some.next c.in-Return.field-0 (read_return (goal.at.returns-else-is_default-clause-sane c).In-Return) first m.0 m.1

pub returns-else-is_default-clause-insane : goal.returns-else-is_default-clause-insane
returns-else-is_default-clause-insane c = λ h.
    return_stuck c.args.bits.now c.args.self.now c.in-Some.next c.in-Return.field-0 (read_return (goal.at.returns-else-is_default-clause-insane c).In-Return) (c.end_part.ensures.insane h)
