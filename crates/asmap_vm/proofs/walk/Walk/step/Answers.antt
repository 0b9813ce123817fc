use Rattle.std.proofs.Common.{◌≡◌, ℕ, ◌+◌, ◌-◌, sym, ◌∙◌, arith}
use Rattle.asmap_vm.specs.declared.instruction.Instruction.TheVariants as instructions
use Rattle.asmap_vm.specs.Walking.{Answers}
use Rattle.asmap_vm.specs.Matches.{match_size}
use Rattle.asmap_vm.proofs.MatchLaws.{match_range}
use Rattle.asmap_vm.proofs.StepLaws.{Reads, reads_as}
use Rattle.asmap_vm.proofs.WalkLaws.{opened, next_ahead, return_answers, default_answers, Sides, jump_answers, Matching, match_answers}
use Rattle.asmap_vm.proofs.walk.Walk.step.Goals.{In-Return, In-Jump, In-Match, In-Default}
use Rattle.asmap_vm.proofs.walk.Walk.step.Goals as goal

pub unreachable-requires : goal.unreachable-requires
unreachable-requires c =
    let a = c.requires.ahead in
    c.in_default.ensures.only _ _ (next_ahead c.args.bits.now c.args.address c.args.self.now a.0 a.1)

read_return : (c : In-Return) → Reads c.args.bits.now c.args.self.now.offset (instructions.Return c.in-Return.asn) c.in-Some.next
read_return c = reads_as _ _ _ _ _ c.in-Return.is c.in-Some.ensures.offset c.in-Some.ensures.found c.in-Some.ensures.only

read_default : (c : In-Default) → Reads c.args.bits.now c.args.self.now.offset (instructions.Default c.in-Default.asn) c.in-Some.next
read_default c = reads_as _ _ _ _ _ c.in-Default.is c.in-Some.ensures.offset c.in-Some.ensures.found c.in-Some.ensures.only

sides : (c : In-Jump) (answer : ℕ) → Answers c.args.bits.now c.args.address c.args.self.now answer → Sides c.args.bits.now c.args.address c.args.self.now.left c.args.self.now.default c.in-Some.next answer c.in-Jump.over
sides c answer a =
    let reads : Reads c.args.bits.now c.args.self.now.offset (instructions.Jump c.in-Jump.over) c.in-Some.next = reads_as _ _ _ _ _ c.in-Jump.is c.in-Some.ensures.offset c.in-Some.ensures.found c.in-Some.ensures.only in
    jump_answers _ _ _ _ _ _ c.in-Jump.over (opened c.args.bits.now c.args.address c.args.self.now c.in-Some.next _ answer reads a)

read_match : (c : In-Match) → Reads c.args.bits.now c.args.self.now.offset (instructions.Match c.in-Match.number) c.in-Some.next
read_match c = reads_as _ _ _ _ _ c.in-Match.is c.in-Some.ensures.offset c.in-Some.ensures.found c.in-Some.ensures.only

matching : (c : In-Match) (answer : ℕ) → Answers c.args.bits.now c.args.address c.args.self.now answer → Matching c.args.bits.now c.args.address c.args.self.now.left c.args.self.now.default c.in-Some.next answer c.in-Match.number
matching c answer a =
    match_answers _ _ _ _ _ _ c.in-Match.number (opened c.args.bits.now c.args.address c.args.self.now c.in-Some.next _ answer (read_match c) a)

pub returns-in-Return-clause-gives : goal.returns-in-Return-clause-gives
returns-in-Return-clause-gives c = λ answer a.
    return_answers _ _ _ _ _ _ c.in-Return.asn (opened c.args.bits.now c.args.address c.args.self.now c.in-Some.next _ answer (read_return (goal.at.returns-in-Return-clause-gives c).In-Return) a)

pub returns-in-Default-clause-gives : goal.returns-in-Default-clause-gives
returns-in-Default-clause-gives c = λ answer a.
    default_answers _ _ _ _ _ _ c.in-Default.asn (opened c.args.bits.now c.args.address c.args.self.now c.in-Some.next _ answer (read_default (goal.at.returns-in-Default-clause-gives c).In-Default) a)

pub overflow_sub-self : goal.overflow_sub-self
overflow_sub-self c = (sides c c.requires.ahead.0 c.requires.ahead.1).taken

pub match_size-requires-clause-low : goal.match_size-requires-clause-low
match_size-requires-clause-low c = (match_range c.in-Match.number (read_match c).is_next.value).0

pub match_size-requires-clause-high : goal.match_size-requires-clause-high
match_size-requires-clause-high c = (match_range c.in-Match.number (read_match c).is_next.value).1

pub overflow_sub-self-in-Match : goal.overflow_sub-self-in-Match
overflow_sub-self-in-Match c =
    let m = matching (goal.at.overflow_sub-self-in-Match c).In-Match c.requires.ahead.0 c.requires.ahead.1 in
    rw c.match_size.ensures.size m.fits

pub is_matched-requires-clause-high : goal.is_matched-requires-clause-high
is_matched-requires-clause-high c =
    (match_range c.in-Match.number (read_match (goal.at.is_matched-requires-clause-high c).In-Match).is_next.value).1

pub returns-then-not-is_matched-clause-gives : goal.returns-then-not-is_matched-clause-gives
returns-then-not-is_matched-clause-gives c = λ answer a.
    let m = matching (goal.at.returns-then-not-is_matched-clause-gives c).In-Match answer a in
    let whole : c.args.self.now.left - c.match_size.result + match_size c.in-Match.number ≡ c.args.self.now.left = omega (arith, c.match_size.ensures.size, m.fits) in
    m.differs (sym (rw whole at c.is_matched.ensures) ∙ c.if-not-is_matched.true)

pub returns-else-not-is_matched-clause-gives : goal.returns-else-not-is_matched-clause-gives
returns-else-not-is_matched-clause-gives c = λ answer a.
    let m = matching (goal.at.returns-else-not-is_matched-clause-gives c).In-Match answer a in
    let whole : c.args.self.now.left - c.match_size.result + match_size c.in-Match.number ≡ c.args.self.now.left = omega (arith, c.match_size.ensures.size, m.fits) in
    rw c.match_size.ensures.size (m.same (sym (rw whole at c.is_matched.ensures) ∙ c.if-not-is_matched.false))

pub returns-then-has_bit-clause-offset : goal.returns-then-has_bit-clause-offset
returns-then-has_bit-clause-offset c =
    let s = sides (goal.at.returns-then-has_bit-clause-offset c).In-Jump c.requires.ahead.0 c.requires.ahead.1 in
    (omega (arith, c.in-Some.ensures.offset), s.within c.in-Some.ensures.offset.1)

pub returns-then-has_bit-clause-gives : goal.returns-then-has_bit-clause-gives
returns-then-has_bit-clause-gives c = λ answer a.
    (sides (goal.at.returns-then-has_bit-clause-gives c).In-Jump answer a).one (sym c.has_bit.ensures ∙ c.if-has_bit.true)

pub returns-else-has_bit-clause-gives : goal.returns-else-has_bit-clause-gives
returns-else-has_bit-clause-gives c = λ answer a.
    (sides (goal.at.returns-else-has_bit-clause-gives c).In-Jump answer a).zero (sym c.has_bit.ensures ∙ c.if-has_bit.false)
