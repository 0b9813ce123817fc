use Rattle.std.proofs.Common.{◌<◌, ◌∷◌, List, length, refl, ap, sym, ◌∙◌, arith}
use Rattle.asmap_vm.specs.declared.instruction.Instruction.TheVariants as instructions
use Rattle.prefix_table.specs.declared.rows.Row.{Row}
use Rattle.asmap_back.specs.Ahead.{AreAhead}
use Rattle.asmap_back.specs.declared.part.Part.{Part}
use Rattle.asmap_back.proofs.Steps.{Opened, first_ahead, opened, reads_as, after_return, after_default, after_jump, after_match_bits, jump_fits, match_fits, JumpFits, MatchFits, part_fits, given_as, sides_first}
use Rattle.asmap_back.proofs.reading.Reading.step.Goals.{In-Return, In-Jump, In-Match, In-Default}
use Rattle.asmap_back.proofs.reading.Reading.step.Goals as goal

pub first_instruction-instruction-requires-clause-tree : goal.first_instruction-instruction-requires-clause-tree
first_instruction-instruction-requires-clause-tree c =
    let self = c.args.self.now in
    let f = first_ahead c.args.bits.now self.offset c.args.part self.parts c.requires.ahead.0 c.requires.ahead.1 in
    (f.left, (f.tree, (f.rest, f.has)))

open_return : (c : In-Return) (left : List Row) → AreAhead c.args.bits.now c.args.self.now.offset (c.args.part ∷ c.args.self.now.parts) left → Opened c.args.bits.now c.first_instruction-instruction.result.1 (instructions.Return c.in-Return.asn) c.args.part c.args.self.now.parts left
open_return c left h =
    let read = c.first_instruction-instruction in
    opened _ _ _ _ _ _ _ (reads_as _ c.args.self.now.offset read.result _ c.in-Return.is read.ensures.first) h

open_jump : (c : In-Jump) (left : List Row) → AreAhead c.args.bits.now c.args.self.now.offset (c.args.part ∷ c.args.self.now.parts) left → Opened c.args.bits.now c.first_instruction-instruction.result.1 (instructions.Jump c.in-Jump.field-0) c.args.part c.args.self.now.parts left
open_jump c left h =
    let read = c.first_instruction-instruction in
    opened _ _ _ _ _ _ _ (reads_as _ c.args.self.now.offset read.result _ c.in-Jump.is read.ensures.first) h

open_match : (c : In-Match) (left : List Row) → AreAhead c.args.bits.now c.args.self.now.offset (c.args.part ∷ c.args.self.now.parts) left → Opened c.args.bits.now c.first_instruction-instruction.result.1 (instructions.Match c.in-Match.number) c.args.part c.args.self.now.parts left
open_match c left h =
    let read = c.first_instruction-instruction in
    opened _ _ _ _ _ _ _ (reads_as _ c.args.self.now.offset read.result _ c.in-Match.is read.ensures.first) h

open_default : (c : In-Default) (left : List Row) → AreAhead c.args.bits.now c.args.self.now.offset (c.args.part ∷ c.args.self.now.parts) left → Opened c.args.bits.now c.first_instruction-instruction.result.1 (instructions.Default c.in-Default.asn) c.args.part c.args.self.now.parts left
open_default c left h =
    let read = c.first_instruction-instruction in
    opened _ _ _ _ _ _ _ (reads_as _ c.args.self.now.offset read.result _ c.in-Default.is read.ensures.first) h

jump_here : (c : In-Jump) → JumpFits c.args.part
jump_here c = jump_fits _ _ _ _ _ _ (open_jump c c.requires.ahead.0 c.requires.ahead.1)

pub sides-requires-clause-len : goal.sides-requires-clause-len
sides-requires-clause-len c = (jump_here (goal.at.sides-requires-clause-len c).In-Jump).len

pub sides-requires-clause-room : goal.sides-requires-clause-room
sides-requires-clause-room c = (jump_here (goal.at.sides-requires-clause-room c).In-Jump).room

jump_few : (c : In-Jump) → length c.args.self.now.parts < 128
jump_few c =
    let o = open_jump c c.requires.ahead.0 c.requires.ahead.1 in
    omega (arith, o.few, (jump_here c).len)

pub push-requires : goal.push-requires
push-requires c = omega (arith, jump_few (goal.at.push-requires c).In-Jump)

pub push-requires-in-Jump : goal.push-requires-in-Jump
push-requires-in-Jump c =
    omega (arith, jump_few (goal.at.push-requires-in-Jump c).In-Jump, ap (λ (ps : List Part). length ps) c.push.ensures)

match_here : (c : In-Match) → MatchFits c.args.part c.in-Match.number
match_here c = match_fits _ _ _ _ _ _ (open_match c c.requires.ahead.0 c.requires.ahead.1)

pub after_match-requires-clause-high : goal.after_match-requires-clause-high
after_match-requires-clause-high c = (match_here (goal.at.after_match-requires-clause-high c).In-Match).high

pub after_match-requires-clause-len : goal.after_match-requires-clause-len
after_match-requires-clause-len c = (match_here (goal.at.after_match-requires-clause-len c).In-Match).len

pub after_match-requires-clause-room : goal.after_match-requires-clause-room
after_match-requires-clause-room c = (match_here (goal.at.after_match-requires-clause-room c).In-Match).room

pub push-requires-in-Match : goal.push-requires-in-Match
push-requires-in-Match c =
    part_fits _ _ _ _ _ _ (open_match (goal.at.push-requires-in-Match c).In-Match c.requires.ahead.0 c.requires.ahead.1)

pub push-requires-in-Default : goal.push-requires-in-Default
push-requires-in-Default c =
    part_fits _ _ _ _ _ _ (open_default (goal.at.push-requires-in-Default c).In-Default c.requires.ahead.0 c.requires.ahead.1)

pub returns-in-Return-clause-gives : goal.returns-in-Return-clause-gives
returns-in-Return-clause-gives c = λ left h.
    let place = (goal.at.returns-in-Return-clause-gives c).In-Return in
    given_as _ _ _ _ _ _ left refl (sym c.row_unless_same.ensures) (after_return _ _ _ _ _ _ (open_return place left h))

pub returns-in-Jump-clause-gives : goal.returns-in-Jump-clause-gives
returns-in-Jump-clause-gives c = λ left h.
    let place = (goal.at.returns-in-Jump-clause-gives c).In-Jump in
    let first = sides_first c.push-in-Jump.new.self c.push.new.self c.args.self.now.parts c.sides.result.0 c.sides.result.1 c.args.part c.push-in-Jump.ensures c.push.ensures c.sides.ensures.zero c.sides.ensures.one in
    given_as _ _ _ _ _ _ left first refl (after_jump _ _ _ _ _ _ (open_jump place left h))

pub returns-in-Match-clause-gives : goal.returns-in-Match-clause-gives
returns-in-Match-clause-gives c = λ left h.
    let place = (goal.at.returns-in-Match-clause-gives c).In-Match in
    let first = sym (c.push-in-Match.ensures ∙ ap (λ (p : Part). p ∷ c.args.self.now.parts) c.after_match.ensures) in
    given_as _ _ _ _ _ _ left first (sym c.row_unless_same-in-Match.ensures) (after_match_bits _ _ _ _ _ _ (open_match place left h))

pub returns-in-Default-clause-gives : goal.returns-in-Default-clause-gives
returns-in-Default-clause-gives c = λ left h.
    let place = (goal.at.returns-in-Default-clause-gives c).In-Default in
    given_as _ _ _ _ _ _ left (sym c.push-in-Default.ensures) refl (after_default _ _ _ _ _ _ (open_default place left h))
