use Rattle.std.proofs.Common.{arith}
use Rattle.asmap_back.proofs.Steps.{reads_as}
use Rattle.map_diff.proofs.Cursors.{at_return, at_default, at_jump, at_match, match_fits}
use Rattle.map_diff.proofs.cursor.+cursor_at.Goals.{In-Match, In-Default}
use Rattle.map_diff.proofs.cursor.+cursor_at.Goals as goal

pub match_size-requires-clause-high : goal.match_size-requires-clause-high
match_size-requires-clause-high t c =
    let read = c.first_instruction-instruction in
    match_fits c.args.bits.now c.requires.tree.0 c.args.offset read.result.1 c.args.default c.in-Match.number c.requires.tree.1.0 c.requires.tree.1.1
    (reads_as c.args.bits.now c.args.offset read.result _ c.in-Match.is read.ensures.first)

pub cursor_at-requires : goal.cursor_at-requires
cursor_at-requires t c =
    let read = c.first_instruction-instruction in
    let next = at_default c.args.bits.now c.requires.tree.0 c.args.offset read.result.1 c.args.default c.in-Default.asn c.requires.tree.1.0 c.requires.tree.1.1
    (reads_as c.args.bits.now c.args.offset read.result _ c.in-Default.is read.ensures.first) read.ensures.offset.1 in
    (omega (arith, read.ensures.offset.0, read.ensures.offset.1), (c.requires.size, (c.requires.tree.0, (c.requires.tree.1.0, next))))

pub returns-in-Return : goal.returns-in-Return
returns-in-Return t c = λ n f h.
    let read = c.first_instruction-instruction in
    at_return c.args.bits.now n c.args.offset read.result.1 c.args.default c.in-Return.asn f h (reads_as c.args.bits.now c.args.offset read.result _ c.in-Return.is read.ensures.first)

pub returns-in-Jump : goal.returns-in-Jump
returns-in-Jump t c = λ n f h.
    let read = c.first_instruction-instruction in
    at_jump c.args.bits.now n c.args.offset read.result.1 c.args.default c.in-Jump.over f h (reads_as c.args.bits.now c.args.offset read.result _ c.in-Jump.is read.ensures.first) read.ensures.offset.1

pub returns-in-Match : goal.returns-in-Match
returns-in-Match t c = λ n f h.
    let read = c.first_instruction-instruction in
    at_match c.args.bits.now n c.args.offset read.result.1 c.args.default c.in-Match.number c.match_size.result f h
    (reads_as c.args.bits.now c.args.offset read.result _ c.in-Match.is read.ensures.first) read.ensures.offset.1 c.match_size.ensures.size

pub returns-in-Default : goal.returns-in-Default
returns-in-Default t c = λ n f h.
    let read = c.first_instruction-instruction in
    c.cursor_at.ensures n f (at_default c.args.bits.now n c.args.offset read.result.1 c.args.default c.in-Default.asn f h
    (reads_as c.args.bits.now c.args.offset read.result _ c.in-Default.is read.ensures.first) read.ensures.offset.1)
