use Rattle.std.proofs.Common.{◌+◌, arith}
use Rattle.std.proofs.lemmas.Grind.{common_steps}
use Rattle.raw_file.proofs.Inputs.{takes_more}
use Rattle.raw_file.proofs.input.read_input.Goals as goal

pub returns-in-Ok-eq0-clause-taken : goal.returns-in-Ok-eq0-clause-taken
returns-in-Ok-eq0-clause-taken g c =
    takes_more _ _ _ c.loop-text.text.items _ (c.args.limit + 1) c.loop-text.invariant.moved c.read_piece.ensures.taken (grind (arith, common_steps, c.loop-text.text.ok.0))

pub returns-in-Err-Failed-clause-taken : goal.returns-in-Err-Failed-clause-taken
returns-in-Err-Failed-clause-taken g c =
    takes_more _ _ _ c.loop-text.text.items _ (c.args.limit + 1) c.loop-text.invariant.moved c.read_piece.ensures.taken (grind (arith, common_steps, c.loop-text.text.ok.0))

pub returns-in-Err-Memory-clause-taken : goal.returns-in-Err-Memory-clause-taken
returns-in-Err-Memory-clause-taken g c =
    takes_more _ _ _ c.loop-text.text.items _ (c.args.limit + 1) c.loop-text.invariant.moved c.read_piece.ensures.taken (grind (arith, common_steps, c.loop-text.text.ok.0))
