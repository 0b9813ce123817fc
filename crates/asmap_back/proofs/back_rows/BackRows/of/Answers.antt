use Rattle.std.proofs.Common.{sym, arith}
use Rattle.asmap_back.proofs.Steps.{held_ahead, moved}
use Rattle.asmap_back.proofs.back_rows.BackRows.of.Goals as goal

pub returns : goal.returns
returns c = record {
  parts = moved _ _ _ _ _ _ (sym c.start.ensures.offset) (sym c.start.ensures.parts) (held_ahead c.args.code.now c.of.result c.code.result.now c.code.ensures c.of.ensures.bits c.args.code.now.sane);
  within = omega (arith, c.start.ensures.offset);
}
