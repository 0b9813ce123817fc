use Rattle.std.proofs.Common.{◌∙◌, arith}
use Rattle.std.proofs.lemmas.Grind.{common_steps}
use Rattle.host_io.proofs.Asking.{reads_then}
use Rattle.host_io.proofs.FirstBytes.{one_more}
use Rattle.host_io.proofs.reading.read_past.Goals as goal

pub loop-name-preserved : goal.loop-name-preserved
loop-name-preserved g c = record {
  room = c.loop-name.invariant.room;
  within = grind (arith, common_steps, c.in_ok-count.ensures.grown, c.in_ok-count.ensures.within);
  same = c.read_piece.ensures.same ∙ c.loop-name.invariant.same;
  never_falls = omega (arith, c.read_piece.ensures.never_falls, c.loop-name.invariant.never_falls);
  asks = reads_then c.args.name _ _ _ c.loop-name.invariant.asks c.read_piece.ensures.asks;
  found = one_more c.args.name _ _ _ _ _ _ _ c.loop-name.invariant.same c.loop-name.invariant.found
      c.in_ok-count.ensures.appended c.in_ok-count.ensures.grown;
}
