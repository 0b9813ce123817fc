use Rattle.std.proofs.Common.{◌≤◌, length}
use Rattle.gen_load.specs.Log.{log}
use Rattle.addrman_run.proofs.Generating.{Writing}
use Rattle.addrman_run.proofs.generate.generate.Given as goal

-- the lines before these are written, but for those that wait
abbrev pub invariant-loop-piece : goal.invariant-loop-piece
invariant-loop-piece g l = record {
  writing : Writing (log l.fn.start l.fn.lines) l.log l.piece.items (g.K.Sink.written l.fn.out) (g.K.Sink.written l.out);
  never_falls : g.K.Sink.faults l.fn.out ≤ g.K.Sink.faults l.out;
}

abbrev pub decreases-loop-piece : goal.decreases-loop-piece
decreases-loop-piece g l = length l.log
