use Rattle.std.proofs.Common.{◌-◌, ◌≤◌}
use Rattle.log_run.specs.declared.sizes.TheConstants.{MAX_LOG}
use Rattle.log_run.proofs.Loops.{Looped, left_of}
use Rattle.log_run.proofs.run.run_log.Given as goal

-- the lines before this one are answered, and their replies are written
abbrev pub invariant-loop-count : goal.invariant-loop-count
invariant-loop-count g l = record {
  looped : Looped g.S.LineSteps.step (l.fn.state, l.fn.world) (g.L.Source.left l.fn.log) (g.L.Source.left l.log)
      (g.K.Sink.written l.fn.out) (g.K.Sink.written l.out) l.reader l.state l.world l.line;
  ready : g.S.LineSteps.ready l.state l.world;
  room : g.S.LineSteps.has_room l.state (MAX_LOG - l.line);
  log_never_falls : g.L.Source.faults l.fn.log ≤ g.L.Source.faults l.log;
  out_never_falls : g.K.Sink.faults l.fn.out ≤ g.K.Sink.faults l.out;
}

abbrev pub decreases-loop-count : goal.decreases-loop-count
decreases-loop-count g l = left_of l.reader
