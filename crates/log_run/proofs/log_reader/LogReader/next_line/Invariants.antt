use Rattle.std.proofs.Common.{◌≤◌}
use Rattle.log_run.proofs.Readers.{SoFar, left_to_read}
use Rattle.log_run.proofs.log_reader.LogReader.next_line.Given as goal

abbrev pub invariant-loop-self : goal.invariant-loop-self
invariant-loop-self g l = record {
  so_far : SoFar l.fn.self l.self (g.L.Source.left l.fn.source) (g.L.Source.left l.source);
  never_falls : g.L.Source.faults l.fn.source ≤ g.L.Source.faults l.source;
}

abbrev pub decreases-loop-self : goal.decreases-loop-self
decreases-loop-self g l = left_to_read l.self
