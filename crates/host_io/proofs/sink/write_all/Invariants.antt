use Rattle.std.proofs.Common.{◌≡◌, ◌≤◌, ◌-◌, ◌++◌, length, take, IfSome, IfNone, Some, None}
use Rattle.host_io.proofs.sink.write_all.Given as goal

-- the first `done` bytes are written
abbrev pub invariant-loop-done : goal.invariant-loop-done
invariant-loop-done g l = record {
  within : l.done ≤ length l.bytes;
  told : IfSome (g.K.Sink.written l.fn.sink) (λ before. g.K.Sink.written l.sink ≡ Some (before ++ take l.done l.bytes));
  unknown : IfNone (g.K.Sink.written l.fn.sink) (g.K.Sink.written l.sink ≡ None);
  never_falls : g.K.Sink.faults l.fn.sink ≤ g.K.Sink.faults l.sink;
}

abbrev pub decreases-loop-done : goal.decreases-loop-done
decreases-loop-done g l = length l.bytes - l.done
