use Rattle.std.proofs.Common.{◌+◌, ◌-◌, ◌≤◌, length}
use Rattle.std.specs.Prelude.{None}
use Rattle.log_run.specs.Waiting.{Batch}
use Rattle.log_run.specs.declared.sizes.TheConstants.{MAX_LOG}
use Rattle.log_run.proofs.run.carry_out_batch.Given as goal

-- the lines before this one are carried out, and their replies are appended
abbrev pub invariant-loop-alloc : goal.invariant-loop-alloc
invariant-loop-alloc g l = record {
  batch : Batch g.S.LineSteps.step g.S.LineSteps.has_fault l.fn.reader l.reader l.fn.state l.state l.fn.world l.world l.fn.text.items l.text.items l.fn.line l.line None;
  within : l.line + length l.reader.waiting ≤ MAX_LOG;
  ready : g.S.LineSteps.ready l.state l.world;
  room : g.S.LineSteps.has_room l.state (MAX_LOG - l.line);
}

abbrev pub decreases-loop-alloc : goal.decreases-loop-alloc
decreases-loop-alloc g l = length l.reader.waiting
