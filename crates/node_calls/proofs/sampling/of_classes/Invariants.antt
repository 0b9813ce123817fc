use Rattle.std.proofs.Common.{◌≡◌, ◌≤◌, filter, length, take}
use Rattle.node_calls.specs.Unfiltered.{is_in}
use Rattle.node_calls.proofs.sampling.of_classes.Given as goal

-- those of the first records
abbrev pub invariant-loop-rec : goal.invariant-loop-rec
invariant-loop-rec l = record {
  found : l.found.items ≡ filter (is_in l.classes) (take l.rec-index l.recs);
  few : length l.found.items ≤ l.rec-index;
}
