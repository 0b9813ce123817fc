use Rattle.std.proofs.Common.{◌-◌, length}
use Rattle.asmap_vm.proofs.StepLaws.{IsOnTheWay}
use Rattle.asmap_vm.proofs.scan.Scan.is_sane.Given as goal

abbrev pub invariant-loop : goal.invariant-loop
invariant-loop l = IsOnTheWay l.bits l.scan

abbrev pub decreases-loop : goal.decreases-loop
decreases-loop l = length l.bits - l.scan.offset
