use Rattle.std.proofs.Common.{◌≡◌, ◌-◌, ◌++◌, false, drop, replicate}
use Rattle.asmap_vm.proofs.scan.is_padding.Given as goal

abbrev pub invariant-loop-offset : goal.invariant-loop-offset
invariant-loop-offset l = drop l.at l.bits ≡ replicate (l.offset - l.at) false ++ drop l.offset l.bits
