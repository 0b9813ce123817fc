use Rattle.std.proofs.Common.{◌≡◌, ◌++◌, take}
use Rattle.std.specs.List.{flat_map}
use Rattle.addrman_run.specs.Picture.{in_option}
use Rattle.addrman_run.proofs.picture.add_sets.Given as goal

abbrev pub invariant-loop-set : goal.invariant-loop-set
invariant-loop-set l = l.sets.items ≡ l.fn.sets.items ++ flat_map in_option (take l.set-index l.marks)
