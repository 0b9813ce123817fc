use Rattle.std.proofs.Common.{◌-◌}
use Rattle.asmap_compile.proofs.tree.+put_tree.Given as goal

abbrev pub decreases-put_tree : goal.decreases-put_tree
decreases-put_tree l = 128 - l.depth
