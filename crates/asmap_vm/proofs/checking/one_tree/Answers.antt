use Rattle.std.proofs.Common.{sym, ◌∙◌}
use Rattle.asmap_vm.proofs.TreeLaws.{tree_of-file}
use Rattle.asmap_vm.proofs.checking.one_tree.Goals as goal

pub returns : goal.returns
returns c = λ t u bytes file other. sym (tree_of-file t bytes file) ∙ tree_of-file u bytes other
