use Rattle.picture_laws.proofs.Trees.{tree-of-sets}
use Rattle.picture_laws.proofs.law.pictures_of_sets_are_trees.Goals as goal

pub returns : goal.returns
returns c sets chain view plain each = tree-of-sets sets chain view plain each
