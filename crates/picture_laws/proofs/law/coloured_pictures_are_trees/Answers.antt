use Rattle.picture_laws.proofs.Trees.{tree-by}
use Rattle.picture_laws.proofs.law.coloured_pictures_are_trees.Goals as goal

pub returns : goal.returns
returns c by chain st plain sound = tree-by by chain st plain sound.records
