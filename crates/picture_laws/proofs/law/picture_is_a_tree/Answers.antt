use Rattle.picture_laws.proofs.Markups.{picture-tree}
use Rattle.picture_laws.proofs.law.picture_is_a_tree.Goals as goal

pub returns : goal.returns
returns c keys names each = picture-tree keys names each
