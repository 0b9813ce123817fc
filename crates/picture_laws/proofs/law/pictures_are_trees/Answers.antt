use Rattle.picture_laws.proofs.Trees.{tree-of, tree-of-view}
use Rattle.picture_laws.proofs.law.pictures_are_trees.Goals as goal

pub returns-clause-views : goal.returns-clause-views
returns-clause-views c view sources = tree-of-view view sources

pub returns-clause-tables : goal.returns-clause-tables
returns-clause-tables c st sound = tree-of st sound.records
