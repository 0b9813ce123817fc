use Rattle.std.proofs.Common.{◌≡◌, map, length}
use Rattle.table_picture.specs.Picture.{names_in}
use Rattle.table_picture.proofs.picture.names_in.Given as goal

-- the names of the groups before this one
abbrev pub invariant-loop-index : goal.invariant-loop-index
invariant-loop-index g l = record {
  names : map (λ v. v.items) l.names.items ≡ names_in l.by l.newest (g.T.TableView.view l.tables) l.marks l.index;
  long : length l.names.items ≡ l.index;
}
