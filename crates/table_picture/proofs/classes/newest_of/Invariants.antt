use Rattle.std.proofs.Common.{◌≡◌, take}
use Rattle.table_picture.specs.By.{newest_in}
use Rattle.table_picture.proofs.classes.newest_of.Given as goal

-- that of the records before this one
abbrev pub invariant-loop-rec : goal.invariant-loop-rec
invariant-loop-rec l = l.newest ≡ newest_in (take l.rec-index l.recs)
