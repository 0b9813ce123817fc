use Rattle.std.proofs.Common.{◌≡◌, [], fold, take}
use Rattle.table_groups.specs.Tally.{by_bytes}
use Rattle.table_risk.specs.Inside.{noted_among}
use Rattle.table_risk.proofs.ten.find_groups.Given as goal

-- the groups of the records before this one
abbrev pub invariant-loop-rec : goal.invariant-loop-rec
invariant-loop-rec g l = by_bytes l.groups.entries ≡ fold (noted_among l.placer l.sets) [] (take l.rec-index l.recs)
