use Rattle.std.proofs.Common.{◌≡◌, length, take}
use Rattle.table_groups.specs.Tally.{by_bytes}
use Rattle.table_risk.specs.Inside.{firsts_by}
use Rattle.table_risk.proofs.firsts.find_firsts.Given as goal

-- the records before this one are noted
abbrev pub invariant-loop-index : goal.invariant-loop-index
invariant-loop-index g l = by_bytes l.firsts.entries ≡ firsts_by l.placer l.by (length l.recs) (take l.index l.recs)
