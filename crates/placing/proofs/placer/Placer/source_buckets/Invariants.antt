use Rattle.placing.specs.Places.{source_bucket}
use Rattle.placing.proofs.Buckets.{Filled}
use Rattle.placing.proofs.placer.Placer.source_buckets.Given as goal

abbrev pub invariant-loop-i : goal.invariant-loop-i
invariant-loop-i l = Filled (source_bucket l.self l.group) l.buckets 64 l.i
