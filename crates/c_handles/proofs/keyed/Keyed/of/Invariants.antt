use Rattle.std.proofs.Common.{◌≡◌, take}
use Rattle.c_handles.specs.Seeded.{seeded}
use Rattle.c_handles.proofs.keyed.Keyed.of.Given as goal

-- the keys before this position are fed
abbrev pub invariant-loop-key : goal.invariant-loop-key
invariant-loop-key l = l.start ≡ seeded (take l.key-index l.keys)
