use Rattle.std.proofs.Common.{◌≡◌, length, map, string_bytes, take}
use Rattle.arguments.specs.Options.{AreMarks}
use Rattle.arguments.specs.declared.marks.TheConstants.{MAX_MARKS}
use Rattle.arguments.proofs.marks.read_marks.Given as goal

-- the first texts are those of the sets
abbrev pub invariant-loop-i : goal.invariant-loop-i
invariant-loop-i l = (length l.sets ≡ MAX_MARKS) × AreMarks (take l.i (map string_bytes l.words)) l.sets
