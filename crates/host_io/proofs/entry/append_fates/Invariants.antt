use Rattle.std.proofs.Common.{◌≡◌, ◌≤◌, ◌++◌, take, vec_len}
use Rattle.host_io.proofs.entry.append_fates.Given as goal

abbrev pub invariant-loop-fate : goal.invariant-loop-fate
invariant-loop-fate l =
    (l.to.items ≡ l.initial.to.items ++ take l.fate-index l.fates)
    × (vec_len l.initial.to ≤ vec_len l.to)
