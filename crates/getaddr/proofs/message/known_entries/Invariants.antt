use Rattle.std.proofs.Common.{◌≡◌, take, filter}
use Rattle.getaddr.specs.Messages.{is_known}
use Rattle.getaddr.proofs.message.known_entries.Given as goal

-- those of the first entries
abbrev pub invariant-loop-entry : goal.invariant-loop-entry
invariant-loop-entry l = l.fit.items ≡ filter is_known (take l.entry-index l.entries)
