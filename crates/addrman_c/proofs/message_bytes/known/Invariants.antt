use Rattle.std.proofs.Common.{◌≡◌, take}
use Rattle.addrman_c.specs.Messages.{known}
use Rattle.addrman_c.proofs.message_bytes.known.Given as goal

-- those of the first entries
abbrev pub invariant-loop-entry : goal.invariant-loop-entry
invariant-loop-entry l = l.found.items ≡ known (take l.entry-index l.entries)
