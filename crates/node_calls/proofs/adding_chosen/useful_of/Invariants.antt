use Rattle.std.proofs.Common.{◌≡◌, take, map}
use Rattle.node_calls.specs.Chosen.{useful}
use Rattle.node_calls.proofs.adding_chosen.useful_of.Given as goal

-- those of the first entries
abbrev pub invariant-loop-entry : goal.invariant-loop-entry
invariant-loop-entry l = l.found.items ≡ map (useful l.services l.nets l.bans l.now) (take l.entry-index l.entries)
