use Rattle.std.proofs.Common.{◌≡◌, take}
use Rattle.indexmap.specs.IndexMap.{keys}
use Rattle.node_json.specs.Groups.{known_numbers}
use Rattle.node_json.proofs.groups.count_known.Given as goal

-- the known numbers before this one
abbrev pub invariant-loop-number : goal.invariant-loop-number
invariant-loop-number g l = keys l.seen ≡ known_numbers (take l.number-index l.numbers)
