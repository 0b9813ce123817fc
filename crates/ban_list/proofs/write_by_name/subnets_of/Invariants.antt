use Rattle.std.proofs.Common.{map, take}
use Rattle.serde_json.specs.View.{view}
use Rattle.ban_list.specs.OldFile.{AreSubnets}
use Rattle.ban_list.proofs.write_by_name.subnets_of.Given as goal

-- the elements before this one
abbrev pub invariant-loop-element : goal.invariant-loop-element
invariant-loop-element l = AreSubnets (map view (take l.element-index l.elements)) l.subnets.items
