use Rattle.std.proofs.Common.{All, map, take}
use Rattle.serde_json.specs.View.{view}
use Rattle.ban_list.specs.Subnet.{IsProper}
use Rattle.ban_list.specs.BanFile.{AreElements}
use Rattle.ban_list.proofs.read_file.counted_of.Given as goal

-- the bans of the elements before this one
abbrev pub invariant-loop-element : goal.invariant-loop-element
invariant-loop-element l = record {
  counted : AreElements l.rule (map view (take l.element-index l.elements)) l.counted.items;
  proper : All (λ ban. IsProper ban.subnet) l.counted.items;
}
