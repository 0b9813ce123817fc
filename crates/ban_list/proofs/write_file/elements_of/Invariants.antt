use Rattle.std.proofs.Common.{◌≡◌, All, map, take}
use Rattle.serde_json.specs.View.{view}
use Rattle.ban_list.specs.BanFile.{IsReadBack, ban_data}
use Rattle.ban_list.proofs.write_file.elements_of.Given as goal

-- the elements of the bans before this one
abbrev pub invariant-loop-ban : goal.invariant-loop-ban
invariant-loop-ban l = record {
  values : map view l.elements.items ≡ map ban_data (take l.ban-index l.bans);
  back : All IsReadBack (take l.ban-index l.bans);
}
