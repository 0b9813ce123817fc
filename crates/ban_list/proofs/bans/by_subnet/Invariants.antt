use Rattle.std.proofs.Common.{◌≡◌, All, drop}
use Rattle.std.specs.List.{fold}
use Rattle.std.specs.Map.{values_of}
use Rattle.ban_list.specs.Bans.{put}
use Rattle.ban_list.specs.BanFile.{merged}
use Rattle.ban_list.proofs.Merging.{IsOwn}
use Rattle.ban_list.proofs.bans.by_subnet.Given as goal

-- what is left makes of the bans already merged what all bans make
abbrev pub invariant-loop-ban : goal.invariant-loop-ban
invariant-loop-ban l = record {
  own : All IsOwn l.map.entries;
  rest : fold (λ done ban. put ban done) (values_of l.map.entries) (drop l.ban-index l.bans) ≡ merged l.bans;
}
