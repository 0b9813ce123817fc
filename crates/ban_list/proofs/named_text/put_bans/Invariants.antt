use Rattle.std.proofs.Common.{map, take}
use Rattle.std.specs.Prelude.{flat_map}
use Rattle.json.specs.Value.{value_view}
use Rattle.ban_list.specs.OldFile.{IsAppended, ban_tokens}
use Rattle.ban_list.proofs.named_text.put_bans.Given as goal

-- those before this one
abbrev pub invariant-loop-ban : goal.invariant-loop-ban
invariant-loop-ban l =
    IsAppended l.initial.writer l.writer (flat_map (ban_tokens (map value_view l.items) l.places.entries) (take l.ban-index l.bans))
