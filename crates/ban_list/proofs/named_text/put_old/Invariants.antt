use Rattle.std.proofs.Common.{map, take}
use Rattle.std.specs.Prelude.{flat_map}
use Rattle.json.specs.Value.{value_view}
use Rattle.ban_list.specs.OldFile.{IsAppended, item_tokens}
use Rattle.ban_list.proofs.named_text.put_old.Given as goal

-- those before this one
abbrev pub invariant-loop-place : goal.invariant-loop-place
invariant-loop-place l =
    IsAppended l.initial.writer l.writer (flat_map (item_tokens (map value_view l.items)) (take l.place-index l.places))
